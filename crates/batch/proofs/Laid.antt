-- "Up to 64 datagrams as octets laid end to end, with a list of lengths" (page 02, W-201): of datagrams that lie so, item i is the i-th, whatever
-- octets follow the last. Assumes nothing.
use native.Mathlib.Omega.{arith}
use native.Mathlib.Nat.{le_of_suc-le-suc, not-suc-le-zero}
use Prim.Native.Nat.{ℕ, zero, suc, ◌+◌, ◌<◌}
use mathlib.Core.Path.{◌≡◌, ap, ap₂, ◌∙◌}
use mathlib.Core.List.{List, [], ◌∷◌, ◌++◌, map, flatten, append_assoc}
use lib.ListN.{length, get_or, take, drop}
use lib.Seq.{take-append_seam, drop-append-add}
use Rattle.batch.specs.Items.{start_of, octets_at}
use Rattle.batch.proofs.Sums.{starts, start_next}

-- behind the first datagram the others lie as they would without it
later : (n : ℕ) (ns : List ℕ) (i : ℕ) → start_of (n ∷ ns) (suc i) ≡ n + start_of ns i
later n ns zero = start_next (n ∷ ns) 0 ∙ omega (arith, starts (n ∷ ns), starts ns)
later n ns (suc i) =
    start_next (n ∷ ns) (suc i)
    ∙ ap (λ (m : ℕ). m + get_or ns i 0) (later n ns i)
    ∙ omega (arith, start_next ns i)

pub laid : (ds : List (List ℕ)) (rest : List ℕ) (i : ℕ) → i < length ds → octets_at (map length ds) (flatten ds ++ rest) i ≡ get_or ds i []
unfolding flatten
laid [] rest i h = absurd (not-suc-le-zero h)
laid (d ∷ ds) rest zero h =
    ap (λ (n : ℕ). take (length d) (drop n ((d ++ flatten ds) ++ rest))) (starts (map length (d ∷ ds)))
    ∙ ap (take (length d)) (append_assoc d (flatten ds) rest)
    ∙ take-append_seam d (flatten ds ++ rest)
laid (d ∷ ds) rest (suc i) h =
    ap₂ (λ (n : ℕ) (l : List ℕ). take (get_or (map length ds) i 0) (drop n l)) (later (length d) (map length ds) i) (append_assoc d (flatten ds) rest)
    ∙ ap (take (get_or (map length ds) i 0)) (drop-append-add d (flatten ds ++ rest) (start_of (map length ds) i))
    ∙ laid ds rest i (le_of_suc-le-suc h)
