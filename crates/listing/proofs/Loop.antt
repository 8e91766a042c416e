-- A scan as a loop over the places: what a turn and the end ask, and the scan of the first i places. Assumes nothing.
use native.Mathlib.Omega.{arith}
use native.Mathlib.Numerals.{add-one}
use Prim.Native.Nat.{ℕ, zero, suc, ◌+◌, ◌≤◌, ◌<◌}
use mathlib.Core.Path.{◌≡◌, refl, sym, ap, subst, ◌∙◌}
use mathlib.Core.Logic.{◌≢◌}
use mathlib.Core.List.{List}
use lib.ListN.{length, drop, drop_of_length-le}
use lib.Seq.{drop-cons}
use Rattle.routes.specs.declared.Record.{Record}
use Rattle.routes.specs.Records.{empty_record, record_at}
use Rattle.listing.specs.declared.Sought.{Sought}
use Rattle.listing.specs.declared.Sought.TheVariants.{Nothing, Best, Same}
use Rattle.listing.specs.declared.Query.{Query}
use Rattle.listing.specs.declared.Scan.{Scan}
use Rattle.listing.specs.Scan.{begun_scan, first_by, first_place, step_of, scan_from, scan_of}

within_end : (sought : Sought) (n : ℕ) → first_by sought n ≤ n
within_end Nothing n = omega arith
within_end Best n = omega arith
within_end Same n = omega arith

from_front : (sought : Sought) (n : ℕ) → sought ≢ Nothing → 0 ≡ first_by sought n
from_front Nothing n some = absurd (some refl)
from_front Best n some = refl
from_front Same n some = refl

module _ (ys : List Record) (q : Query) where
  pub starts_within : (i : ℕ) → i ≡ first_place q (length ys) → i ≤ length ys
  starts_within i e = subst (λ (k : ℕ). k ≤ length ys) (sym e) (within_end q.sought (length ys))

  pub starts : (s : Scan) → s ≡ begun_scan → (i : ℕ) → i ≡ first_place q (length ys) → scan_from q s i (drop i ys) ≡ scan_of q ys
  unfolding scan_of
  starts s e i f = ap (λ (x : Scan). scan_from q x i (drop i ys)) e ∙ ap (λ (k : ℕ). scan_from q begun_scan k (drop k ys)) f

  pub turned : (s : Scan) (i : ℕ) → i < length ys → (r : Record) → r ≡ record_at ys i → (t : Scan) → t ≡ step_of q s i r
      → scan_from q t (i + 1) (drop (i + 1) ys) ≡ scan_from q s i (drop i ys)
  unfolding scan_from
  turned s i l r e t g =
      ap (λ (x : Scan). scan_from q x (i + 1) (drop (i + 1) ys)) (g ∙ ap (step_of q s i) e)
      ∙ ap (λ (k : ℕ). scan_from q (step_of q s i (record_at ys i)) (i + 1) (drop k ys)) (add-one i)
      ∙ sym (ap (scan_from q s i) (drop-cons ys i empty_record l))

  pub ended : (s : Scan) (i : ℕ) → length ys ≤ i → s ≡ scan_from q s i (drop i ys)
  unfolding scan_from
  ended s i l = sym (ap (scan_from q s i) (drop_of_length-le ys l))

  -- Where nothing is sought nothing is found.
  pub scan_nothing : q.sought ≡ Nothing → scan_of q ys ≡ begun_scan
  scan_nothing e = sym (ended begun_scan (length ys) (omega arith) ∙ starts begun_scan refl (length ys) (sym (ap (λ (s : Sought). first_by s (length ys)) e)))

  -- what is found of the first i places
  abbrev pub scan_to : ℕ → Scan
  scan_to zero = begun_scan
  scan_to (suc i) = step_of q (scan_to i) i (record_at ys i)

  module _ (some : q.sought ≢ Nothing) where
    so_far : (i : ℕ) → i ≤ length ys → scan_from q (scan_to i) i (drop i ys) ≡ scan_of q ys
    so_far zero l = starts begun_scan refl 0 (from_front q.sought (length ys) some)
    so_far (suc i) l =
        ap (λ (k : ℕ). scan_from q (scan_to (suc i)) k (drop k ys)) (sym (add-one i))
        ∙ turned (scan_to i) i (omega arith) (record_at ys i) refl (scan_to (suc i)) refl
        ∙ so_far i (omega arith)

    -- The scan is that of all its places.
    pub scan_to_lem : scan_of q ys ≡ scan_to (length ys)
    scan_to_lem = sym (ended (scan_to (length ys)) (length ys) (omega arith) ∙ so_far (length ys) (omega arith))
