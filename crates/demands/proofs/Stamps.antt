-- A timestamp in the field of eight octets that a reply has for it: its octets at the end, and 0 before them (003, 3.3.4.7.5). Assumes nothing.
use native.Mathlib.Omega.{arith}
use native.Mathlib.Nat.{add-suc, pow-suc, div-lt_iff_lt-mul}
use Prim.Native.Nat.{ℕ, zero, suc, ◌+◌, ◌-◌, ◌/◌, ◌%◌, ◌^◌, ◌<◌}
use mathlib.Core.Path.{◌≡◌, refl, ap, ◌∙◌}
use mathlib.Core.List.{List, [], ◌∷◌, ◌++◌, append_assoc, append-nil}
use lib.ListN.{length, take, replicate, replicate-append-replicate}
use lib.Seq.{take_all}
use Rattle.std.specs.Prelude.{Option, Some, None}
use Rattle.octets.specs.Octets.{number, octets}
use Rattle.octets.proofs.Laws.{number_lt}
use Rattle.header.specs.Form.{time_size}
use Rattle.header.specs.Build.{stamp_octets}
use Rattle.header.specs.declared.Timestamp.{Timestamp}
use Rattle.header.specs.declared.Timestamp.TheVariants as stamp
use Rattle.header.proofs.Back.{number_back}
use Rattle.header.proofs.BuiltLaws.{append_small}
use Rattle.header.proofs.Pieces.{stamp_le}
use Rattle.replies.specs.Reply.{stamp_number}
use Rattle.replies.proofs.ReadBack.{Octets, octets_small}

-- a number has 0 before the octets that hold it
zeros : (k : ℕ) → octets k 0 ≡ replicate k 0
unfolding octets
zeros zero = refl
zeros (suc k) =
    let more : k + 1 ≡ suc k = omega arith in
    ap (λ (l : List ℕ). l ++ (0 ∷ [])) (zeros k) ∙ replicate-append-replicate k 1 0 ∙ ap (λ (n : ℕ). replicate n 0) more

before : (k n v : ℕ) → v < 256 ^ n → octets (k + n) v ≡ replicate k 0 ++ octets n v
unfolding octets
before k zero v low =
    let none : v ≡ 0 = omega (arith, low) in
    let all : k + 0 ≡ k = omega arith in
    rw (none, all, append-nil {A = ℕ} (replicate k 0)) (zeros k)
before k (suc n) v low =
    let q : v / 256 < 256 ^ n = (div-lt_iff_lt-mul {k = 256} {x = v} {y = 256 ^ n} (omega arith)).1 (rw (pow-suc 256 n) at low) in
    rw (add-suc k n, before k n (v / 256) q) (append_assoc {A = ℕ} (replicate k 0) (octets n (v / 256)) (v % 256 ∷ []))

stamp_small : (t : Option Timestamp) → Octets (stamp_octets t)
unfolding stamp_octets
stamp_small None = λ i. omega arith
stamp_small (Some (stamp.Implicit t)) = octets_small 3 t
stamp_small (Some (stamp.Explicit p t)) = append_small (octets 1 p) (octets (time_size p) t) (octets_small 1 p) (octets_small (time_size p) t)
stamp_small (Some (stamp.Binary t)) = octets_small 4 t

-- Its octets are at most eight; so they stand at the end of the field.
pub stamp_placed : (t : Option Timestamp) → octets 8 (stamp_number t) ≡ replicate (8 - length (stamp_octets t)) 0 ++ stamp_octets t
unfolding stamp_number
stamp_placed t =
    let s = stamp_octets t in
    let n = length s in
    let all : 8 ≡ 8 - n + n = omega (arith, stamp_le t) in
    let back : octets n (number s 0 n) ≡ take (0 + n) s = number_back s (stamp_small t) 0 n (omega arith) in
    ap (λ (k : ℕ). octets k (number s 0 n)) all
    ∙ before (8 - n) n (number s 0 n) (number_lt s 0 n (stamp_small t))
    ∙ ap (λ (l : List ℕ). replicate (8 - n) 0 ++ l) (back ∙ take_all (0 + n) s (omega arith))
