-- What is found of a header that may be sent on is what reading it answers, and where it differs then. Assumes nothing.
use Prim.Native.Nat.{ℕ}
use mathlib.Core.Path.{◌≡◌, refl, sym, ap, ◌∙◌}
use mathlib.Core.List.{List}
use mathlib.Core.Bool.{Bool, true, false}
use lib.Dec.{eqb}
use Rattle.std.specs.Prelude.{Result}
use Rattle.checks.specs.Order.{pick, first_of, outcome}
use Rattle.checks.proofs.Bools.{true_false}
use Rattle.checks.proofs.Laws.{told_outcome}
use Rattle.header.specs.Read.{header_of, read_refusals, read_checks, read_of, Read}
use Rattle.header.specs.Onward.{renewal_of, found_of, Found}
use Rattle.header.specs.declared.Header.{Header}
use Rattle.header.specs.declared.Renewal.{Renewal}
use Rattle.checks.specs.Told.{Good, Refused, told}
use Rattle.checks.specs.declared.Refusal.{Refusal}

-- what was found, as an answer of reading
abbrev pub read_in : Found → Read
read_in (Good (h, r)) = Good h
read_in (Refused n) = Refused n

found_case : (t : Bool) (n : ℕ) (h : Header) (r : Renewal) → read_in (pick {A = Found} t (Good (h, r)) (Refused n)) ≡ pick t (Good h) (Refused n)
found_case true n h r = refl
found_case false n h r = refl

pub found_read : (s : List ℕ) → read_in (found_of s) ≡ read_of s
unfolding found_of read_of
found_read s = found_case (eqb (first_of (read_checks s)) 0) (first_of (read_checks s)) (header_of s) (renewal_of s)

pub found_refused : (s : List ℕ) (n : ℕ) → found_of s ≡ Refused n → read_of s ≡ Refused n
found_refused s n e = rw e at (sym (found_read s))

abbrev renewal_in : Renewal → Found → Renewal
renewal_in d (Good p) = p.1
renewal_in d (Refused n) = d

good_case : (t : Bool) (n : ℕ) (g h : Header) (q r : Renewal) → pick {A = Found} t (Good (g, q)) (Refused n) ≡ Good (h, r) → r ≡ q
good_case true n g h q r e = ap (renewal_in r) (sym e)
good_case false n g h q r e = true_false cc

pub found_good : (s : List ℕ) (h : Header) (r : Renewal) → found_of s ≡ Good (h, r) → (read_of s ≡ Good h) × (r ≡ renewal_of s)
unfolding found_of
found_good s h r e =
    (rw e at (sym (found_read s)), good_case (eqb (first_of (read_checks s)) 0) (first_of (read_checks s)) (header_of s) h (renewal_of s) r e)

-- ---- what is told of the reader's answers

pub found_told : (s : List ℕ) (x : Result (Header × Renewal) Refusal) → x ≡ outcome (read_refusals s) (header_of s, renewal_of s) → told x ≡ found_of s
unfolding found_of read_checks
found_told s x e = ap told e ∙ told_outcome (read_refusals s) (header_of s, renewal_of s)

pub read_told : (s : List ℕ) (x : Result Header Refusal) → x ≡ outcome (read_refusals s) (header_of s) → told x ≡ read_of s
unfolding read_of read_checks
read_told s x e = ap told e ∙ told_outcome (read_refusals s) (header_of s)
