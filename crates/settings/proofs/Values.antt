-- When an address, a path, an MTU, a yes/no number or a place is taken: what no condition of specs/Refusals.antt refuses, in plain terms.
-- Assumes nothing.
use native.Mathlib.Omega.{arith}
use Prim.Native.Nat.{ℕ, zero, suc, ◌^◌, ◌≤◌, ◌<◌}
use mathlib.Core.Path.{◌≡◌, refl, sym, ap, subst, ◌∙◌}
use mathlib.Core.Logic.{◌↔◌, ◌≢◌, ⊎_elim}
use mathlib.Core.Bool.{false, not}
use mathlib.Core.List.{List, [], ◌∷◌}
use lib.Dec.{eqb}
use lib.ListN.{get_or}
use borrow.Author.Tests.{eq-eqb, eqb-true, le-leb, leb-true, lt-ltb, ltb-true}
use Rattle.checks.proofs.Bools.{true_false, not-false}
use Rattle.address.specs.Octets.{dotted, Octet}
use Rattle.address.specs.Class.{between, class_number, class_of}
use Rattle.address.specs.Path.{path_form}
use Rattle.address.specs.declared.Address.{Address}
use Rattle.address.specs.declared.Class.{Class}
use Rattle.address.specs.declared.Class.TheVariants.{Invalid, Unicast, Multicast, NetBroadcast, DomainBroadcast, ScpsBroadcast, LimitedBroadcast}
use Rattle.address.specs.declared.PathForm.{PathForm}
use Rattle.address.specs.declared.PathForm.TheVariants.{Invalid as Bad, Valid}
use Rattle.address.specs.Row.{Row}
use Rattle.address.proofs.ClassTable.{class_one, class_row}
use Rattle.address.proofs.Paths.{path_valid}
use Rattle.settings.proofs.Answers.{both_true, either_true}
use Rattle.settings.specs.Refusals.{other_class, is_invalid, path_class_refused, largest_mtu, mtu_refused, flag_refused, place_refused}

-- the classes in the order of their numbers, so that the number tells the class
classes : List Class
classes = Invalid ∷ Unicast ∷ Multicast ∷ NetBroadcast ∷ DomainBroadcast ∷ ScpsBroadcast ∷ LimitedBroadcast ∷ []

by_number : (c : Class) → get_or classes (class_number c) Invalid ≡ c
unfolding classes
by_number Invalid = refl
by_number Unicast = refl
by_number Multicast = refl
by_number NetBroadcast = refl
by_number DomainBroadcast = refl
by_number ScpsBroadcast = refl
by_number LimitedBroadcast = refl

-- 25: An address is taken exactly where its class is the one asked for.
pub class_taken : (c : Class) (a : Address) → (other_class c a ≡ false) ↔ (class_of a.0 ≡ c)
unfolding other_class
class_taken c a = (
  λ e.
      let same = eqb-true _ _ (not-false _ e) in
      sym (by_number (class_of a.0)) ∙ ap (λ (n : ℕ). get_or classes n Invalid) same ∙ by_number c,
  λ e. simp (eq-eqb _ _ (ap class_number e)),
)

-- 25: That is where page 01's table has the address in a line of that class.
pub class_row_taken : (c : Class) (a : Address) → a.0 < 2 ^ 32 → (other_class c a ≡ false) ↔ Row c a.0
class_row_taken c a h = (
  λ e. subst (λ (d : Class). Row d a.0) ((class_taken c a).0 e) (class_row a.0 h),
  λ r. (class_taken c a).1 (class_one c a.0 r),
)

form_taken : (f : PathForm) → (is_invalid f ≡ false) ↔ (f ≡ Valid)
form_taken Valid = (λ e. refl, λ e. refl)
form_taken Bad = (λ e. true_false e, λ e. true_false cc)

-- 25: A path is taken exactly where its first octet is 10 and its last is not 254.
pub path_taken : (a b c d : ℕ) → Octet a → Octet b → Octet c → Octet d
    → (path_class_refused (record { 0 = dotted a b c d }) ≡ false) ↔ ((a ≡ 10) × (d ≢ 254))
unfolding path_class_refused
path_taken a b c d ha hb hc hd =
    let valid = path_valid a b c d ha hb hc hd in
    let form = form_taken (path_form (dotted a b c d)) in
    (λ e. valid.0 (form.0 e), λ e. form.1 (valid.1 e))

-- What is asked to be from one number to another is taken exactly there.
pub range_taken : (low high n : ℕ) → (not (between low high n) ≡ false) ↔ ((low ≤ n) × (n ≤ high))
range_taken low high n = (
  λ e. let b = both_true _ _ (not-false _ e) in (leb-true low n b.0, leb-true n high b.1),
  λ h. rw (le-leb low n h.0, le-leb n high h.1),
)

-- 24: An MTU is taken exactly from 1 to 8,191.
pub mtu_taken : (mtu : ℕ) → (mtu_refused mtu ≡ false) ↔ ((1 ≤ mtu) × (mtu ≤ largest_mtu))
mtu_taken = range_taken 1 largest_mtu

-- 24: A yes/no number is taken exactly where it is 0 or 1.
pub flag_taken : (v : ℕ) → (flag_refused v ≡ false) ↔ (v < 2)
flag_taken v = (
  λ e. ⊎_elim (λ h. omega (arith, eqb-true v 0 h)) (λ h. omega (arith, eqb-true v 1 h)) (either_true (eqb v 0) (eqb v 1) (not-false _ e)),
  taken v,
)
  where
    taken : (v : ℕ) → v < 2 → flag_refused v ≡ false
    taken zero h = refl
    taken (suc zero) h = refl
    taken (suc (suc v)) h = absurd (omega arith)

-- 21: A place is taken exactly where it is under the number of places.
pub place_taken : (place places : ℕ) → (place_refused place places ≡ false) ↔ (place < places)
place_taken place places = (λ e. ltb-true _ _ (not-false _ e), λ h. rw (lt-ltb place places h))
