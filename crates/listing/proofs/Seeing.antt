-- What a scan has seen: the counts of ones of all records that fit, and so a turn enters exactly a record that is shown. Assumes nothing.
use native.Mathlib.Omega.{arith}
use native.Mathlib.Decide.{dec_le, ℕ_discrete}
use native.Mathlib.Nat.{lt_of_not-le}
use Prim.Native.Nat.{ℕ, zero, suc, ◌+◌, ◌-◌, ◌^◌, ◌<◌, max}
use mathlib.Core.Path.{◌≡◌, refl, ap, subst, ◌∙◌}
use mathlib.Core.Logic.{◌≢◌, by_cases}
use mathlib.Core.Bool.{Bool, true, false, not, ◌&&◌, ◌||◌}
use mathlib.Core.List.{List}
use lib.Dec.{eqb}
use lib.Bits.{bit_or}
use lib.Pow.{pow_pos, pow-lt}
use borrow.Author.Tests.{eq-eqb, ne_eqb}
use Rattle.checks.specs.Order.{pick}
use Rattle.networks.proofs.Bits.{bit, bit_small, or_bit}
use Rattle.address.specs.Mask.{ones_of}
use Rattle.sets.specs.Sets.{in_set, any_below}
use Rattle.sets.proofs.Members.{added_bit, top_bit, over_bit}
use Rattle.routes.specs.declared.Record.{Record}
use Rattle.routes.specs.Records.{record_at}
use Rattle.listing.specs.declared.Query.{Query}
use Rattle.listing.specs.declared.Scan.{Scan}
use Rattle.listing.specs.Scan.{matches, unrefused, is_wanted, is_longer, noted, found_at, taken_of, judged_of, step_of}
use Rattle.listing.proofs.Fitting.{fits, hidden_by, shown}
use Rattle.listing.proofs.Loop.{scan_to}

-- ---- a count more in a set
same_power : (k : ℕ) → bit k (2 ^ k) ≡ 1
same_power k = ap (bit k) (let e : 2 ^ k ≡ 0 + 2 ^ k = omega arith in e) ∙ top_bit k 0 (pow_pos k)

other_power : (k n : ℕ) → n ≢ k → bit k (2 ^ n) ≡ 0
other_power k n differs =
    by_cases (dec_le n k)
    (λ l. over_bit k (2 ^ n) (pow-lt {i = n} {j = k} (omega arith)))
    (λ g.
    let l = lt_of_not-le g in
    ap (λ (m : ℕ). bit k (2 ^ m)) (let e : n ≡ suc (n - suc k) + k = omega arith in e)
    ∙ ap (bit k) (let e : 2 ^ (suc (n - suc k) + k) ≡ 0 + 2 ^ (suc (n - suc k) + k) = omega arith in e)
    ∙ added_bit k (n - suc k) 0
    ∙ over_bit k 0 (pow_pos k))

with_one : (x : ℕ) → x < 2 → eqb (max x 1) 1 ≡ (eqb x 1 || true)
with_one zero h = refl
with_one (suc zero) h = refl
with_one (suc (suc x)) h = absurd (omega arith)

with_none : (x : ℕ) → x < 2 → eqb (max x 0) 1 ≡ (eqb x 1 || false)
with_none zero h = refl
with_none (suc zero) h = refl
with_none (suc (suc x)) h = absurd (omega arith)

in_or : (k n set : ℕ) → in_set k (bit_or set (2 ^ n)) ≡ (in_set k set || eqb n k)
in_or k n set =
    by_cases (ℕ_discrete n k)
    (λ e.
    rw (or_bit k set (2 ^ n), e, same_power k, eq-eqb k k refl) (with_one (bit k set) (bit_small k set)))
    (λ no. rw (or_bit k set (2 ^ n), other_power k n no, ne_eqb n k no) (with_none (bit k set) (bit_small k set)))

in_none : (k : ℕ) → in_set k 0 ≡ false
in_none k = ap (λ (x : ℕ). eqb x 1) (over_bit k 0 (pow_pos k))

-- ---- one turn
joined : {A : Type 0} (t u v : Bool) (x y : A) → pick t (pick (u && v) x y) y ≡ pick ((t && u) && v) x y
joined true u v x y = refl
joined false u v x y = refl

module _ (q : Query) (s : Scan) (i : ℕ) (r : Record) where
  abbrev pub entered : Scan
  entered = taken_of q (noted s (2 ^ ones_of r.mask)) i r

  -- a record that fits is entered, unless its count is seen
  pub step_is : step_of q s i r ≡ pick (fits q r && not (in_set (ones_of r.mask) s.seen)) entered s
  unfolding step_of judged_of
  step_is = joined (matches q r) (unrefused q r) (not (in_set (ones_of r.mask) s.seen)) entered s

  either_seen : (t : Bool) (u : Scan) → (pick t (found_at u i r) u).seen ≡ u.seen
  either_seen true u = refl
  either_seen false u = refl

  entered_seen : entered.seen ≡ bit_or s.seen (2 ^ ones_of r.mask)
  unfolding taken_of
  entered_seen = either_seen (is_wanted q r && is_longer (noted s (2 ^ ones_of r.mask)) r) (noted s (2 ^ ones_of r.mask))

or_with_false : (t : Bool) → t ≡ (t || false)
or_with_false true = refl
or_with_false false = refl

already : (k n set : ℕ) → in_set n set ≡ true → in_set k set ≡ (in_set k set || eqb n k)
already k n set h =
    by_cases (ℕ_discrete n k)
    (λ e. let here : in_set k set ≡ true = subst (λ (m : ℕ). in_set m set ≡ true) e h in rw here)
    (λ no. or_with_false (in_set k set) ∙ rw (ne_eqb n k no))

-- of one record: whether it fits, and whether its count is seen
turn_seen : (t u : Bool) (n k : ℕ) (a s : Scan) → in_set n s.seen ≡ u → a.seen ≡ bit_or s.seen (2 ^ n)
    → in_set k (pick (t && not u) a s).seen ≡ (in_set k s.seen || (t && eqb n k))
turn_seen true true n k a s h e = already k n s.seen h
turn_seen true false n k a s h e = ap (in_set k) e ∙ in_or k n s.seen
turn_seen false u n k a s h e = or_with_false (in_set k s.seen)

module _ (q : Query) (rs : List Record) where
  -- After i places the set holds a count exactly where a record before fits and has it.
  pub seen_is : (i k : ℕ) → in_set k (scan_to rs q i).seen ≡ any_below (hidden_by q rs k) i
  seen_is zero k = in_none k
  seen_is (suc i) k =
      let s = scan_to rs q i in
      let r = record_at rs i in
      ap (λ (x : Scan). in_set k x.seen) (step_is q s i r)
      ∙ turn_seen (fits q r) (in_set (ones_of r.mask) s.seen) (ones_of r.mask) k (entered q s i r) s refl (entered_seen q s i r)
      ∙ ap (λ (t : Bool). t || hidden_by q rs k i) (seen_is i k)

  -- So a turn enters the record exactly where it is shown.
  pub turn_is : (i : ℕ) → scan_to rs q (suc i) ≡ pick (shown q rs i) (entered q (scan_to rs q i) i (record_at rs i)) (scan_to rs q i)
  turn_is i =
      let s = scan_to rs q i in
      let r = record_at rs i in
      step_is q s i r ∙ ap (λ (t : Bool). pick (fits q r && not t) (entered q s i r) s) (seen_is i (ones_of r.mask))
