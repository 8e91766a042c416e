-- When the reader and the builder refuse: a number is given exactly where its condition holds and none before it (docs/DECISIONS.md: reading 1, 4, 1
-- again, 5; building 17, 20), and a message exactly where none holds. Assumes nothing.
use Prim.Native.Nat.{ℕ, ◌≤◌, ◌<◌}
use mathlib.Core.Path.{◌≡◌, refl, sym, ap, ◌∙◌}
use mathlib.Core.List.{List, [], ◌∷◌}
use mathlib.Core.Bool.{Bool, true, false, ◌&&◌, ◌||◌}
use mathlib.Core.Logic.{◌⊎◌, inl, inr, ◌↔◌}
use lib.ListN.{length}
use lib.Dec.{eqb, ltb}
use native.Mathlib.Omega.{arith}
use borrow.Author.Tests.{eqb-true, eqb-false, ltb-true, ltb-false, lt-ltb, le-ltb, eq-eqb, ne_eqb}
use Rattle.std.specs.Prelude.{Result}
use Rattle.checks.specs.Order.{pick, first_of, FirstHolds, NoneHolds, outcome}
use Rattle.checks.proofs.Bools.{true_false, not-false, and_true, or_true}
use Rattle.checks.proofs.Laws.{zero_none, none_zero, number_first, first_number, told_outcome}
use Rattle.octets.specs.Octets.{octet, number}
use Rattle.checksum.specs.Sum.{checksum_of}
use Rattle.header.specs.Limits.{most_data}
use Rattle.header.specs.Build.{Built, built_by}
use Rattle.checks.specs.Told.{Good, Refused, told}
use Rattle.checks.specs.declared.Refusal.{Refusal}
use Rattle.echo.specs.Message.{request_size, reply_size, request_type, reply_type, echo_code, is_reply_type, message_of, unsummed, other_type, cut_reply, wrong_sum, echo_refusals, echo_checks, reading_of}
use Rattle.echo.specs.Built.{size_with, build_refusals, build_checks, built_of}
use Rattle.echo.specs.declared.Message.{Message}

-- ---- reading

refused_case : (t : Bool) (m n : ℕ) (g : Message) → eqb m 0 ≡ t → pick t (Good g) (Refused m) ≡ Refused n → (m ≡ n) × (m ≡ 0 → ⊥)
refused_case true m n g t e = true_false cc
refused_case false m n g t e = (cc, eqb-false m 0 t)

good_case : (t : Bool) (n : ℕ) (g m : Message) → eqb n 0 ≡ t → pick t (Good g) (Refused n) ≡ Good m → (n ≡ 0) × (m ≡ g)
good_case true n g m t e = (eqb-true n 0 t, cc)
good_case false n g m t e = true_false cc

-- a number is given exactly where its condition holds and none before it
pub reads_refuses : (s : List ℕ) (n : ℕ) → (n ≡ 0 → ⊥) → (reading_of s ≡ Refused n) ↔ FirstHolds (echo_checks s) n
unfolding reading_of
reads_refuses s n z =
    let m = first_of (echo_checks s) in (
      λ e. number_first (echo_checks s) n z (refused_case (eqb m 0) m n (message_of s) refl e).0,
      λ h. (
          let e : m ≡ n = first_number (echo_checks s) n h in
          rw (e, ne_eqb n 0 z)
          ),
    )

-- 0 is no refusal
pub never_zero : (s : List ℕ) → reading_of s ≡ Refused 0 → ⊥
unfolding reading_of
never_zero s e =
    let m = first_of (echo_checks s) in
    let p = refused_case (eqb m 0) m 0 (message_of s) refl e in
    p.1 p.0

-- a message is given exactly where no condition holds
pub reads_good : (s : List ℕ) (m : Message) → (reading_of s ≡ Good m) ↔ (NoneHolds (echo_checks s) × (m ≡ message_of s))
unfolding reading_of echo_checks
reads_good s m =
    let n = first_of (echo_checks s) in (
      λ e. (
          let p = good_case (eqb n 0) n (message_of s) m refl e in
          (zero_none (echo_checks s) (omega arith, (omega arith, (omega arith, (omega arith, tt)))) p.0, p.1)
          ),
      λ p. (
          let e : n ≡ 0 = none_zero (echo_checks s) p.0 in
          rw (e, p.1)
          ),
    )

-- ---- what octets have that pass every check

pub record Passed (s : List ℕ) (m : Message) : Type 0 where
  pub long : request_size ≤ length s
  pub type : (octet s 0 ≡ request_type) ⊎ (octet s 0 ≡ reply_type)
  pub code : octet s 1 ≡ echo_code
  pub whole : octet s 0 ≡ reply_type → reply_size ≤ length s
  pub right : number s 2 2 ≡ checksum_of (unsummed s)
  pub is : m ≡ message_of s

either_type : (a : ℕ) → (eqb a 8 ≡ true) ⊎ (eqb a 0 ≡ true) → (a ≡ 8) ⊎ (a ≡ 0)
either_type a (inl h) = inl (eqb-true a 8 h)
either_type a (inr h) = inr (eqb-true a 0 h)

reply_test : (t w : Bool) → (t && w) ≡ false → t ≡ true → w ≡ false
reply_test true w h e = h
reply_test false w h e = true_false (sym e)

pub passed : (s : List ℕ) (m : Message) → reading_of s ≡ Good m → Passed s m
unfolding echo_checks
passed s m e =
    let g = (reads_good s m).0 e in
    let n = g.0 in
    let typed = and_true _ _ (not-false _ n.1.0) in
    record {
      long = ltb-false (length s) 8 n.0;
      type = either_type (octet s 0) (or_true _ _ typed.0);
      code = eqb-true (octet s 1) 0 typed.1;
      whole = λ r. ltb-false (length s) 26 (reply_test (is_reply_type s) _ n.1.1.0 (eq-eqb (octet s 0) 0 r));
      right = eqb-true _ _ (not-false _ n.1.1.1.0);
      is = g.1;
    }

type_passes : (a : ℕ) → (a ≡ 8) ⊎ (a ≡ 0) → (eqb a 8 || eqb a 0) ≡ true
type_passes a (inl h) = rw h
type_passes a (inr h) = rw h

reply_passes : (t w : Bool) → (t ≡ true → w ≡ false) → (t && w) ≡ false
reply_passes true w h = h refl
reply_passes false w h = refl

pub passed_reads : (s : List ℕ) (m : Message) → Passed s m → reading_of s ≡ Good m
unfolding echo_checks
passed_reads s m p =
    let type : other_type s ≡ false = rw (type_passes (octet s 0) p.type, eq-eqb (octet s 1) 0 p.code) in
    let whole : cut_reply s ≡ false = reply_passes (is_reply_type s) _ (λ r. le-ltb (length s) 26 (p.whole (eqb-true (octet s 0) 0 r))) in
    let right : wrong_sum s ≡ false = rw (eq-eqb (number s 2 2) (checksum_of (unsummed s)) p.right) in
    (reads_good s m).1 ((le-ltb (length s) 8 p.long, (type, (whole, (right, tt)))), p.is)

-- ---- building

-- which of the two conditions an answer tells
record Told (a b : Bool) (answer : Built) (size : ℕ) : Type 0 where
  is_17 : answer ≡ Refused 17 → a ≡ true
  is_20 : answer ≡ Refused 20 → (a ≡ false) × (b ≡ true)
  is_done : answer ≡ Good size → (a ≡ false) × (b ≡ false)

other : {X : Type 0} (n m : ℕ) → (n ≡ m → ⊥) → ◌≡◌ {A = Built} (Refused n) (Refused m) → X
other n m h e = absurd (h cc)

done : {X : Type 0} (n m : ℕ) → Good n ≡ Refused m → X
done n m e = true_false cc

tells : (a b : Bool) (size : ℕ) → Told a b (built_by (first_of ((a, 17) ∷ (b, 20) ∷ [])) size) size
unfolding first_of
tells true b size = record { is_17 = λ e. refl; is_20 = other _ _ (omega arith); is_done = λ e. done _ _ (sym e) }
tells false true size = record { is_17 = other _ _ (omega arith); is_20 = λ e. (refl, refl); is_done = λ e. done _ _ (sym e) }
tells false false size = record { is_17 = done _ _; is_20 = done _ _; is_done = λ e. (refl, refl) }

-- 17 exactly where the room is short of the message, 20 exactly where it is not and the message is over 8,141 octets; built exactly where neither is
pub record Exactly (m : Message) (n room : ℕ) : Type 0 where
  pub no_room : (built_of m n room ≡ Refused 17) ↔ (room < size_with m n)
  pub too_long : (built_of m n room ≡ Refused 20) ↔ ((size_with m n ≤ room) × (most_data < size_with m n))
  pub made : (built_of m n room ≡ Good (size_with m n)) ↔ ((size_with m n ≤ room) × (size_with m n ≤ most_data))

pub builds_exactly : (m : Message) (n room : ℕ) → Exactly m n room
unfolding built_of build_checks first_of
builds_exactly m n room =
    let size = size_with m n in
    let p = tells (ltb room size) (ltb most_data size) size in
    record {
      no_room = (λ e. ltb-true room size (p.is_17 e), λ h. simp (lt-ltb room size h));
      too_long =
          (λ e. (ltb-false room size (p.is_20 e).0, ltb-true most_data size (p.is_20 e).1), λ h. simp (le-ltb room size h.0, lt-ltb most_data size h.1));
      made =
          (λ e. (ltb-false room size (p.is_done e).0, ltb-false most_data size (p.is_done e).1), λ h. simp (le-ltb room size h.0, le-ltb most_data size h.1));
    }

-- ---- what is told of the answers

pub reading_told : (s : List ℕ) (x : Result Message Refusal) → x ≡ outcome (echo_refusals s) (message_of s) → told x ≡ reading_of s
unfolding reading_of echo_checks
reading_told s x e = ap told e ∙ told_outcome (echo_refusals s) (message_of s)

pub built_told : (m : Message) (n room : ℕ) (x : Result ℕ Refusal) → x ≡ outcome (build_refusals m n room) (size_with m n) → told x ≡ built_of m n room
unfolding built_of build_checks
built_told m n room x e = ap told e ∙ told_outcome (build_refusals m n room) (size_with m n)
