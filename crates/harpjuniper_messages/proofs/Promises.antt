-- What C sees of building and reading echo messages: which refusal comes when, that a refusal leaves the output as it was, and that what was built is read as
-- the numbers that it was built from. Assumes nothing.
use native.Mathlib.Omega.{arith}
use Prim.Native.Nat.{ℕ, ◌≤◌, ◌<◌}
use mathlib.Core.Path.{◌≡◌, refl}
use mathlib.Core.List.{List, [], ◌∷◌, ◌++◌}
use mathlib.Core.Bool.{Bool, true, false}
use mathlib.Core.Logic.{◌↔◌}
use lib.ListN.{length, take, drop}
use lib.Seq.{take_at}
use lib.Dec.{ltb}
use borrow.Author.Tests.{ltb-true, ltb-false, lt-ltb, le-ltb}
use Rattle.checks.specs.Order.{first_of}
use Rattle.checks.specs.Answer.{refusal_number}
use Rattle.header.specs.Limits.{most_data}
use Rattle.header.specs.Build.{built_by}
use Rattle.checks.specs.Told.{Refused}
use Rattle.echo.specs.Message.{message_octets, reading_of}
use Rattle.echo.specs.Built.{size_with, build_checks, built_of, built_output}
use Rattle.echo.specs.declared.Message.{Message}
use Rattle.echo.proofs.Refusals.{builds_exactly}
use Rattle.echo.proofs.Trip.{Fits, written_length, read_written}
use Rattle.harpjuniper_messages.specs.Face.{message_count, message_words, read_answer, read_left, built_answer}

-- ---- refusals

-- which of the two conditions an answer tells; a size is below 2^32, and so no refusal
record Told (a b : Bool) (answer : ℕ) : Type 0 where
  is_17 : answer ≡ refusal_number 17 → a ≡ true
  is_20 : answer ≡ refusal_number 20 → (a ≡ false) × (b ≡ true)

told : (a b : Bool) (size : ℕ) → (b ≡ false → size ≤ most_data) → Told a b (built_answer (built_by (first_of ((a, 17) ∷ (b, 20) ∷ [])) size))
unfolding first_of
told true b size h = record { is_17 = λ e. refl; is_20 = λ e. absurd (omega arith) }
told false true size h = record { is_17 = λ e. absurd (omega arith); is_20 = λ e. (refl, refl) }
told false false size h = let few = h refl in record { is_17 = λ e. absurd (omega arith); is_20 = λ e. absurd (omega arith) }

-- each refusal exactly where its condition holds and no earlier one
pub record Refusals (m : Message) (n room : ℕ) : Type 0 where
  pub no_room : (built_answer (built_of m n room) ≡ refusal_number 17) ↔ (room < size_with m n)
  pub too_long : (built_answer (built_of m n room) ≡ refusal_number 20) ↔ ((size_with m n ≤ room) × (most_data < size_with m n))

pub build_refused : (m : Message) (n room : ℕ) → Refusals m n room
unfolding built_of build_checks first_of
build_refused m n room =
    let size = size_with m n in
    let p = told (ltb room size) (ltb most_data size) size (ltb-false most_data size) in
    record {
      no_room = (λ e. ltb-true room size (p.is_17 e), λ h. simp (lt-ltb room size h));
      too_long =
          (λ e. (ltb-false room size (p.is_20 e).0, ltb-true most_data size (p.is_20 e).1), λ h. simp (le-ltb room size h.0, lt-ltb most_data size h.1));
    }

-- where the answer is a refusal, the output is as it was lent
pub refusal_writes_nothing : (m : Message) (echoed lent : List ℕ) (n : ℕ) → built_of m (length echoed) (length lent) ≡ Refused n → built_output m echoed lent ≡ lent
unfolding built_output
refusal_writes_nothing m echoed lent n e = rw e

-- ---- what was built

module _ (m : Message) (echoed lent : List ℕ) (room : size_with m (length echoed) ≤ length lent) (few : size_with m (length echoed) ≤ most_data) where
  -- the answer is the octets of the message, which stands at the front of the output
  pub built_octets : (built_answer (built_of m (length echoed) (length lent)) ≡ size_with m (length echoed))
      × (built_output m echoed lent ≡ message_octets m echoed ++ drop (size_with m (length echoed)) lent)
  unfolding built_output
  built_octets =
      let e = (builds_exactly m (length echoed) (length lent)).made.1 (room, few) in
      (rw e, rw (e, written_length m echoed))

  -- as many octets of the output as the answer says are the message
  pub built_message : take (built_answer (built_of m (length echoed) (length lent))) (built_output m echoed lent) ≡ message_octets m echoed
  built_message = rw (built_octets.0, built_octets.1) (take_at (message_octets m echoed) _ (size_with m (length echoed)) (written_length m echoed))

  -- and reading them answers 0 and the words of the message
  pub built_then_read : Fits m → (words : List ℕ) → length words ≡ message_count
      → (read_answer (length words) (reading_of (take (built_answer (built_of m (length echoed) (length lent))) (built_output m echoed lent))) ≡ 0)
      × (read_left (reading_of (take (built_answer (built_of m (length echoed) (length lent))) (built_output m echoed lent))) words ≡ message_words m)
  unfolding read_answer read_left
  built_then_read fits words count = rw (built_message, read_written m echoed fits, count) (refl, refl)
