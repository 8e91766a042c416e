-- What C sees of building and reading: which refusal comes when, that a refusal leaves the output as it was, and that what was built is read
-- as the numbers that it was built from. `Words n` says that addresses and time fit 64 bits, as C's types have it. Assumes nothing.
use native.Mathlib.Omega.{arith}
use Prim.Native.Nat.{ℕ, ◌+◌, ◌*◌, ◌^◌, ◌≤◌, ◌<◌}
use mathlib.Core.Path.{◌≡◌, refl}
use mathlib.Core.List.{List, [], ◌∷◌, ◌++◌}
use mathlib.Core.Bool.{Bool, true, false}
use mathlib.Core.Logic.{◌↔◌}
use lib.ListN.{length, take, drop}
use lib.Seq.{take_at}
use lib.Dec.{eqb}
use borrow.Author.Tests.{ltb-true, ltb-false, lt-ltb, le-ltb}
use Rattle.checks.specs.Order.{pick, first_of}
use Rattle.checks.proofs.Bools.{or_false}
use Rattle.header.specs.Limits.{longest_header, most_data, lacks_room, too_much_data}
use Rattle.header.specs.Range.{out_of_range, InRange}
use Rattle.header.specs.Read.{read_of}
use Rattle.header.specs.Build.{size_of, header_octets}
use Rattle.header.proofs.BuiltLaws.{header_length, built_size, in_range}
use Rattle.header.proofs.Trip.{read_built}
use Rattle.numbers.specs.declared.Numbers.{Numbers}
use Rattle.numbers.specs.Fields.{fields_from}
use Rattle.numbers.specs.Words.{Words}
use Rattle.numbers.proofs.fields_from.Bounds.{typed}
use Rattle.numbers.specs.Out.{numbers_out}
use Rattle.numbers.proofs.validity.Inverse.{numbers_back}
use Rattle.harpjuniper.specs.Face.{reading_of, answer_by, fields_out, numbers_checks, build_answer, build_output}

pub fields_in : (n : Numbers) → Words n → fields_out n ≡ false → InRange (fields_from n)
fields_in n w h = in_range (fields_from n) (typed n w) (or_false (numbers_out n) (out_of_range (fields_from n)) h).1

-- ---- refusals

-- which of the three conditions an answer tells; a value is below 2^32, and so no refusal
record First (a b c : Bool) (answer : ℕ) : Type 0 where
  is_17 : answer ≡ 17 * 2 ^ 32 → a ≡ true
  is_19 : answer ≡ 19 * 2 ^ 32 → (a ≡ false) × (b ≡ true)
  is_20 : answer ≡ 20 * 2 ^ 32 → (a ≡ false) × ((b ≡ false) × (c ≡ true))

first : (a b c : Bool) (value : ℕ) → (b ≡ false → value ≤ longest_header) → First a b c (answer_by (first_of ((a, 17) ∷ (b, 19) ∷ (c, 20) ∷ [])) value)
unfolding first_of
first true b c v h = record { is_17 = λ e. refl; is_19 = λ e. absurd (omega arith); is_20 = λ e. absurd (omega arith) }
first false true c v h = record { is_17 = λ e. absurd (omega arith); is_19 = λ e. (refl, refl); is_20 = λ e. absurd (omega arith) }
first false false true v h = record { is_17 = λ e. absurd (omega arith); is_19 = λ e. absurd (omega arith); is_20 = λ e. (refl, (refl, refl)) }
first false false false v h =
    let few = h refl in
    record { is_17 = λ e. absurd (omega arith); is_19 = λ e. absurd (omega arith); is_20 = λ e. absurd (omega arith) }

-- each refusal exactly where its condition holds and no earlier one
pub record Refusals (n : Numbers) (dataSize room : ℕ) : Type 0 where
  pub no_room : (build_answer n dataSize room ≡ 17 * 2 ^ 32) ↔ (room < longest_header)
  pub no_fields : (build_answer n dataSize room ≡ 19 * 2 ^ 32) ↔ ((longest_header ≤ room) × (fields_out n ≡ true))
  pub too_long : (build_answer n dataSize room ≡ 20 * 2 ^ 32) ↔ ((longest_header ≤ room) × ((fields_out n ≡ false) × (most_data < dataSize)))

pub build_refused : (n : Numbers) → Words n → (dataSize room : ℕ) → Refusals n dataSize room
unfolding build_answer numbers_checks first_of
build_refused n w dataSize room =
    let p = first (lacks_room room) (fields_out n) (too_much_data dataSize) (size_of (fields_from n)) (λ h. (built_size (fields_from n) (fields_in n w h)).1) in
    record {
      no_room = (λ e. ltb-true room longest_header (p.is_17 e), λ h. simp (lt-ltb room longest_header h));
      no_fields = (λ e. (ltb-false room longest_header (p.is_19 e).0, (p.is_19 e).1), λ h. simp (le-ltb room longest_header h.0, h.1));
      too_long = (λ e. (ltb-false room longest_header (p.is_20 e).0, ((p.is_20 e).1.0, ltb-true most_data dataSize (p.is_20 e).1.1)), λ h. simp (le-ltb room longest_header h.0, h.1.0, lt-ltb most_data dataSize h.1.1));
    }

kept : (a b c : Bool) (value : ℕ) (built lent : List ℕ) → (b ≡ false → value ≤ longest_header) → 2 ^ 32 ≤ answer_by (first_of ((a, 17) ∷ (b, 19) ∷ (c, 20) ∷ [])) value
    → pick (eqb (first_of ((a, 17) ∷ (b, 19) ∷ (c, 20) ∷ [])) 0) built lent ≡ lent
unfolding first_of
kept true b c v built lent h e = refl
kept false true c v built lent h e = refl
kept false false true v built lent h e = refl
kept false false false v built lent h e = let few = h refl in absurd (omega arith)

-- where the answer is a refusal, the output is as it was lent
pub refusal_writes_nothing : (n : Numbers) → Words n → (dataSize : ℕ) (lent : List ℕ) → 2 ^ 32 ≤ build_answer n dataSize (length lent) → build_output n dataSize lent ≡ lent
unfolding build_answer build_output numbers_checks
refusal_writes_nothing n w dataSize lent h =
    kept (lacks_room (length lent)) (fields_out n) (too_much_data dataSize) (size_of (fields_from n)) _ lent (λ e. (built_size (fields_from n) (fields_in n w e)).1) h

-- ---- what was built

-- asks of the fields only that the checksum's flag is one
pub written : (n : Numbers) → (fields_from n).checksum < 2 → (dataSize : ℕ) (lent : List ℕ) → longest_header ≤ length lent → fields_out n ≡ false → dataSize ≤ most_data
    → (build_answer n dataSize (length lent) ≡ size_of (fields_from n)) × (build_output n dataSize lent ≡ header_octets (fields_from n) dataSize ++ drop (size_of (fields_from n)) lent)
unfolding build_answer build_output numbers_checks first_of
written n flag dataSize lent room good short =
    let a = le-ltb (length lent) longest_header room in
    let c = le-ltb most_data dataSize short in
    (simp (a, good, c), simp (a, good, c) (rw (header_length (fields_from n) dataSize flag)))

-- the answer is the header's length, and the header stands at the front of the output
pub built_octets : (n : Numbers) → Words n → (dataSize : ℕ) (lent : List ℕ) → longest_header ≤ length lent → fields_out n ≡ false → dataSize ≤ most_data
    → (build_answer n dataSize (length lent) ≡ size_of (fields_from n)) × (build_output n dataSize lent ≡ header_octets (fields_from n) dataSize ++ drop (size_of (fields_from n)) lent)
built_octets n w dataSize lent room good short = written n (fields_in n w good).checksum dataSize lent room good short

-- with its data after it, the header is read as the numbers that it was built from
pub built_then_read : (n : Numbers) → Words n → (dataSize : ℕ) (user_data : List ℕ) → fields_out n ≡ false → dataSize ≤ most_data → dataSize ≤ length user_data
    → reading_of (read_of (header_octets (fields_from n) dataSize ++ user_data))
    ≡ record { refusal = 0; length = size_of (fields_from n) + dataSize; header = size_of (fields_from n); fields = n }
unfolding reading_of
built_then_read n w dataSize user_data good short enough =
    rw (read_built (fields_from n) dataSize user_data (fields_in n w good) short enough, numbers_back n (or_false (numbers_out n) _ good).0)

-- the same as C sees it: as many octets of the output as hj_build answers, and the data after them, given to hj_read
pub hj_build_then_hj_read : (n : Numbers) → Words n → (dataSize : ℕ) (lent user_data : List ℕ) → longest_header ≤ length lent → fields_out n ≡ false → dataSize ≤ most_data
    → dataSize ≤ length user_data
    → reading_of (read_of (take (build_answer n dataSize (length lent)) (build_output n dataSize lent) ++ user_data))
    ≡ record { refusal = 0; length = build_answer n dataSize (length lent) + dataSize; header = build_answer n dataSize (length lent); fields = n }
hj_build_then_hj_read n w dataSize lent user_data room good short enough =
    let built = built_octets n w dataSize lent room good short in
    let long = header_length (fields_from n) dataSize (fields_in n w good).checksum in
    let front = take_at (header_octets (fields_from n) dataSize) (drop (size_of (fields_from n)) lent) (size_of (fields_from n)) long in
    rw (built.0, built.1, front) (built_then_read n w dataSize user_data good short enough)
