-- What C sees of the two round trips (page 01, "Refusal numbers"): what is built has the shortest control field and unused bits zero; what was read,
-- built again, gives the same header octets exactly where it had them so; and octets beyond the length field are ignored. Said of the numbers that
-- the contracts of hj_read_words and hj_build_words promise of their words. Assumes nothing.
use native.Mathlib.Omega.{arith}
use Prim.Native.Nat.{ℕ, ◌+◌, ◌-◌, ◌^◌, ◌≤◌, ◌<◌}
use mathlib.Core.Path.{◌≡◌, refl, ap, ◌∙◌}
use mathlib.Core.List.{List, [], ◌∷◌, ◌++◌}
use mathlib.Core.Bool.{Bool, true, false}
use mathlib.Core.Logic.{◌↔◌}
use lib.ListN.{get_or, length, take, drop}
use lib.Seq.{take_at, get_or-drop}
use borrow.Author.Tests.{ltb-false}
use Rattle.checks.specs.Order.{first_of}
use Rattle.header.specs.Limits.{longest_header, most_data, lacks_room, too_much_data}
use Rattle.header.specs.Form.{control_of}
use Rattle.header.specs.Range.{InRange}
use Rattle.header.specs.Read.{length_of, header_of, read_of, Read}
use Rattle.header.specs.Build.{size_of, header_octets}
use Rattle.header.specs.Shortest.{Shortest, UnusedZero, NoneShorter}
use Rattle.header.specs.declared.Fields.{Fields}
use Rattle.header.specs.declared.Header.{Header}
use Rattle.checks.specs.Told.{Good, Refused}
use Rattle.header.proofs.Refusals.{never_zero, read_good}
use Rattle.header.proofs.Answers.{read_in_range}
use Rattle.header.proofs.BuiltLaws.{range_typed, header_length, header_small, append_small, not_out}
use Rattle.header.proofs.Again.{built_no_longer, as_long_shortest, built_again, size_again}
use Rattle.header.proofs.Shortest.{shortest_exactly, built_shortest, same_octets_exactly}
use Rattle.header.proofs.Beyond.{beyond_the_length, agree_up_to_the_length, whatever_follows}
use Rattle.numbers.specs.Numbers.{numbers_of}
use Rattle.numbers.specs.Fields.{fields_from}
use Rattle.numbers.specs.Words.{Words}
use Rattle.numbers.specs.declared.Numbers.{Numbers}
use Rattle.numbers.proofs.validity.Inverse.{fields_back}
use Rattle.harpjuniper.specs.Face.{Reading, reading_of, data_read, answer_by, fields_out, numbers_checks, build_answer, build_output}
use Rattle.harpjuniper.proofs.Promises.{fields_in, written, built_octets}

-- ---- what is built

-- an answer below 2^32 is no refusal
unrefused : (a b c : Bool) (value : ℕ) → answer_by (first_of ((a, 17) ∷ (b, 19) ∷ (c, 20) ∷ [])) value < 2 ^ 32 → (a ≡ false) × (b ≡ false) × (c ≡ false)
unfolding first_of
unrefused true b c v h = absurd (omega arith)
unrefused false true c v h = absurd (omega arith)
unrefused false false true v h = absurd (omega arith)
unrefused false false false v h = (refl, refl, refl)

module _ (n : Numbers) (words : Words n) (dataSize : ℕ) (lent : List ℕ) (done : build_answer n dataSize (length lent) < 2 ^ 32) where
  tests : (lacks_room (length lent) ≡ false) × (fields_out n ≡ false) × (too_much_data dataSize ≡ false)
  unfolding build_answer numbers_checks
  tests = unrefused (lacks_room (length lent)) (fields_out n) (too_much_data dataSize) (size_of (fields_from n)) done

  few : dataSize ≤ most_data
  few = ltb-false most_data dataSize tests.2

  output_is : build_output n dataSize lent ≡ header_octets (fields_from n) dataSize ++ drop (size_of (fields_from n)) lent
  output_is = (built_octets n words dataSize lent (ltb-false (length lent) longest_header tests.0) tests.1 few).1

  output_shortest : Shortest (control_of (build_output n dataSize lent)) × UnusedZero (control_of (build_output n dataSize lent))
  output_shortest = rw output_is (built_shortest (fields_from n) dataSize _ (fields_in n words tests.1) few)

  output_small : ((i : ℕ) → get_or lent i 0 < 256) → (i : ℕ) → get_or (build_output n dataSize lent) i 0 < 256
  output_small small =
      let size = size_of (fields_from n) in
      let rest : (i : ℕ) → get_or (drop size lent) i 0 < 256 = λ i. rw (get_or-drop size lent i 0) (small (size + i)) in
      rw output_is (append_small (header_octets (fields_from n) dataSize) (drop size lent) (header_small (fields_from n) dataSize) rest)

-- where hj_build refuses nothing, the control field that it writes is shortest and its unused bits are zero
pub built_is_shortest : (n : Numbers) → Words n → (dataSize : ℕ) (lent : List ℕ) → build_answer n dataSize (length lent) < 2 ^ 32
    → Shortest (control_of (build_output n dataSize lent)) × UnusedZero (control_of (build_output n dataSize lent))
built_is_shortest = output_shortest

-- that is, no octets with a control field that says the same have one that ends earlier
pub built_none_shorter : (n : Numbers) → Words n → (dataSize : ℕ) (lent : List ℕ) → ((i : ℕ) → get_or lent i 0 < 256) → build_answer n dataSize (length lent) < 2 ^ 32
    → NoneShorter (build_output n dataSize lent)
built_none_shorter n words dataSize lent small done =
    (shortest_exactly (build_output n dataSize lent) (output_small n words dataSize lent done small)).0 (output_shortest n words dataSize lent done).0

-- ---- what was read

-- the header that hj_read tells of, where it refuses nothing
read_case : (s : List ℕ) (x : Read) → read_of s ≡ x → (reading_of x).refusal ≡ 0 → read_of s ≡ Good (header_of s)
unfolding reading_of
read_case s (Refused n) e none = absurd (never_zero s (e ∙ ap Refused none))
read_case s (Good h) e none = e ∙ ap Good ((read_good s h).0 e).1

-- the numbers of fields, given to hj_build
module _ (f : Fields) (range : InRange f) (dataSize : ℕ) (few : dataSize ≤ most_data) (lent : List ℕ) (room : longest_header ≤ length lent) where
  numbers_built : (build_answer (numbers_of f) dataSize (length lent) ≡ size_of f) × (build_output (numbers_of f) dataSize lent ≡ header_octets f dataSize ++ drop (size_of f) lent)
  numbers_built =
      let back = fields_back f (range_typed f range) in
      let good : fields_out (numbers_of f) ≡ false = rw (back.0, back.1) (not_out f range) in
      rw back.1 at (written (numbers_of f) (rw back.1 range.checksum) dataSize lent room good few)

  front_built : take (build_answer (numbers_of f) dataSize (length lent)) (build_output (numbers_of f) dataSize lent) ≡ header_octets f dataSize
  front_built =
      rw (numbers_built.0, numbers_built.1) (take_at (header_octets f dataSize) (drop (size_of f) lent) (size_of f) (header_length f dataSize range.checksum))

-- what hj_build answers and writes for what hj_read told
record Rebuilt (s : List ℕ) (r : Reading) (lent : List ℕ) : Type 0 where
  no_longer : build_answer r.fields (data_read r) (length lent) ≤ r.header
  as_long : (build_answer r.fields (data_read r) (length lent) ≡ r.header) ↔ Shortest (control_of s)
  same : (take (build_answer r.fields (data_read r) (length lent)) (build_output r.fields (data_read r) lent) ≡ take r.header s) ↔ (Shortest (control_of s) × UnusedZero (control_of s))
  whole : Shortest (control_of s) → build_output r.fields (data_read r) lent ≡ take r.header s ++ drop r.header lent

module _ (s : List ℕ) (small : (i : ℕ) → get_or s i 0 < 256) (e : read_of s ≡ Good (header_of s)) where
  abbrev h : Header
  h = header_of s

  range : InRange h.fields
  range = read_in_range s h small e

  header_rebuilt : (lent : List ℕ) → longest_header ≤ length lent → h.length - h.size ≤ most_data → Rebuilt s (reading_of (Good h)) lent
  unfolding reading_of
  header_rebuilt lent room few =
      let built = numbers_built h.fields range (h.length - h.size) few lent room in
      record {
        no_longer = rw built.0 (built_no_longer s h small e);
        as_long = rw built.0 (as_long_shortest s h small e, size_again s h small e);
        same = rw (front_built h.fields range (h.length - h.size) few lent room) (same_octets_exactly s h small e);
        whole = λ short. rw (built.1, built_again s h small e short, size_again s h small e short);
      }

rebuilt : (s : List ℕ) → ((i : ℕ) → get_or s i 0 < 256) → (r : Reading) → r ≡ reading_of (read_of s) → r.refusal ≡ 0 → data_read r ≤ most_data → (lent : List ℕ)
    → longest_header ≤ length lent → Rebuilt s r lent
unfolding reading_of
rebuilt s small r told none enough lent room =
    let e = read_case s (read_of s) refl (rw told at none) in
    let is : r ≡ reading_of (Good (header_of s)) = told ∙ ap reading_of e in
    rw is (header_rebuilt s small e lent room (rw is at enough))

-- where hj_read refuses nothing, the control field was shortest and the data is at most 8,141 octets, hj_build makes of what was read the header's own
-- length and the header's octets, and leaves the octets behind them
pub read_then_build : (s : List ℕ) → ((i : ℕ) → get_or s i 0 < 256) → (r : Reading) → r ≡ reading_of (read_of s) → r.refusal ≡ 0 → Shortest (control_of s) → data_read r ≤ most_data
    → (lent : List ℕ) → longest_header ≤ length lent
    → (build_answer r.fields (data_read r) (length lent) ≡ r.header) × (build_output r.fields (data_read r) lent ≡ take r.header s ++ drop r.header lent)
read_then_build s small r told none short enough lent room =
    let p = rebuilt s small r told none enough lent room in
    (p.as_long.1 short, p.whole short)

-- the octets that it builds are the header's exactly where the control field was shortest and unused bits zero
pub same_octets_read_then_build : (s : List ℕ) → ((i : ℕ) → get_or s i 0 < 256) → (r : Reading) → r ≡ reading_of (read_of s) → r.refusal ≡ 0 → data_read r ≤ most_data
    → (lent : List ℕ) → longest_header ≤ length lent
    → (take (build_answer r.fields (data_read r) (length lent)) (build_output r.fields (data_read r) lent) ≡ take r.header s) ↔ (Shortest (control_of s) × UnusedZero (control_of s))
same_octets_read_then_build s small r told none enough lent room = (rebuilt s small r told none enough lent room).same

-- and where it was not shortest, the header that it builds is shorter: it is never longer, and as long only there
pub built_no_longer_than_read : (s : List ℕ) → ((i : ℕ) → get_or s i 0 < 256) → (r : Reading) → r ≡ reading_of (read_of s) → r.refusal ≡ 0 → data_read r ≤ most_data
    → (lent : List ℕ) → longest_header ≤ length lent
    → (build_answer r.fields (data_read r) (length lent) ≤ r.header) × ((build_answer r.fields (data_read r) (length lent) ≡ r.header) ↔ Shortest (control_of s))
built_no_longer_than_read s small r told none enough lent room =
    let p = rebuilt s small r told none enough lent room in
    (p.no_longer, p.as_long)

-- ---- octets beyond the length field

-- hj_read answers the same for octets that agree as far as the length field counts, and to the end of the control field
pub hj_read_agrees : (s t : List ℕ) (n : ℕ) → length_of s ≤ n → (control_of s).end ≤ n → take n t ≡ take n s → reading_of (read_of t) ≡ reading_of (read_of s)
hj_read_agrees s t n long whole AgreeAt = ap reading_of (agree_up_to_the_length s t n long whole AgreeAt)

-- so for the octets up to there alone
pub hj_read_beyond_the_length : (s : List ℕ) (n : ℕ) → length_of s ≤ n → (control_of s).end ≤ n → reading_of (read_of (take n s)) ≡ reading_of (read_of s)
hj_read_beyond_the_length s n long whole = ap reading_of (beyond_the_length s n long whole)

-- and where it refuses nothing, whatever octets stand behind as many as the length that it tells
pub hj_read_whatever_follows : (s rest : List ℕ) (r : Reading) → r ≡ reading_of (read_of s) → r.refusal ≡ 0 → reading_of (read_of (take r.length s ++ rest)) ≡ r
unfolding reading_of
hj_read_whatever_follows s rest r told none =
    let e = read_case s (read_of s) refl (rw told at none) in
    let is : r ≡ reading_of (Good (header_of s)) = told ∙ ap reading_of e in
    rw is (ap reading_of (whatever_follows s rest (header_of s) e))
