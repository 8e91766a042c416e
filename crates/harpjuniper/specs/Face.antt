-- The numbers that C gets (include/harpjuniper.h). Assumes nothing.
use Rattle.std.specs.Prelude.{ℕ, ◌+◌, ◌-◌, List, [], ◌∷◌, Bool, ◌||◌, length, eqb}
use Rattle.checks.specs.Order.{pick, Checks, first_of}
use Rattle.checks.specs.Answer.{refusal_number}
use Rattle.octets.specs.Octets.{fronted}
use Rattle.header.specs.Limits.{lacks_room, too_much_data}
use Rattle.header.specs.Range.{out_of_range}
use Rattle.header.specs.Build.{size_of, header_octets, Built}
use Rattle.header.specs.Read.{Read}
use Rattle.checks.specs.Told.{Good, Refused}
use Rattle.numbers.specs.Numbers.{narrow, numbers_of}
use Rattle.numbers.specs.declared.Numbers.{Numbers}
use Rattle.numbers.specs.Fields.{fields_from}
use Rattle.numbers.specs.Out.{numbers_out}
use Rattle.numbers.specs.InWords.{field_words, numbers_words, numbers_from}

-- ---- reading

-- no number of a header
abbrev pub nothing : Numbers
nothing =
    record {
      destination = narrow 0;
      source = narrow 0;
      time = 0;
      tpid = 0;
      sourced = 0;
      extended = 0;
      ipv6 = 0;
      qualified = 0;
      precedence = 0;
      routing = 0;
      program = 0;
      counted = 0;
      hops = 0;
      format = 0;
      pfield = 0;
      expands = 0;
      expanded = 0;
      checksum = 0;
      intermediate = 0;
    }

-- what reading tells: the refusal, or 0 with length field, header's own length and the numbers of the fields
pub record Reading : Type 0 where
  pub refusal : ℕ
  pub length : ℕ
  pub header : ℕ
  pub fields : Numbers

unfoldable pub reading_of : Read → Reading
reading_of (Refused n) = record { refusal = n; length = 0; header = 0; fields = nothing }
reading_of (Good h) = record { refusal = 0; length = h.length; header = h.size; fields = numbers_of h.fields }

-- the octets of user data: the length field less the header's own length
abbrev pub data_read : Reading → ℕ
data_read r = r.length - r.header

-- its words as C gets them (include/harpjuniper.h): the two lengths, then the fields
abbrev pub reading_count : ℕ
reading_count = 2 + field_words

unfoldable pub reading_words : Reading → List ℕ
reading_words r = r.length ∷ r.header ∷ numbers_words r.fields

-- 21 where another number of words is lent, and then what the reading refuses (page 01, "Refusal numbers")
unfoldable pub read_answer : ℕ → Reading → ℕ
read_answer count r = pick (eqb count reading_count) r.refusal 21

-- with a refusal the words stay as they were lent
unfoldable pub read_left : Reading → List ℕ → List ℕ
read_left r lent = pick (eqb (read_answer (length lent) r) 0) (reading_words r) lent

-- ---- building

-- an answer that is a refusal or a value: the refusal above a value of 32 bits
abbrev pub answer_by : ℕ → ℕ → ℕ
answer_by refusal value = pick (eqb refusal 0) value (refusal_number refusal)

abbrev pub built_answer : Built → ℕ
built_answer (Good size) = size
built_answer (Refused n) = refusal_number n

-- the numbers stand for no fields, or for fields out of range (page 01, refusal 19)
abbrev pub fields_out : Numbers → Bool
fields_out n = numbers_out n || out_of_range (fields_from n)

-- no room; no fields; too much data (page 01, "Refusal numbers")
unfoldable pub numbers_checks : Numbers → ℕ → ℕ → Checks
numbers_checks n dataSize room = (lacks_room room, 17) ∷ (fields_out n, 19) ∷ (too_much_data dataSize, 20) ∷ []

unfoldable pub build_answer : Numbers → ℕ → ℕ → ℕ
build_answer n dataSize room = answer_by (first_of (numbers_checks n dataSize room)) (size_of (fields_from n))

unfoldable pub build_output : Numbers → ℕ → List ℕ → List ℕ
build_output n dataSize lent = pick (eqb (first_of (numbers_checks n dataSize (length lent))) 0) (fronted (header_octets (fields_from n) dataSize) lent) lent

-- the same of numbers in words: 21 where another number of words is lent
unfoldable pub build_words_answer : List ℕ → ℕ → ℕ → ℕ
build_words_answer words dataSize room = pick (eqb (length words) field_words) (build_answer (numbers_from words) dataSize room) (refusal_number 21)

unfoldable pub build_words_output : List ℕ → ℕ → List ℕ → List ℕ
build_words_output words dataSize lent = pick (eqb (length words) field_words) (build_output (numbers_from words) dataSize lent) lent
