-- The numbers that C is told (include/harpjuniper.h): page 01, "the answer gives the local half .. and the onward half"; each case of an answer
-- has its number here. Assumes nothing.
use Rattle.std.specs.Prelude.{ℕ, ◌+◌, ◌*◌, ◌/◌, ◌%◌, ◌^◌, Result, Ok, Err}
use Rattle.checks.specs.Answer.{refusal_number}
use Rattle.queue.specs.declared.Entry.{Entry}
use Rattle.verdict.specs.Numbers.{local_number, onward_number}
use Rattle.verdict.specs.declared.Ruling.{Ruling}
use Rattle.judge.specs.declared.Ending.{Ending}
use Rattle.taking.specs.Taking.{Taking}
use Rattle.checks.specs.Told.{Good, Refused}

-- ---- receiving: eight bits a part, the refusal lowest
unfoldable pub ruling_parts : ℕ → ℕ → ℕ → ℕ → ℕ → ℕ
ruling_parts refusal local onward took dropped = refusal + local * 2 ^ 8 + onward * 2 ^ 16 + took * 2 ^ 24 + dropped * 2 ^ 32

unfoldable pub header_parts : ℕ → ℕ → ℕ → ℕ → ℕ
header_parts below size octets rewritten = below + size * 2 ^ 40 + octets * 2 ^ 48 + rewritten * 2 ^ 56

-- eight bits, from this one up: hj_ended_by, hj_local, hj_onward, hj_took, hj_dropped, hj_data_from, hj_rewritten_octets and hj_rewritten read at 0, 8, 16,
-- 24, 32, 40, 48 and 56
abbrev pub part_at : ℕ → ℕ → ℕ
part_at low n = n / 2 ^ low % 256

-- with the octets of the header that came, where the data begin; those of the rewritten header; and the ports that got it (page 02, W-214: "Headers may now
-- differ per port")
unfoldable pub receive_number : Ending → ℕ
receive_number e =
    header_parts
    (ruling_parts
    (e.refusal % 256)
    (local_number e.ruling.local % 256)
    (onward_number e.ruling.onward % 256)
    (e.ruling.took % 256)
    (e.ruling.dropped % 256))
    (e.size % 256)
    (e.legs.octets % 256)
    (e.legs.rewritten % 256)

-- ---- answering an echo request: the parts of the ruling at the same places, and the octets of the reply in sixteen bits from 40 on (hj_reply_octets); there
-- is no local half
unfoldable pub reply_number : ℕ → Ruling → ℕ → ℕ
reply_number refusal x octets =
    header_parts
    (ruling_parts (refusal % 256) 0 (onward_number x.onward % 256) (x.took % 256) (x.dropped % 256))
    (octets % 256)
    (octets / 256 % 256)
    0

-- sixteen bits, from this one up
abbrev pub wide_at : ℕ → ℕ → ℕ
wide_at low n = n / 2 ^ low % 65536

-- ---- taking: the precedence above the slot
abbrev pub entry_number : Entry → ℕ
entry_number e = e.precedence * 2 ^ 16 + e.slot.0

-- what is told of an entry or a number that refuses
abbrev pub numbered_taking : Result Entry ℕ → Taking
numbered_taking (Ok e) = Good e
numbered_taking (Err n) = Refused n

abbrev pub taking_number : Taking → ℕ
taking_number (Good e) = entry_number e
taking_number (Refused n) = refusal_number n

-- ---- what hj_refusal, hj_slot, hj_precedence and hj_value read of such a number
abbrev pub refusal_in : ℕ → ℕ
refusal_in n = n / 2 ^ 32 % 2 ^ 32

abbrev pub slot_in : ℕ → ℕ
slot_in n = n % 65536

abbrev pub precedence_in : ℕ → ℕ
precedence_in n = n / 65536 % 65536

abbrev pub value_in : ℕ → ℕ
value_in n = n % 2 ^ 32
