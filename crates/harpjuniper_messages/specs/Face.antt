-- The numbers that C gets of echo messages (include/harpjuniper.h). Assumes nothing.
use Rattle.std.specs.Prelude.{ℕ, ◌/◌, ◌%◌, ◌^◌, List, [], ◌∷◌, length, eqb}
use Rattle.checks.specs.Order.{pick}
use Rattle.checks.specs.Answer.{refusal_number}
use Rattle.header.specs.Build.{Built}
use Rattle.checks.specs.Told.{Good, Refused}
use Rattle.echo.specs.Message.{type_of, fixed_size, Reading}
use Rattle.echo.specs.declared.Seen.{Seen}
use Rattle.echo.specs.declared.Kind.{Kind}
use Rattle.echo.specs.declared.Kind.TheVariants.{Request, Reply}
use Rattle.echo.specs.declared.Message.{Message}

-- ---- reading

-- a request says nothing of what was seen: its numbers are 0
abbrev pub seen_in : Kind → Seen
seen_in Request = record { hops = 0; format = 0; stamp = 0; mtu = 0; rate = 0 }
seen_in (Reply s) = s

abbrev pub message_count : ℕ
message_count = 10

-- type, identifier, sequence, where the data begin; hops, format, the upper and the lower 32 bits of the stamp, MTU, rate
unfoldable pub message_words : Message → List ℕ
message_words m =
    type_of m.kind ∷ m.identifier ∷ m.sequence ∷ fixed_size m.kind ∷ (seen_in m.kind).hops ∷ (seen_in m.kind).format
    ∷ (seen_in m.kind).stamp / 2 ^ 32 ∷ (seen_in m.kind).stamp % 2 ^ 32 ∷ (seen_in m.kind).mtu ∷ (seen_in m.kind).rate ∷ []

abbrev pub refusal_in : Reading → ℕ
refusal_in (Good m) = 0
refusal_in (Refused n) = n

-- 21 where another number of words is lent, and then what the reading refuses
unfoldable pub read_answer : ℕ → Reading → ℕ
read_answer count r = pick (eqb count message_count) (refusal_in r) 21

-- the words of a message, or with a refusal as they were lent
abbrev pub left_by : Reading → List ℕ → List ℕ
left_by (Good m) lent = message_words m
left_by (Refused n) lent = lent

unfoldable pub read_left : Reading → List ℕ → List ℕ
read_left r lent = pick (eqb (length lent) message_count) (left_by r lent) lent

-- ---- building

abbrev pub message_with : ℕ → ℕ → Kind → Message
message_with identifier sequence kind = record { identifier = identifier; sequence = sequence; kind = kind }

abbrev pub request_of : ℕ → ℕ → Message
request_of identifier sequence = message_with identifier sequence Request

abbrev pub reply_of : ℕ → ℕ → ℕ → ℕ → ℕ → ℕ → ℕ → Message
reply_of identifier sequence hops format stamp mtu rate =
    message_with identifier sequence (Reply (record { hops = hops; format = format; stamp = stamp; mtu = mtu; rate = rate }))

-- the octets of the message, or the refusal above a value of 32 bits
abbrev pub built_answer : Built → ℕ
built_answer (Good size) = size
built_answer (Refused n) = refusal_number n
