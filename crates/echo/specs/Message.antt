-- SCMP Echo Request and Echo Reply: 003, 3.3.2 (figure 3-4: type, code, checksum) and 3.3.4.7 (identifier, sequence number, and what a reply adds, in the order
-- of 3.3.4.7.5). A message is the user data of a datagram. Assumes nothing.
use Rattle.std.specs.Prelude.{ℕ, Bool, not, ◌&&◌, ◌||◌, List, [], ◌∷◌, ◌++◌, length, take, drop, eqb, ltb}
use Rattle.checks.specs.Order.{pick, Checks, first_of, Refusals, numbered}
use Rattle.checks.specs.Told.{Told, told_by}
use Rattle.checks.specs.declared.Refusal.TheVariants.{TooShort, WrongForm, WrongChecksum}
use Rattle.octets.specs.Octets.{octet, number, octets}
use Rattle.checksum.specs.Sum.{checksum_of}
use Rattle.echo.specs.declared.Seen.{Seen}
use Rattle.echo.specs.declared.Kind.{Kind}
use Rattle.echo.specs.declared.Kind.TheVariants.{Request, Reply}
use Rattle.echo.specs.declared.Message.{Message}

-- ---- the fixed part
-- "The type value shall be 8 for the Echo Request message and 0 for the Echo Reply message" (3.3.4.7.3)
abbrev pub request_type : ℕ
request_type = 8

abbrev pub reply_type : ℕ
reply_type = 0

abbrev pub type_of : Kind → ℕ
type_of Request = request_type
type_of (Reply s) = reply_type

-- "The code value for both shall be 0" (3.3.4.7.4)
abbrev pub echo_code : ℕ
echo_code = 0

-- how many octets it has, behind which the data begin
abbrev pub request_size : ℕ
request_size = 8

abbrev pub reply_size : ℕ
reply_size = 26

abbrev pub fixed_size : Kind → ℕ
fixed_size Request = request_size
fixed_size (Reply s) = reply_size

-- 3.3.4.7.5 c, 1 to 5: hop count, timestamp format, timestamp, MTU, receive data rate
unfoldable pub seen_octets : Seen → List ℕ
seen_octets s = octets 1 s.hops ++ (octets 1 s.format ++ (octets 8 s.stamp ++ (octets 4 s.mtu ++ octets 4 s.rate)))

abbrev pub kind_octets : Kind → List ℕ
kind_octets Request = []
kind_octets (Reply s) = seen_octets s

-- with this checksum
unfoldable pub fixed_octets : Message → ℕ → List ℕ
fixed_octets m sum =
    octets 1 (type_of m.kind) ++ (octets 1 echo_code ++ (octets 2 sum ++ (octets 2 m.identifier ++ (octets 2 m.sequence ++ kind_octets m.kind))))

-- ---- the message whole
-- "The checksum algorithm used is the same as that specified in 3.2.3.10, but applied to the SCMP message" (3.3.2.3), the field as zero
unfoldable pub sum_of : Message → List ℕ → ℕ
sum_of m echoed = checksum_of (fixed_octets m 0 ++ echoed)

unfoldable pub message_octets : Message → List ℕ → List ℕ
message_octets m echoed = fixed_octets m (sum_of m echoed) ++ echoed

-- ---- what octets say
abbrev pub seen_of : List ℕ → Seen
seen_of s = record { hops = octet s 8; format = octet s 9; stamp = number s 10 8; mtu = number s 18 4; rate = number s 22 4 }

abbrev pub is_request_type : List ℕ → Bool
is_request_type s = eqb (octet s 0) request_type

abbrev pub is_reply_type : List ℕ → Bool
is_reply_type s = eqb (octet s 0) reply_type

abbrev pub kind_of : List ℕ → Kind
kind_of s = pick (is_request_type s) Request (Reply (seen_of s))

unfoldable pub message_of : List ℕ → Message
message_of s = record { identifier = number s 4 2; sequence = number s 6 2; kind = kind_of s }

-- the octets with the checksum as zero
abbrev pub unsummed : List ℕ → List ℕ
unsummed s = take 2 s ++ (0 ∷ 0 ∷ drop 4 s)

-- neither message: another type, or another code
abbrev pub other_type : List ℕ → Bool
other_type s = not ((is_request_type s || is_reply_type s) && eqb (octet s 1) echo_code)

-- a reply without all of its fixed part
abbrev pub cut_reply : List ℕ → Bool
cut_reply s = is_reply_type s && ltb (length s) reply_size

-- a checksum that is not that of the message with the field as zero
abbrev pub wrong_sum : List ℕ → Bool
wrong_sum s = not (eqb (number s 2 2) (checksum_of (unsummed s)))

-- the checks, in their order: under 8 octets 1; type or code 4; a reply under 26 octets 1; the checksum 5 (docs/DECISIONS.md)
abbrev pub echo_refusals : List ℕ → Refusals
echo_refusals s = (ltb (length s) request_size, TooShort) ∷ (other_type s, WrongForm) ∷ (cut_reply s, TooShort) ∷ (wrong_sum s, WrongChecksum) ∷ []

unfoldable pub echo_checks : List ℕ → Checks
echo_checks s = numbered (echo_refusals s)

-- what reading tells: the message, or the first check's number
abbrev pub Reading : Type 0
Reading = Told Message

abbrev pub reading_by : ℕ → Message → Reading
reading_by = told_by

unfoldable pub reading_of : List ℕ → Reading
reading_of s = reading_by (first_of (echo_checks s)) (message_of s)

-- the data behind the fixed part
abbrev pub echoed_in : Message → List ℕ → List ℕ
echoed_in m s = drop (fixed_size m.kind) s
