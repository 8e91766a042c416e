-- The limits of a header and of its datagram, by name (page 01, "Numbers that hold everywhere"; 003, 1.6.2). Assumes nothing.
use Rattle.std.specs.Prelude.{ℕ, Bool, ltb}

-- the octets of the longest header, for which every output has room
abbrev pub longest_header : ℕ
longest_header = 50

-- a datagram's length is below this: the length field has 13 bits, and the version's last bit stands just above them
abbrev pub length_limit : ℕ
length_limit = 8192

-- the most octets of user data: what the longest header leaves of the longest datagram, which has 8,191
abbrev pub most_data : ℕ
most_data = 8141

-- an output that the longest header does not fit (page 01, refusal 17)
abbrev pub lacks_room : ℕ → Bool
lacks_room room = ltb room longest_header

-- user data over its limit (page 01, refusal 20)
abbrev pub too_much_data : ℕ → Bool
too_much_data n = ltb most_data n
