-- The numbers that stand for no fields (page 01, refusal 19: a field out of range, or a combination that tables 3-6 and 3-8 do not allow;
-- an absent element carries no value). Assumes nothing.
use Rattle.std.specs.Prelude.{ℕ, ◌^◌, Bool, not, ◌&&◌, ◌||◌, eqb, leb}
use Rattle.checks.specs.Order.{pick}
use Rattle.header.specs.Form.{wrong_ipv6}
use Rattle.numbers.specs.declared.Wide.{Wide}
use Rattle.numbers.specs.declared.Numbers.{Numbers}

-- a number of m or more
abbrev pub wide_out : ℕ → Wide → Bool
wide_out m w = not (eqb w.high 0) || leb m w.low

-- how many numbers an address has to choose from, by its flags; an absent one only 0
abbrev pub address_limit : ℕ → ℕ → ℕ
address_limit on extended = pick (eqb on 0) 1 (pick (eqb extended 1) (256 ^ 4) 256)

-- one of three numbers is m or more
unfoldable pub any_over : ℕ → ℕ → ℕ → ℕ → Bool
any_over m x y z = leb m x || (leb m y || leb m z)

-- flags that are no flags; IPv6 that is extended or has no source
unfoldable pub address_flags_out : Numbers → Bool
address_flags_out n = any_over 2 n.sourced n.extended n.ipv6 || wrong_ipv6 n.ipv6 n.extended n.sourced

-- an address wider than its type, or a source that is absent and not 0
unfoldable pub address_widths_out : Numbers → Bool
address_widths_out n =
    not (eqb n.ipv6 1) && (wide_out (address_limit 1 n.extended) n.destination || wide_out (address_limit n.sourced n.extended) n.source)

-- an element of one octet: its flag is none, or its number is wider than an octet, or absent and not 0
unfoldable pub octet_out : ℕ → ℕ → Bool
octet_out on v = leb 2 on || leb (pick (eqb on 0) 1 256) v

-- basic QOS: each subfield as such an element
abbrev pub qos_out : Numbers → Bool
qos_out n = octet_out n.qualified n.precedence || (octet_out n.qualified n.routing || octet_out n.qualified n.program)

-- how many numbers the P-field of a format has to choose from
abbrev pub pfield_limit : ℕ → ℕ
pfield_limit format = pick (eqb format 2) 256 1

-- a format that is none; a P-field where the format has none, or wider than an octet; a time where there is no timestamp
unfoldable pub stamp_out : Numbers → Bool
stamp_out n = leb 4 n.format || (leb (pfield_limit n.format) n.pfield || (eqb n.format 0 && not (eqb n.time 0)))

-- TP-ID and the two flags, wider than an octet
abbrev pub octets_out : Numbers → Bool
octets_out n = any_over 256 n.tpid n.checksum n.intermediate

unfoldable pub elements_out : Numbers → Bool
elements_out n = qos_out n || (octet_out n.counted n.hops || (octet_out n.expands n.expanded || stamp_out n))

unfoldable pub numbers_out : Numbers → Bool
numbers_out n = octets_out n || (address_flags_out n || (address_widths_out n || elements_out n))
