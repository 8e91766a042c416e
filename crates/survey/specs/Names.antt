-- The names of the ports, gathered once for many datagrams (page 02, W-201): what a datagram is compared with in place of the ports. Assumes nothing.
use Rattle.std.specs.Prelude.{ℕ, zero, suc, ◌%◌, ◌^◌, ◌<◌, Bool, true, ◌||◌, List, ◌≡◌, eqb, get_or, replicate, Option, Some, None}
use Rattle.std.specs.Int.Bits.{bit_and, bit_or}
use Rattle.address.specs.declared.Address.{Address}
use Rattle.sets.specs.Limits.{port_count}
use Rattle.sets.specs.Sets.{port_set}
use Rattle.networks.specs.Networks.{subnet_broadcast, class_broadcast}
use Rattle.records.specs.Fresh.{fresh_port}
use Rattle.records.specs.declared.Port.{Port}
use Rattle.verdict.specs.declared.Survey.{Survey}
use Rattle.survey.specs.Survey.{set_up_and}
use Rattle.survey.specs.declared.names.Names.{Names}

-- names of ports that were not looked at
abbrev pub no_names : Names
no_names = record { looked = 0; ready = 0; marks = 0; own = replicate port_count 0; subnet = replicate port_count 0; class = replicate port_count 0 }

-- ---- the names of a port: its address and its two broadcasts; a class without a network broadcast has the subnet's in its place, which is a name already
abbrev pub broadcast_or : Option Address → ℕ → ℕ
broadcast_or (Some x) other = x.0
broadcast_or None other = other

abbrev pub own_name : Port → ℕ
own_name p = p.address.0

abbrev pub subnet_name : Port → ℕ
subnet_name p = (subnet_broadcast p.address p.mask).0

abbrev pub class_name : Port → ℕ
class_name p = broadcast_or (class_broadcast p.address) (subnet_name p)

-- ---- a name is marked by its last six bits
abbrev pub mark_of : ℕ → ℕ
mark_of name = 2 ^ (name % 64)

abbrev pub marked_by : ℕ → ℕ → ℕ → ℕ → ℕ
marked_by marks own subnet class = bit_or (bit_or (bit_or marks (mark_of own)) (mark_of subnet)) (mark_of class)

abbrev pub marks_below : List Port → ℕ → ℕ
marks_below ports zero = 0
marks_below ports (suc p) =
    marked_by (marks_below ports p) (own_name (get_or ports p fresh_port)) (subnet_name (get_or ports p fresh_port)) (class_name (get_or ports p fresh_port))

-- ---- these are the names of the first n ports
pub record NamesBelow (ports : List Port) (n : ℕ) (k : Names) : Type 0 where
  pub ready : k.ready ≡ port_set (set_up_and ports (λ (x : Port). true)) n
  pub marks : k.marks ≡ marks_below ports n
  pub own : (p : ℕ) → p < n → get_or k.own p 0 ≡ own_name (get_or ports p fresh_port)
  pub subnet : (p : ℕ) → p < n → get_or k.subnet p 0 ≡ subnet_name (get_or ports p fresh_port)
  pub class : (p : ℕ) → p < n → get_or k.class p 0 ≡ class_name (get_or ports p fresh_port)

-- the ports were looked at, and these are the names of all
abbrev pub NamesOf : List Port → Names → Type 0
NamesOf ports k = (k.looked ≡ 1) × NamesBelow ports port_count k

-- the same if they were looked at
abbrev pub NamesFor : List Port → Names → Type 0
NamesFor ports k = k.looked ≡ 1 → NamesBelow ports port_count k

-- ---- what is compared with the address: of port p the first name, or one of the others
abbrev pub has_own : Names → Address → ℕ → Bool
has_own k a p = eqb (get_or k.own p 0) a.0

abbrev pub has_broadcast : Names → Address → ℕ → Bool
has_broadcast k a p = eqb (get_or k.subnet p 0) a.0 || eqb (get_or k.class p 0) a.0

unfoldable pub compared_of : Names → Address → Survey
compared_of k a =
    record {
      ready = k.ready;
      addressed = bit_and k.ready (port_set (has_own k a) port_count);
      broadcast = bit_and k.ready (port_set (has_broadcast k a) port_count);
      domain = 0;
      fitting = 0;
      full = 0;
    }
