-- What is remembered of a received datagram: page 02, W-207. Its second is accepted "whatever the call then answers", unless 16, 17 or 29 ended the call; its pair is kept
-- where it is flooded on, whatever follows. Assumes nothing.
use Rattle.std.specs.Prelude.{ℕ, Bool, ◌||◌, List, eqb}
use Rattle.checks.specs.Order.{pick, first_of}
use Rattle.header.specs.Read.{read_of, Read}
use Rattle.header.specs.declared.Header.{Header}
use Rattle.checks.specs.Told.{Good, Refused}
use Rattle.meaning.specs.Names.{aim_of}
use Rattle.meaning.specs.Flood.{pair_of}
use Rattle.meaning.specs.Arrival.{arrival_checks}
use Rattle.verdict.specs.declared.Flood.TheVariants.{Plain}
use Rattle.state.specs.Relay.{Memory, put_last, Relay}
use Rattle.floods.specs.Memory.{remembering}
use Rattle.judge.specs.Ruling.{flood_for}
use Rattle.judge.specs.Ending.{call_checks, arrival_at}
use Rattle.judge.specs.declared.ruling.Arrival.{Arrival}
use Rattle.judge.specs.declared.Asked.{Asked}

-- of a header that was read: nothing is kept where 8, 7, 6 or 28 ends the call
unfoldable pub header_memory : Relay → Arrival → ℕ → Header → Memory
header_memory r at second h =
    remembering
    (pick (eqb (first_of (arrival_checks at.address h.fields)) 0) (flood_for r at (aim_of at.address.0 h.fields.addresses) h) Plain)
    (pair_of at.address.0 h.fields) second r.memory

abbrev pub octets_memory : Relay → Arrival → ℕ → Read → Memory
octets_memory r at second (Good h) = header_memory r at second h
octets_memory r at second (Refused n) = put_last r.memory second

-- of these octets, come in by this port in this second, with so much room for output
unfoldable pub memory_of : Relay → ℕ → ℕ → List ℕ → ℕ → Memory
memory_of r port second octets room =
    pick (eqb (first_of (call_checks r port second room)) 0) (octets_memory r (arrival_at r port) second (read_of octets)) r.memory

-- ---- the same of what is known before the search (law `remembered_is`)
-- "With 16, 17, 21 .. none is accepted", and with 29 (docs/DECISIONS.md)
abbrev pub is_unheard : ℕ → Bool
is_unheard n = eqb n 21 || (eqb n 16 || (eqb n 17 || eqb n 29))

-- by a refusal the second alone
abbrev pub refused_memory : ℕ → ℕ → Memory → Memory
refused_memory second n k = pick (is_unheard n) k (put_last k second)

unfoldable pub remembered_by : ℕ → Asked → Memory → Memory
remembered_by second a k =
    pick (eqb a.refusal 0) (remembering a.case.flood (pair_of a.arrival.0 a.header.fields) second k) (refused_memory second a.refusal k)
