-- All that becomes of a received datagram: page 01, "One received datagram, step by step". Each list of checks is in the page's order, and
-- the first whose condition holds ends the call with its number. Assumes nothing.
use Rattle.std.specs.Prelude.{ℕ, ◌*◌, List, [], ◌∷◌, not, eqb, ltb}
use Rattle.checks.specs.Order.{pick, Checks, first_of}
use Rattle.sets.specs.Limits.{port_count}
use Rattle.sets.specs.Sets.{only_port}
use Rattle.header.specs.Limits.{longest_header}
use Rattle.header.specs.Read.{read_of, Read}
use Rattle.header.specs.declared.Header.{Header}
use Rattle.checks.specs.Told.{Good, Refused}
use Rattle.meaning.specs.Names.{aim_of}
use Rattle.meaning.specs.Arrival.{arrival_checks}
use Rattle.meaning.specs.Asked.{precedence_asked}
use Rattle.verdict.specs.declared.Local.TheVariants.{No}
use Rattle.verdict.specs.declared.Onward.TheVariants.{NotAsked}
use Rattle.verdict.specs.declared.Ruling.{Ruling}
use Rattle.state.specs.Relay.{Relay, port_in, port_set_up}
use Rattle.next_leg.specs.Leg.{no_legs}
use Rattle.floods.specs.Sweep.{is_past}
use Rattle.judge.specs.Ruling.{rule_of, legs_for}
use Rattle.judge.specs.declared.ruling.Arrival.{Arrival}
use Rattle.judge.specs.declared.Ending.{Ending}

-- a refusal delivers, grants and drops nothing
abbrev pub no_ruling : Ruling
no_ruling = record { local = No; onward = NotAsked; granted = 0; took = 0; dropped = 0 }

abbrev pub refused_by : ℕ → Ending
refused_by n = record { refusal = n; ruling = no_ruling; precedence = 0; size = 0; legs = no_legs }

-- the ending by a number that refuses, or where it is 0 by what follows
abbrev pub or_else : ℕ → Ending → Ending
or_else n e = pick (eqb n 0) e (refused_by n)

-- ---- step 1
-- "each output .. has 50 octets for each of eight ports .. 17 .. if fewer" (page 02, W-214)
abbrev pub output_room : ℕ
output_room = port_count * longest_header

-- "a second under the last accepted one .. refuses a datagram or sweep with 29, after 16 and 17" (page 02, W-207)
unfoldable pub call_checks : Relay → ℕ → ℕ → ℕ → Checks
call_checks r port second room = (not (port_set_up r port), 16) ∷ (ltb room output_room, 17) ∷ (is_past r.memory second, 29) ∷ []

-- ---- the ending
abbrev pub ruled_ending : Relay → Arrival → Header → Ending
ruled_ending r at h =
    record {
      refusal = 0;
      ruling = rule_of r at (aim_of at.address.0 h.fields.addresses) h;
      precedence = precedence_asked h.fields.qos;
      size = h.size;
      legs = legs_for r at (aim_of at.address.0 h.fields.addresses) h;
    }

unfoldable pub header_ending : Relay → Arrival → Header → Ending
header_ending r at h = or_else (first_of (arrival_checks at.address h.fields)) (ruled_ending r at h)

-- steps 2 and 3 are the reader's
abbrev pub octets_ending : Relay → Arrival → Read → Ending
octets_ending r at (Good h) = header_ending r at h
octets_ending r at (Refused n) = refused_by n

abbrev pub arrival_at : Relay → ℕ → Arrival
arrival_at r port = record { set = only_port port; address = (port_in r port).address }

-- what becomes of these octets, come in by this port in this second, with so much room for output
unfoldable pub ending_of : Relay → ℕ → ℕ → List ℕ → ℕ → Ending
ending_of r port second octets room = or_else (first_of (call_checks r port second room)) (octets_ending r (arrival_at r port) (read_of octets))
