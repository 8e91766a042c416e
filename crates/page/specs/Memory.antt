-- What is remembered of a received datagram: page 02, W-207, in the page's words. proofs/Memory.antt has that receiving remembers exactly this. Assumes nothing.
use Rattle.std.specs.Prelude.{ℕ, Bool, not, ◌&&◌, ◌||◌, List, eqb, set}
use Rattle.checks.specs.Order.{pick, first_of}
use Rattle.sets.specs.Limits.{pair_places}
use Rattle.sets.specs.Sets.{first_below}
use Rattle.header.specs.Read.{header_of}
use Rattle.header.specs.declared.Fields.{Fields}
use Rattle.meaning.specs.Flood.{is_flooded, pair_of}
use Rattle.meaning.specs.declared.Aim.{Aim}
use Rattle.records.specs.Held.{is_free}
use Rattle.records.specs.declared.PairPlace.{PairPlace}
use Rattle.state.specs.Relay.{Memory, pair_at, Relay, port_in}
use Rattle.page.specs.Table.{aim_at, step_rows, destination_is, equals_port, is_limited, is_host, pair_held, some_free}

-- 29, and 16 and 17 before it, accept no second: "any other second is accepted at that point, whatever the call then answers"
abbrev pub no_second : ℕ → Bool
no_second n = eqb n 16 || (eqb n 17 || eqb n 29)

-- "Onward, on a router: not asked for .. a port's address or limited broadcast": a flooded datagram for which the pairs are looked up
abbrev pub floods_on : Relay → Aim → Fields → Bool
floods_on r x f = is_flooded f && (not (is_host r) && not (equals_port r x || destination_is x is_limited))

-- ".. a held pair ..; with all places held 30, and nothing is kept; else the pair is kept whatever follows"
abbrev pub is_kept : Relay → ℕ → Aim → Fields → Bool
is_kept r at x f = floods_on r x f && (not (pair_held r at f) && some_free r)

-- the lowest free place, and what then stands there: the pair "with the second of arrival"
unfoldable pub lowest_free : Relay → ℕ
lowest_free r = first_below (λ (i : ℕ). is_free (pair_at r.memory i)) pair_places

abbrev pub kept_place : Relay → ℕ → ℕ → List ℕ → PairPlace
kept_place r at second octets = record { pair = pair_of (port_in r at).address.0 (header_of octets).fields; second = second }

unfoldable pub page_memory : Relay → ℕ → ℕ → List ℕ → ℕ → Memory
page_memory r at second octets room =
    let n = first_of (step_rows r at second octets room) in
    pick (no_second n) r.memory
    (record {
      last = second;
      pairs = pick (eqb n 0 && is_kept r at (aim_at r at octets) (header_of octets).fields)
          (set r.memory.pairs (lowest_free r) (kept_place r at second octets)) r.memory.pairs;
    })
