-- What a mission's pairs say of a flooded datagram, and what is kept of it: page 02, W-207. Assumes nothing.
use Rattle.std.specs.Prelude.{ℕ, ◌<◌, Bool, not, ◌&&◌, eqb, ltb}
use Rattle.checks.specs.Order.{pick}
use Rattle.sets.specs.Limits.{pair_places}
use Rattle.sets.specs.Sets.{any_below, first_below}
use Rattle.records.specs.Held.{holds_pair, is_free}
use Rattle.records.specs.declared.Pair.{Pair}
use Rattle.state.specs.Relay.{Memory, pair_at, put_last, put_pair}
use Rattle.header.specs.declared.Fields.{Fields}
use Rattle.meaning.specs.Flood.{is_flooded, pair_of}
use Rattle.verdict.specs.declared.Flood.{Flood}
use Rattle.verdict.specs.declared.Flood.TheVariants.{Plain, Unsent, Full, New}
use Rattle.verdict.specs.declared.Target.{Target}
use Rattle.verdict.specs.declared.Target.TheVariants.{Here, Broadcast, Group, Path, Route}

-- ---- what is held
-- the pair is held in some place
unfoldable pub is_held : Memory → Pair → Bool
is_held k q = any_below (λ (i : ℕ). holds_pair (pair_at k i) q) pair_places

-- the lowest free place; 64 where all places are held
unfoldable pub free_place : Memory → ℕ
free_place k = first_below (λ (i : ℕ). is_free (pair_at k i)) pair_places

-- ---- what the pairs say: "not asked for a held pair ..; with all places held 30, and nothing is kept; else the pair is kept"
unfoldable pub sought_pair : Memory → Pair → Flood
sought_pair k q = pick (is_held k q) Unsent (pick (ltb (free_place k) pair_places) (New (free_place k)) Full)

-- ".. a port's address or limited broadcast": these are for this node, and no pair is looked up. A path has no source, and a flood of it was refused by 28.
abbrev pub unless_here : Target → Flood → Flood
unless_here Here f = Unsent
unless_here Broadcast f = f
unless_here Group f = f
unless_here Path f = Plain
unless_here Route f = f

-- "Onward, on a router": a host looks nothing up, and neither does one of a datagram that is not flooded; port is the arrival port's address
unfoldable pub flood_of : ℕ → Target → Memory → ℕ → Fields → Flood
flood_of router t k port f = pick (is_flooded f && not (eqb router 0)) (unless_here t (sought_pair k (pair_of port f))) Plain

-- ---- what is kept: "any other second is accepted at that point, whatever the call then answers"; "else the pair is kept whatever follows", with its second
abbrev pub kept : Flood → Pair → ℕ → Memory → Memory
kept Plain q second k = k
kept Unsent q second k = k
kept Full q second k = k
kept (New place) q second k = put_pair k place (record { pair = q; second = second })

unfoldable pub remembering : Flood → Pair → ℕ → Memory → Memory
remembering f q second k = kept f q second (put_last k second)

-- a place that is one of the 64, where there is one
abbrev pub InPlaces : Flood → Type 0
InPlaces Plain = Unit
InPlaces Unsent = Unit
InPlaces Full = Unit
InPlaces (New place) = place < pair_places
