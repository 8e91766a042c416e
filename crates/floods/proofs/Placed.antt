-- A place that a pair is kept in is one of the 64. Assumes nothing.
use Prim.Native.Nat.{ℕ}
use mathlib.Core.Path.{◌≡◌, refl}
use mathlib.Core.Bool.{Bool, true, false, not, ◌&&◌}
use lib.Dec.{eqb, ltb}
use borrow.Author.Tests.{ltb-true}
use Rattle.checks.specs.Order.{pick}
use Rattle.records.specs.declared.Pair.{Pair}
use Rattle.header.specs.declared.Fields.{Fields}
use Rattle.meaning.specs.Flood.{is_flooded, pair_of}
use Rattle.state.specs.Relay.{Memory}
use Rattle.verdict.specs.declared.Flood.TheVariants.{Plain, Unsent, Full, New}
use Rattle.verdict.specs.declared.Target.{Target}
use Rattle.verdict.specs.declared.Target.TheVariants.{Here, Broadcast, Group, Path, Route}
use Rattle.floods.specs.Memory.{is_held, free_place, sought_pair, unless_here, flood_of, InPlaces}

sought_in_places : (k : Memory) (q : Pair) → InPlaces (sought_pair k q)
unfolding sought_pair
sought_in_places k q = by_held (is_held k q)
  where
    by_free : (t : Bool) → ltb (free_place k) 64 ≡ t → InPlaces (pick t (New (free_place k)) Full)
    by_free true e = ltb-true (free_place k) 64 e
    by_free false e = tt

    by_held : (t : Bool) → InPlaces (pick t Unsent (pick (ltb (free_place k) 64) (New (free_place k)) Full))
    by_held true = tt
    by_held false = by_free (ltb (free_place k) 64) refl

pub flood_in_places : (router : ℕ) (t : Target) (k : Memory) (port : ℕ) (f : Fields) → InPlaces (flood_of router t k port f)
unfolding flood_of
flood_in_places router t k port f = by_flood (is_flooded f && not (eqb router 0)) t
  where
    by_flood : (flooded : Bool) (t : Target) → InPlaces (pick flooded (unless_here t (sought_pair k (pair_of port f))) Plain)
    by_flood true Here = tt
    by_flood true Broadcast = sought_in_places k (pair_of port f)
    by_flood true Group = sought_in_places k (pair_of port f)
    by_flood true Path = tt
    by_flood true Route = sought_in_places k (pair_of port f)
    by_flood false t = tt
