-- What a sweep frees: page 02, W-207 ("A sweep at a second frees exactly pairs whose age is over the lifetime set"). Assumes nothing.
use Rattle.std.specs.Prelude.{ℕ, zero, suc, ◌-◌, Bool, not, ◌&&◌, [], ◌∷◌, map, eqb, ltb}
use Rattle.checks.specs.Order.{pick, Checks, first_of}
use Rattle.records.specs.Fresh.{fresh_pair}
use Rattle.records.specs.Held.{is_free}
use Rattle.records.specs.declared.PairPlace.{PairPlace}
use Rattle.state.specs.Relay.{Memory, pair_at, put_pair}

module _ (lifetime second : ℕ) where
  -- a place that holds a pair whose age, the sweep's second less its own, is over the lifetime
  unfoldable pub is_old : PairPlace → Bool
  is_old x = not (is_free x) && ltb lifetime (second - x.second)

  -- such a place is freed, and each other stays as it is
  abbrev pub swept_place : PairPlace → PairPlace
  swept_place x = pick (is_old x) fresh_pair x

  unfoldable pub swept : Memory → Memory
  swept k = record { last = second; pairs = map swept_place k.pairs }

  -- the same place by place, as the loop does it (law `Swept-all`)
  unfoldable pub swept_at : Memory → ℕ → Memory
  swept_at k i = pick (is_old (pair_at k i)) (put_pair k i fresh_pair) k

  abbrev pub swept_below : Memory → ℕ → Memory
  swept_below k zero = k
  swept_below k (suc i) = swept_at (swept_below k i) i

-- "a second under the last accepted one (0 at first) refuses a datagram or sweep with 29"
abbrev pub is_past : Memory → ℕ → Bool
is_past k second = ltb second k.last

abbrev pub sweep_checks : Memory → ℕ → Checks
sweep_checks k second = (is_past k second, 29) ∷ []

-- what a sweep leaves
unfoldable pub swept_memory : ℕ → ℕ → Memory → Memory
swept_memory lifetime second k = pick (eqb (first_of (sweep_checks k second)) 0) (swept lifetime second k) k
