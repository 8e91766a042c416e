-- What a call makes of the memory: page 02, W-207. It leaves it, accepts a second, keeps a pair besides, in a place that was free, or sweeps; so what
-- these four leave true every call does (`memory_so`). Assumes nothing.
use native.Mathlib.Omega.{arith}
use Prim.Native.Nat.{ℕ, ◌<◌}
use mathlib.Core.Path.{◌≡◌, refl, sym, ap, ◌∙◌}
use mathlib.Core.Bool.{Bool, true, false, not, ◌&&◌, ◌||◌}
use lib.Dec.{eqb}
use lib.ListN.{length}
use borrow.Author.Tests.{eqb-false}
use Rattle.std.specs.Prelude.{Option, Some, None}
use Rattle.checks.specs.Order.{pick, first_of}
use Rattle.checks.proofs.Bools.{true_false, and_true, or_false}
use Rattle.header.specs.Build.{source_flag, format_of}
use Rattle.header.specs.declared.Fields.{Fields}
use Rattle.header.specs.declared.Timestamp.{Timestamp}
use Rattle.header.specs.declared.Timestamp.TheVariants as stamp
use Rattle.meaning.specs.Flood.{is_flooded, unmarked, pair_of}
use Rattle.records.specs.Held.{is_free}
use Rattle.records.specs.declared.Pair.{Pair}
use Rattle.state.specs.Relay.{Memory, pair_at, put_last, put_pair}
use Rattle.verdict.specs.declared.Flood.{Flood}
use Rattle.verdict.specs.declared.Flood.TheVariants.{Plain, Unsent, Full, New}
use Rattle.verdict.specs.declared.Target.{Target}
use Rattle.verdict.specs.declared.Target.TheVariants.{Here, Broadcast, Group, Path, Route}
use Rattle.floods.specs.Memory.{is_held, sought_pair, unless_here, flood_of, remembering}
use Rattle.floods.specs.Sweep.{is_past, swept, swept_memory}
use Rattle.floods.proofs.Sought.{sought_new}
use Rattle.history.specs.Seat.{Seat}
use Rattle.history.specs.Calls.{sets, hears, echoes, takes, sweeps, looks, Call, operator, own}
use Rattle.history.specs.Outcome.{next}
use Rattle.history.proofs.Heard.{hearing_so}

-- ---- a pair that is kept: it was not held, and its place was free
pub record Keeping (k : Memory) (place : ℕ) (q : Pair) : Type 0 where
  pub inside : place < 64
  pub free : is_free (pair_at k place) ≡ true
  pub new : is_held k q ≡ false
  -- it has a timestamp, and of one of three formats
  pub dated : q.format ≡ 0 → ⊥
  pub format : q.format < 4

format_small : (m : Option Timestamp) → format_of m < 4
format_small None = omega arith
format_small (Some (stamp.Implicit time)) = omega arith
format_small (Some (stamp.Explicit field time)) = omega arith
format_small (Some (stamp.Binary time)) = omega arith

-- 28 is not given: a flooded datagram has a timestamp
marked_dated : (f : Fields) → unmarked f ≡ false → is_flooded f ≡ true → format_of f.stamp ≡ 0 → ⊥
marked_dated f marked flooded =
    let both : (eqb (source_flag f.addresses) 0 || eqb (format_of f.stamp) 0) ≡ false =
    ap (λ (t : Bool). t && (eqb (source_flag f.addresses) 0 || eqb (format_of f.stamp) 0)) (sym flooded) ∙ marked in
    eqb-false (format_of f.stamp) 0 (or_false (eqb (source_flag f.addresses) 0) (eqb (format_of f.stamp) 0) both).1

module _ (k : Memory) (port : ℕ) (f : Fields) (marked : unmarked f ≡ false) (place : ℕ) where
  sought_keeping : is_flooded f ≡ true → sought_pair k (pair_of port f) ≡ New place → Keeping k place (pair_of port f)
  unfolding pair_of
  sought_keeping flooded e =
      let told = sought_new k (pair_of port f) e in
      record {
        inside = told.1.0;
        free = told.1.1.0;
        new = told.1.1.1;
        dated = marked_dated f marked flooded;
        format = format_small f.stamp;
      }

  target_keeping : is_flooded f ≡ true → (t : Target) → unless_here t (sought_pair k (pair_of port f)) ≡ New place → Keeping k place (pair_of port f)
  target_keeping flooded Here e = true_false cc
  target_keeping flooded Broadcast e = sought_keeping flooded e
  target_keeping flooded Group e = sought_keeping flooded e
  target_keeping flooded Path e = true_false cc
  target_keeping flooded Route e = sought_keeping flooded e

  pub flood_keeping : (router : ℕ) (t : Target) → flood_of router t k port f ≡ New place → Keeping k place (pair_of port f)
  unfolding flood_of
  flood_keeping router t e = by (is_flooded f && not (eqb router 0)) refl e
    where
      by : (u : Bool) → (is_flooded f && not (eqb router 0)) ≡ u → pick u (unless_here t (sought_pair k (pair_of port f))) Plain ≡ New place
          → Keeping k place (pair_of port f)
      by true so is = target_keeping (and_true (is_flooded f) (not (eqb router 0)) so).0 t is
      by false not_so is = true_false cc

-- ---- what these leave true
module _ (P : Memory → Type 0) (k : Memory) (second : ℕ) (accepted : P (put_last k second)) where
  pub remembering_so : (f : Flood) (q : Pair) → ((place : ℕ) → f ≡ New place → P (put_pair (put_last k second) place (record { pair = q; second = second })))
      → P (remembering f q second k)
  unfolding remembering
  remembering_so Plain q kept = accepted
  remembering_so Unsent q kept = accepted
  remembering_so Full q kept = accepted
  remembering_so (New place) q kept = kept place refl

module _ (P : Memory → Type 0) (seat : Seat) (same : P seat.memory)
    (accepted : (second : ℕ) → is_past seat.memory second ≡ false → P (put_last seat.memory second))
    (kept : (second place : ℕ) (q : Pair) → is_past seat.memory second ≡ false → Keeping seat.memory place q
    → P (put_pair (put_last seat.memory second) place (record { pair = q; second = second })))
    (freed : (second : ℕ) → is_past seat.memory second ≡ false → P (swept seat.board.lifetime second seat.memory)) where
  sweep_so : (second : ℕ) → P (swept_memory seat.board.lifetime second seat.memory)
  unfolding swept_memory first_of
  sweep_so second = by (is_past seat.memory second) refl
    where
      by : (t : Bool) → is_past seat.memory second ≡ t
          → P (pick (eqb (pick t 29 0) 0) (swept seat.board.lifetime second seat.memory) seat.memory)
      by true past = same
      by false now = freed second now

  -- What leaving, accepting, keeping and sweeping leave true is true after any call.
  pub memory_so : (c : Call) → P (next seat c).memory
  memory_so (operator c) = same
  memory_so (own (sets s)) = same
  memory_so (own (hears rs port slot second octets output)) =
      hearing_so seat rs port second octets (λ e k. P k) (λ n un. same) (λ now n some heard. accepted second now)
      (λ now h is good.
      remembering_so P seat.memory second (accepted second now) _ _ (λ place new. kept second place _ now (flood_keeping seat.memory _ h.fields good.1.1.1.1.0 place _ _ new)))
      (length output)
  memory_so (own (echoes rs port slot octets output)) = same
  memory_so (own (takes port)) = same
  memory_so (own (sweeps second)) = sweep_so second
  memory_so (own (looks l)) = same
