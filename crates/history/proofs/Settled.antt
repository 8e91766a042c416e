-- What a setting leaves: what was there where it is refused, else what it writes. Assumes nothing.
use Prim.Native.Nat.{ℕ}
use mathlib.Core.Path.{◌≡◌, refl}
use mathlib.Core.Bool.{Bool, true, false}
use mathlib.Core.List.{List}
use lib.Dec.{eqb}
use borrow.Author.Tests.{eqb-true}
use Rattle.checks.specs.Order.{pick, first_of}
use Rattle.queue.specs.declared.Queue.{Queue}
use Rattle.state.specs.Relay.{Relay}
use Rattle.state.specs.Seen.{Board}
use Rattle.adjust.specs.Settled.{settled}
use Rattle.history.specs.Calls.{
  Order,
  order_checks,
  board_written,
  board_left,
  Setting,
  set_group,
  set_path,
  clear_group,
  clear_path,
  checks_of,
  written,
  settle,
}

-- what holds of what was there, and of what is written where nothing refuses it, holds of what the setting leaves
module _ {A : Type 0} (P : A → Type 0) (refusal : ℕ) (new old : A) where
  either_way : (t : Bool) → eqb refusal 0 ≡ t → P old → (refusal ≡ 0 → P new) → P (pick t new old)
  either_way true e before after = after (eqb-true refusal 0 e)
  either_way false e before after = before

  settled_keeps : P old → (refusal ≡ 0 → P new) → P (settled refusal new old)
  settled_keeps before after = either_way (eqb refusal 0) refl before after

-- of an order, on the board
pub order_keeps : (P : Board → Type 0) (b : Board) (o : Order) → P b → (first_of (order_checks b o) ≡ 0 → P (board_written b o)) → P (board_left b o)
order_keeps P b o = settled_keeps P (first_of (order_checks b o)) (board_written b o) b

-- of a mission's setting, on the relay that it sees
pub settle_keeps : (P : Relay → Type 0) (r : Relay) (s : Setting) → P r → (first_of (checks_of r s) ≡ 0 → P (written r s)) → P (settle r s)
settle_keeps P r s = settled_keeps P (first_of (checks_of r s)) (written r s) r

-- ---- no setting touches a queue
abbrev pub queues_of : Relay → List Queue
queues_of r = r.mission.queues

written_queues : (r : Relay) (s : Setting) → queues_of (written r s) ≡ queues_of r
written_queues r (set_group i address send subscribed) = refl
written_queues r (set_path i path send here) = refl
written_queues r (clear_group i) = refl
written_queues r (clear_path i) = refl

pub settle_queues : (r : Relay) (s : Setting) → queues_of (settle r s) ≡ queues_of r
settle_queues r s = settle_keeps (λ (x : Relay). queues_of x ≡ queues_of r) r s refl (λ e. written_queues r s)
