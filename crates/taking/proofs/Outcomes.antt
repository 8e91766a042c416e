-- The outcomes of taking, over plain variables. Assumes nothing.
use Prim.Native.Nat.{ℕ}
use mathlib.Core.Path.{◌≡◌, sym, ap, ◌∙◌}
use mathlib.Core.Bool.{false, not}
use Rattle.checks.specs.Order.{check_of}
use Rattle.checks.specs.declared.Check.{Check}
use Rattle.checks.specs.declared.Check.TheVariants.{Passed, Failed}
use Rattle.checks.proofs.Laws.{passed_false, failed_true}
use Rattle.queue.specs.Queue.{take_of}
use Rattle.queue.specs.declared.Entry.{Entry}
use Rattle.std.proofs.Common.{Some, None}
use Rattle.queue.specs.declared.Queue.{Queue}
use Rattle.queue.specs.declared.Taken.{Taken}
use Rattle.state.specs.Relay.{among_ports, queue_at, put_queue}
use Rattle.state.specs.Seen.{Board, State, ports_seen, seated, on_mission, on_seated}
use Rattle.checks.specs.Told.{Good, Refused}
use Rattle.taking.specs.Taking.{take_outcome, taken_relay}

module _ (b : Board) (s : State) (port : ℕ) {number : ℕ} {c : Check} (own : number ≡ s.number)
    (told : c ≡ check_of (not (among_ports (ports_seen number b) port))) where
  told_own : c ≡ check_of (not (among_ports (ports_seen s.number b) port))
  told_own = told ∙ ap (λ n. check_of (not (among_ports (ports_seen n b) port))) own

  pub no_port_lem : c ≡ Failed → (Refused 16 ≡ take_outcome (seated b s) port) × (s ≡ on_seated b (λ r. taken_relay r port) s)
  unfolding take_outcome taken_relay
  no_port_lem fails = let h = failed_true (not (among_ports (ports_seen s.number b) port)) (sym told_own ∙ fails) in (simp (h), simp (h))

  module _ (ready : c ≡ Passed) {q : Queue} {t : Taken} (eq : q ≡ queue_at s.mission port) (et : t ≡ take_of q) where
    open_port : not (among_ports (ports_seen s.number b) port) ≡ false
    open_port = passed_false (not (among_ports (ports_seen s.number b) port)) (sym told_own ∙ ready)

    taken : take_of (queue_at s.mission port) ≡ t
    taken = sym (et ∙ ap take_of eq)

    pub nothing_waits : t.head ≡ None → (Refused 18 ≡ take_outcome (seated b s) port) × (s ≡ on_seated b (λ r. taken_relay r port) s)
    unfolding take_outcome taken_relay
    nothing_waits h = (simp (open_port, taken, h), simp (open_port, taken, h))

    pub one_handed : {left : State} (e : Entry) → t.head ≡ Some e → left ≡ on_mission (λ m. put_queue m port t.queue) s
        → (Good e ≡ take_outcome (seated b s) port) × (left ≡ on_seated b (λ r. taken_relay r port) s)
    unfolding take_outcome taken_relay
    one_handed e h es = (simp (open_port, taken, h), simp (open_port, taken, h) es)
