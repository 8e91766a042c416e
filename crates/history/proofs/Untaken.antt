-- Demand 1: where a datagram is refused, as a whole or onward, no port took an entry (`took_none`); and whatever is refused leaves board, settings and
-- queues as they were, and of the memory all but an accepted second and a kept pair (`refused_stands`). Assumes nothing.
use native.Mathlib.Omega.{arith}
use Prim.Native.Nat.{ℕ}
use mathlib.Core.Path.{◌≡◌, refl, sym, ap, ◌∙◌}
use mathlib.Core.Bool.{true, not}
use mathlib.Core.Logic.{⊎_elim}
use mathlib.Core.List.{List}
use lib.ListN.{length}
use lib.Dec.{eqb, ltb}
use borrow.Author.Tests.{eqb-true, eqb-false, ltb-true, ne_eqb, not-true}
use Rattle.checks.specs.Order.{first_of}
use Rattle.checks.proofs.Bools.{true_false, or_true, not-false}
use Rattle.routes.specs.declared.Record.{Record}
use Rattle.state.specs.Relay.{Memory, Relay}
use Rattle.state.specs.Seen.{Board}
use Rattle.verdict.specs.Numbers.{onward_number}
use Rattle.floods.specs.Sweep.{sweep_checks, swept_memory}
use Rattle.taking.specs.Taking.{take_outcome, taken_relay, Taking}
use Rattle.checks.specs.Told.{Good, Refused}
use Rattle.answering.specs.Echoed.{as_ending}
use Rattle.history.specs.Seat.{Seat, relay_in, heard_by, replied_by}
use Rattle.history.specs.Calls.{orders, views, sets, hears, echoes, takes, sweeps, looks, Call, operator, own, order_checks, checks_of}
use Rattle.history.specs.Outcome.{is_refusal, of_ending, of_taking, outcome}
use Rattle.history.specs.Refused.{Stands}
use Rattle.history.proofs.Settled.{order_keeps, settle_keeps}
use Rattle.history.proofs.Refusals.{heard_grants_nothing, nobody_took, heard_stands, refused_take_leaves}
use Rattle.history.proofs.Sums.{sent_where_taken}
use Rattle.history.proofs.Replying.{reply_took_none}

pub took_none : (seat : Seat) (rs : List Record) (at second : ℕ) (octets : List ℕ) (room : ℕ) → is_refusal (of_ending (heard_by seat rs at second octets room)).answer ≡ true
    → (heard_by seat rs at second octets room).ruling.took ≡ 0
took_none seat rs at second octets room h =
    let e = heard_by seat rs at second octets room in
    let n = onward_number e.ruling.onward in
    ⊎_elim
    (λ refused. ap (λ x. x.took) (heard_grants_nothing seat rs at second octets room (λ z. true_false (sym (sym (ap (λ (k : ℕ). not (eqb k 0)) z) ∙ refused)))))
    (λ onward.
    let over = ltb-true 1 n onward in
    eqb-true e.ruling.took 0
    (not-false (eqb e.ruling.took 0) (sym (sent_where_taken seat rs at second octets room) ∙ ne_eqb n 1 (λ z. omega (arith, over, z)))))
    (or_true (not (eqb e.refusal 0)) (ltb 1 n) h)

-- ---- whatever is refused
refused_some : (n : ℕ) → not (eqb n 0) ≡ true → n ≡ 0 → ⊥
refused_some n h = eqb-false n 0 (not-true (eqb n 0) h)

take_left : (r : Relay) (p : ℕ) (t : Taking) → take_outcome r p ≡ t → is_refusal (of_taking p t).answer ≡ true → (taken_relay r p).mission ≡ r.mission
take_left r p (Good e) is h = true_false (sym h)
take_left r p (Refused n) is h = ap (λ (x : Relay). x.mission) (refused_take_leaves r p n is)

sweep_left : (lifetime second : ℕ) (k : Memory) → not (eqb (first_of (sweep_checks k second)) 0) ≡ true → swept_memory lifetime second k ≡ k
unfolding swept_memory
sweep_left lifetime second k h = rw (not-true (eqb (first_of (sweep_checks k second)) 0) h)

-- What a refused call leaves, of whatever seat.
pub refused_stands : (seat : Seat) (c : Call) → is_refusal (outcome seat c).answer ≡ true → Stands seat c
refused_stands seat (operator (orders o)) h =
    record {
      board =
          order_keeps (λ (b : Board). b ≡ seat.board) seat.board o refl (λ taken. absurd (refused_some (first_of (order_checks seat.board o)) h taken));
      mission = refl;
      memory = refl;
    }
refused_stands seat (operator (views v)) h = record { board = refl; mission = refl; memory = refl }
refused_stands seat (own (sets s)) h =
    record {
      board = refl;
      mission =
          settle_keeps (λ (r : Relay). r.mission ≡ seat.mission) (relay_in seat) s refl
          (λ taken. absurd (refused_some (first_of (checks_of (relay_in seat) s)) h taken));
      memory = refl;
    }
refused_stands seat (own (hears rs port slot second octets output)) h =
    record {
      board = refl;
      mission =
          ap (λ (r : Relay). r.mission)
          (nobody_took (relay_in seat) slot (heard_by seat rs port second octets (length output)) (took_none seat rs port second octets (length output) h));
      memory = heard_stands seat rs port second octets (length output);
    }
refused_stands seat (own (echoes rs port slot octets output)) h =
    record {
      board = refl;
      mission =
          ap (λ (r : Relay). r.mission)
          (nobody_took (relay_in seat) slot (as_ending (replied_by seat rs port octets (length output))) (reply_took_none seat rs port octets (length output) h));
      memory = refl;
    }
refused_stands seat (own (takes p)) h =
    record { board = refl; mission = take_left (relay_in seat) p (take_outcome (relay_in seat) p) refl h; memory = refl }
refused_stands seat (own (sweeps second)) h =
    record { board = refl; mission = refl; memory = sweep_left seat.board.lifetime second seat.memory h }
refused_stands seat (own (looks l)) h = record { board = refl; mission = refl; memory = refl }
