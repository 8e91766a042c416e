-- Demand 3: "From a fresh relay, after any calls, settings changed between them included, every counter equals, modulo 2^32, what the rules give over the
-- history. For each port, copies granted = handed out + waiting + dropped because 32 already waited. Of the copies waiting on a port, the highest
-- precedence is handed out first, the oldest within one." Each sentence is a field, said of what C calls; page 02, W-208: "Demand 3 holds for each mission
-- by itself". Proved in proofs/Demand3.antt. Assumes nothing.
use Rattle.std.specs.Prelude.{ℕ, ◌+◌, ◌%◌, ◌^◌, ◌<◌, ◌≤◌, ◌≡◌, Bool, true, false, ◌↔◌, ◌≢◌, List, [], ◌∷◌, map, length}
use Rattle.checks.specs.Order.{pick}
use Rattle.header.specs.Read.{header_of}
use Rattle.meaning.specs.Asked.{precedence_asked}
use Rattle.queue.specs.Order.{Placed}
use Rattle.queue.specs.Queue.{waiting as waiting_in, precedence_of}
use Rattle.page.specs.Table.{verdict_of}
use Rattle.sets.specs.Limits.{port_count, counter_count}
use Rattle.sets.specs.Sets.{in_set}
use Rattle.address.specs.declared.Slot.{Slot}
use Rattle.queue.specs.Queue.{entry_places}
use Rattle.queue.specs.Waits.{chosen, rank_by, AsAsked}
use Rattle.queue.specs.Foretold.{how_many, AtTake}
use Rattle.routes.specs.declared.Record.{Record}
use Rattle.state.specs.Relay.{port_set_up, port_in, queue_at}
use Rattle.lent_state.specs.View.{too_long}
use Rattle.answers.specs.Answers.{taking_number}
use Rattle.contracts.specs.Promised.{Result}
use Rattle.history.specs.Calls.{counter, waiting, hears, echoes, takes, sweeps, looks, OperatorCall, Setting, Look, sets, Call, operator, own}
use Rattle.history.specs.Outcome.{seat_after, sum_over, is_refusal, outcome, own_outcome}
use Rattle.history.specs.Sums.{given_by}
use Rattle.history.specs.Ledger.{granted, dropped, handed_out}
use Rattle.history.specs.Line.{Copy, entry_of, taken_by, taken_own, taking_of, line_at, taken_at, handed_at, InTurn}
use Rattle.history.specs.Foretold.{and_then, handed_since, takes_since, before, higher_enter, Idle, CountsNothing}
use Rattle.demands.specs.Trace.{Customer, number_of, Step, flies, Words, Trace, AllPass, Begun, history_of, seat_of, relay_of, relay_for, Gives}
use Rattle.demands.specs.ReadOut.{dropped_in, entries_in, took_in, header_out}

-- what port p has of a datagram that it took: the entry is "(slot, precedence)", and the header the one that C finds for the port in the output
abbrev pub placed_by : Customer → List Step → ℕ → ℕ → Slot → List ℕ → Result → Copy
placed_by who steps p at slot octets x =
    record {
      turn = length (history_of who steps);
      arrival = (port_in (relay_of who steps) at).address;
      octets = octets;
      size = (header_of octets).size;
      header = header_out x p;
      entry = record { slot = slot; precedence = precedence_asked (header_of octets).fields.qos };
    }

pub record Demand3 : Type 0 where
  -- "From a fresh relay, after any calls, settings changed between them included, every counter equals, modulo 2^32, what the rules give over the
  -- history.": hj_counter answers the sum, over the customer's calls, of what page 01's table gives that counter
  pub counters : (who : Customer) (steps : List Step) (i : ℕ) (x : Result) → i < counter_count → Gives steps (flies who (looks (counter i))) x
      → x.answer ≡ sum_over (given_by i) (number_of who) (history_of who steps) % 2 ^ 32
  -- "For each port, copies granted = handed out + waiting + dropped ..": hj_waiting answers how many wait
  pub ledger : (who : Customer) (steps : List Step) (p : ℕ) (x : Result) → p < port_count → Gives steps (flies who (looks (waiting p))) x
      → sum_over (granted p) (number_of who) (history_of who steps)
      ≡ sum_over (handed_out p) (number_of who) (history_of who steps) + (x.answer + sum_over (dropped p) (number_of who) (history_of who steps))
  -- where the copies of a datagram, granted, taken and dropped, are those of page 01's verdict, and those that C is told (record Echoes has it of a reply)
  pub copies_told : (who : Customer) (steps : List Step) (rs : List Record) (p at : ℕ) (slot : Slot) (second : ℕ) (octets output : List ℕ) (x : Result) → p < port_count
      → Gives steps (flies who (hears rs at slot second octets output)) x → too_long rs ≡ false
      → (in_set p (own_outcome (seat_of who steps) (hears rs at slot second octets output)).granted
      ≡ (verdict_of (relay_for who steps rs) at second octets (length output)).granted p)
      × ((in_set p (own_outcome (seat_of who steps) (hears rs at slot second octets output)).took ≡ in_set p (took_in x))
      × (in_set p (own_outcome (seat_of who steps) (hears rs at slot second octets output)).dropped ≡ in_set p (dropped_in x)))
  -- ".. because 32 already waited.": where hj_receive says that a port dropped its copy, hj_waiting answered 32 before
  pub dropped_by_32 : (who : Customer) (steps : List Step) (rs : List Record) (p at : ℕ) (slot : Slot) (second : ℕ) (octets output : List ℕ) (x y : Result) → p < port_count
      → Gives steps (flies who (hears rs at slot second octets output)) x → in_set p (dropped_in x) ≡ true
      → Gives steps (flies who (looks (waiting p))) y → y.answer ≡ entry_places
  -- "takes one entry (slot, precedence)": what a port has of a datagram that C is told it took
  pub placed : (who : Customer) (steps : List Step) (rs : List Record) (p at : ℕ) (slot : Slot) (second : ℕ) (octets output : List ℕ) (x : Result)
      → Gives steps (flies who (hears rs at slot second octets output)) x
      → taken_own p (length (history_of who steps)) (seat_of who steps) (hears rs at slot second octets output)
      ≡ pick (in_set p (took_in x)) (placed_by who steps p at slot octets x ∷ []) []
  -- "Of the copies waiting on a port, ..": those taken and not yet handed out, whatever is asked of them; each was taken by one call, and they stand in the
  -- order of these; hj_waiting answers how many,
  pub waiting_are : (who : Customer) (steps : List Step) (p : ℕ) (test : Copy → Bool)
      → how_many test (taken_at p (number_of who) (history_of who steps))
      ≡ how_many test (handed_at p (number_of who) (history_of who steps)) + how_many test (line_at p (number_of who) (history_of who steps))
  pub waiting_in_turn : (who : Customer) (steps : List Step) (p : ℕ)
      → InTurn (taken_at p (number_of who) (history_of who steps)) × InTurn (line_at p (number_of who) (history_of who steps))
  pub waiting_many : (who : Customer) (steps : List Step) (p : ℕ) (x : Result) → p < port_count → Gives steps (flies who (looks (waiting p))) x
      → x.answer ≡ length (line_at p (number_of who) (history_of who steps))
  -- ".. the highest precedence is handed out first, the oldest within one.": hj_take answers the entry that is asked for, or 16 or 18
  pub order : (who : Customer) (steps : List Step) (p : ℕ) (x : Result) → Gives steps (flies who (takes p)) x
      → (x.answer
      ≡ taking_number (taking_of (port_set_up (relay_of who steps) p) (chosen (rank_by entry_of) (line_at p (number_of who) (history_of who steps)))))
      × AsAsked (rank_by entry_of) (line_at p (number_of who) (history_of who steps)) (chosen (rank_by entry_of) (line_at p (number_of who) (history_of who steps)))
  -- Page 02, W-213: "if, after an entry is placed on a port, r entries stand before it, and h entries of higher precedence enter that port while it
  -- waits, then it is handed out at exactly the take numbered r + h + 1 after its placing, provided that many takes are made": m is a mission's number, x
  -- is the copy that call c places on port p after the calls cs, and ds are the calls that follow; takes are those of the port that hand out,
  pub foretold : (m : ℕ) (cs ds : List Call) (c : Call) (p k : ℕ) (x : Copy) → taken_by p (length cs) (seat_after m cs) c ≡ x ∷ []
      → AtTake k x (handed_since p m (and_then cs c) ds)
      ↔ ((k ≡ before p m x cs + higher_enter p m x (and_then cs c) ds + 1) × (k ≤ takes_since p m (and_then cs c) ds))
  -- where r is how many stand before it in the port's queue when it is placed,
  pub foretold_behind : (m : ℕ) (cs : List Call) (c : Call) (p : ℕ) (x : Copy) → p < port_count → taken_by p (length cs) (seat_after m cs) c ≡ x ∷ []
      → (at : Placed precedence_of (entry_of x) (waiting_in (queue_at (seat_after m cs).mission p)) (waiting_in (queue_at (seat_after m (and_then cs c)).mission p)))
      × (length at.before ≡ before p m x cs)
  -- "Refused calls and other ports' traffic count nothing": a call that is idle on the port counts nothing, and idle is what is refused,
  pub foretold_idle : (m : ℕ) (cs ds : List Call) (c : Call) (p : ℕ) (x : Copy) → Idle p m cs c → CountsNothing p m x cs c ds
  pub foretold_refused : (m : ℕ) (cs : List Call) (c : Call) (p : ℕ) → is_refusal (outcome (seat_after m cs) c).answer ≡ true → Idle p m cs c
  -- a take of another port, a datagram or a reply of which this port took no entry, a setting, a sweep, a look and whatever the operator calls; the other customer's
  -- calls are in no history of this one's;
  pub foretold_others : (m : ℕ) (cs : List Call) (p : ℕ)
      → ((q : ℕ) → q ≢ p → Idle p m cs (own (takes q)))
      × (((rs : List Record) (at : ℕ) (slot : Slot) (second : ℕ) (octets output : List ℕ)
      → in_set p (own_outcome (seat_after m cs) (hears rs at slot second octets output)).took ≡ false → Idle p m cs (own (hears rs at slot second octets output)))
      × (((rs : List Record) (at : ℕ) (slot : Slot) (octets output : List ℕ)
      → in_set p (own_outcome (seat_after m cs) (echoes rs at slot octets output)).took ≡ false → Idle p m cs (own (echoes rs at slot octets output)))
      × (((s : Setting) → Idle p m cs (own (sets s)))
      × (((second : ℕ) → Idle p m cs (own (sweeps second)))
      × (((l : Look) → Idle p m cs (own (looks l))) × ((c : OperatorCall) → Idle p m cs (operator c)))))))
  -- and what is handed out is what C reads out of the answers of the customer's hj_take, in that order, whatever else is called between them.
  pub handed_is_told : (who : Customer) (steps later : List Step) (p : ℕ) (w v u : Words) → Begun w steps v → (t : Trace v later u)
      → AllPass later → entries_in who p later v u t ≡ map entry_of (handed_since p (number_of who) (history_of who steps) (history_of who later))
