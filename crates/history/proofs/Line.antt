-- Demand 3, the order: after any history a port's queue holds the copies that wait there, and a take hands out the oldest of the highest precedence.
-- What waits is what was taken and not yet handed out (`out_or_waiting`, of whatever copies, and `taken_out_or_waiting`, of one), and it stands in the
-- order of entering (`line_in_turn`). The theorem of the queue is `queue_waits`. Assumes nothing.
use native.Mathlib.Omega.{arith}
use Prim.Native.Nat.{ℕ, suc, ◌+◌, ◌≤◌, ◌<◌}
use mathlib.Core.Path.{◌≡◌, refl, sym, ap, subst, ◌∙◌}
use mathlib.Core.Bool.{Bool, true, false, not}
use mathlib.Core.List.{List, [], ◌∷◌, ◌++◌, append-nil}
use lib.ListN.{length, get_or, set, get_or-replicate}
use lib.Seq.{get_or-set_same, get_or-set_other}
use lib.Dec.{eqb, ltb}
use borrow.Author.Tests.{eqb-true, eqb-false, ltb-true}
use Rattle.checks.specs.Order.{pick}
use Rattle.checks.proofs.Bools.{true_false}
use Rattle.checks.proofs.Laws.{either}
use Rattle.sets.specs.Sets.{in_set}
use Rattle.queue.specs.Order.{Each}
use Rattle.queue.specs.Queue.{fresh as new_queue, put_of, take_of}
use Rattle.queue.specs.Waits.{Chosen, nobody, one, chosen, rank_by, Highest, Waits}
use Rattle.queue.specs.Foretold.{how_many}
use Rattle.queue.proofs.Foretold.{many_append}
use Rattle.queue.specs.declared.Entry.{Entry}
use Rattle.std.proofs.Common.{Option, Some, None}
use Rattle.queue.specs.declared.Queue.{Queue}
use Rattle.queue.proofs.Each.{each_so, each_append, order_append, order_without}
use Rattle.queue.proofs.Waits.{EachOf, chosen_each, chosen_asked, waits_fresh, waits_count, waits_put, waits_take, waits_nothing}
use Rattle.routes.specs.declared.Record.{Record}
use Rattle.address.specs.declared.Slot.{Slot}
use Rattle.state.specs.Relay.{Relay, queue_at, queue_in, port_set_up}
use Rattle.state.specs.Seen.{fresh_mission}
use Rattle.taking.specs.Taking.{hands_out, without, take_outcome, taken_relay}
use Rattle.checks.specs.Told.{Refused}
use Rattle.relay.specs.Received.{received_relay}
use Rattle.history.specs.Seat.{Seat, fresh_seat, relay_in, heard_by, answering_by, replied_by}
use Rattle.history.specs.Calls.{orders, views, sets, hears, echoes, takes, sweeps, looks, Call, operator, own, settle}
use Rattle.history.specs.Outcome.{Out, nothing, from, of_taking, outcome, next, run_from, seat_after}
use Rattle.history.specs.Line.{Copy, entry_of, copy_of, reply_copy, taken_by, handed_by, left_by, line_by, line_from, taken_from, handed_from, line_at, taken_at, handed_at, times, InTurn}
use Rattle.history.proofs.Fair.{fair}
use Rattle.history.proofs.Replying.{reply_fair}
use Rattle.history.proofs.Queues.{Eight, entered_queue}
use Rattle.history.proofs.Settled.{queues_of, settle_queues}
use Rattle.history.proofs.Ledger.{next_eight, fresh_eight}

left_each : (p : ℕ) (P : Copy → Type 0) (o : Out) (line : List Copy) (c : Chosen Copy) → Each P line → EachOf (rank_by entry_of) P c → Each P (left_by p o line c)
left_each p P nothing line c all h = all
left_each p P (from q e) line nobody all h = all
left_each p P (from q e) line (one x others) all h = either (Each P) (eqb q p) h.1 all

-- what holds of each that waits and of each that a call places holds of each that waits after the call
pub line_each : (p : ℕ) (P : Copy → Type 0) (n : ℕ) (seat : Seat) (c : Call) (line : List Copy) → Each P line → Each P (taken_by p n seat c) → Each P (line_by p n seat c line)
line_each p P n seat c line all come =
    let x = chosen (rank_by entry_of) line in
    each_append P (left_by p (outcome seat c).out line x) (taken_by p n seat c)
    (left_each p P (outcome seat c).out line x all (chosen_each (rank_by entry_of) P line all)) come

module _ (p : ℕ) (inside : p < 8) where
  abbrev Held : Relay → List Copy → Type 0
  Held r line = Waits entry_of (queue_in r p) line

  -- ---- a queue and a line that both stay
  stays : (r s : Relay) (line : List Copy) → queue_in s p ≡ queue_in r p → Held r line → Held s (line ++ [])
  stays r s line same w = rw (same, append-nil line) w

  -- ---- a datagram, and a reply
  put_case : (t : Bool) (r : Relay) (line : List Copy) (c : Copy) → Held r line → (t ≡ true → ltb (queue_in r p).count 32 ≡ true)
      → Waits entry_of (pick t (put_of (queue_in r p) (entry_of c)).queue (queue_in r p)) (line ++ pick t (c ∷ []) [])
  put_case true r line c w room =
      waits_put entry_of w c (rw (sym (waits_count entry_of w)) (ltb-true (queue_in r p).count 32 (room refl)))
  put_case false r line c w room = rw (append-nil line) w

  heard_waits : (seat : Seat) (n : ℕ) (rs : List Record) (port : ℕ) (slot : Slot) (second : ℕ) (octets output : List ℕ) (line : List Copy)
      → Eight (relay_in seat) → Held (relay_in seat) line
      → Held (relay_in (next seat (own (hears rs port slot second octets output)))) (line_by p n seat (own (hears rs port slot second octets output)) line)
  unfolding received_relay
  heard_waits seat n rs port slot second octets output line l w =
      let r = relay_in seat in
      let e = heard_by seat rs port second octets (length output) in
      let c = copy_of p n seat port slot octets e in
      rw (entered_queue p inside e.ruling.took (entry_of c) 8 r l inside)
      (put_case (in_set p e.ruling.took) r line c w (fair seat p inside rs port second octets (length output)).room)

  echoed_waits : (seat : Seat) (n : ℕ) (rs : List Record) (port : ℕ) (slot : Slot) (octets output : List ℕ) (line : List Copy)
      → Eight (relay_in seat) → Held (relay_in seat) line
      → Held (relay_in (next seat (own (echoes rs port slot octets output)))) (line_by p n seat (own (echoes rs port slot octets output)) line)
  unfolding received_relay
  echoed_waits seat n rs port slot octets output line l w =
      let r = relay_in seat in
      let e = replied_by seat rs port octets (length output) in
      let c = reply_copy n seat port slot octets (answering_by seat rs port octets (length output)) e in
      rw (entered_queue p inside e.ruling.took (entry_of c) 8 r l inside)
      (put_case (in_set p e.ruling.took) r line c w (reply_fair seat p inside rs port octets (length output)).room)

  -- ---- a take
  take_case : (r : Relay) (n port : ℕ) (line : List Copy) → Eight r → Held r line
      → (t : Bool) (h : Option Entry) → (take_of (queue_in r port)).head ≡ h → (u : Bool) → eqb port p ≡ u → (c : Chosen Copy) → chosen (rank_by entry_of) line ≡ c
      → Waits entry_of (queue_in (pick t r (without r port (take_of (queue_in r port)).queue h)) p)
      (left_by p (of_taking port (pick t (Refused 16) (hands_out h))).out line c)
  take_case r n port line l w true h e u z c is = w
  take_case r n port line l w false None e u z c is = w
  take_case r n port line l w false (Some x) e false z nobody is =
      rw (get_or-set_other (queues_of r) port p (take_of (queue_in r port)).queue new_queue (λ y. eqb-false port p z (sym y))) w
  take_case r n port line l w false (Some x) e false z (one y others) is =
      rw (z, get_or-set_other (queues_of r) port p (take_of (queue_in r port)).queue new_queue (λ y. eqb-false port p z (sym y))) w
  take_case r n port line l w false (Some x) e true z nobody is =
      let empty : line ≡ [] = rw is at (chosen_asked (rank_by entry_of) line) in
      let none = (waits_nothing entry_of w).1 empty in
      true_false (cc (none, e, eqb-true port p z))
  take_case r n port line l w false (Some x) e true z (one y others) is =
      let same = eqb-true port p z in
      let left : get_or (set (queues_of r) port (take_of (queue_in r port)).queue) p new_queue ≡ (take_of (queue_in r p)).queue =
      ap (λ (n : ℕ). get_or (set (queues_of r) port (take_of (queue_in r port)).queue) n new_queue) (sym same)
      ∙ get_or-set_same (queues_of r) port _ _ (rw (l, same) inside)
      ∙ ap (λ (n : ℕ). (take_of (queue_in r n)).queue) same in
      rw (z, left) (waits_take entry_of w y others is).1

  taken_waits : (r : Relay) (n port : ℕ) (line : List Copy) → Eight r → Held r line
      → Held (taken_relay r port) (left_by p (of_taking port (take_outcome r port)).out line (chosen (rank_by entry_of) line))
  unfolding take_outcome taken_relay
  taken_waits r n port line l w =
      take_case r n port line l w (not (port_set_up r port)) (take_of (queue_in r port)).head refl (eqb port p) refl (chosen (rank_by entry_of) line) refl

  -- ---- each call, and then all
  pub next_waits : (seat : Seat) (n : ℕ) (c : Call) (line : List Copy) → Eight (relay_in seat) → Held (relay_in seat) line
      → Held (relay_in (next seat c)) (line_by p n seat c line)
  next_waits seat n (operator (orders o)) line l w = stays (relay_in seat) (relay_in (next seat (operator (orders o)))) line refl w
  next_waits seat n (operator (views v)) line l w = stays (relay_in seat) (relay_in seat) line refl w
  next_waits seat n (own (sets s)) line l w =
      stays (relay_in seat) (settle (relay_in seat) s) line (ap (λ (x : List Queue). get_or x p new_queue) (settle_queues (relay_in seat) s)) w
  next_waits seat n (own (hears rs port slot second octets output)) line l w = heard_waits seat n rs port slot second octets output line l w
  next_waits seat n (own (echoes rs port slot octets output)) line l w = echoed_waits seat n rs port slot octets output line l w
  next_waits seat n (own (takes port)) line l w =
      rw (append-nil (left_by p (of_taking port (take_outcome (relay_in seat) port)).out line (chosen (rank_by entry_of) line)))
      (taken_waits (relay_in seat) n port line l w)
  next_waits seat n (own (sweeps second)) line l w = stays (relay_in seat) (relay_in seat) line refl w
  next_waits seat n (own (looks x)) line l w = stays (relay_in seat) (relay_in seat) line refl w

  all_wait : (cs : List Call) (n : ℕ) (seat : Seat) (line : List Copy) → Eight (relay_in seat) → Held (relay_in seat) line
      → Held (relay_in (run_from seat cs)) (line_from p n seat line cs)
  all_wait [] n seat line l w = w
  all_wait (c ∷ cs) n seat line l w = all_wait cs (suc n) (next seat c) (line_by p n seat c line) (next_eight seat c l) (next_waits seat n c line l w)

  fresh_queue : queue_at fresh_mission p ≡ new_queue
  unfolding fresh_mission
  fresh_queue = get_or-replicate {A = Queue} 8 p new_queue new_queue inside

  pub fresh_waits : Waits entry_of (queue_at fresh_mission p) []
  fresh_waits = rw fresh_queue (waits_fresh entry_of)

  -- After any history of mission m the queue of port p holds the copies that wait there, in the order in which they go out.
  pub queue_waits : (m : ℕ) (cs : List Call) → Waits entry_of (queue_at (seat_after m cs).mission p) (line_at p m cs)
  queue_waits m cs = all_wait cs 0 (fresh_seat m) [] (fresh_eight m) fresh_waits

-- ---- what waits is what was taken and not yet handed out
module _ (test : Copy → Bool) where
  abbrev many : List Copy → ℕ
  many = how_many test

  chosen_many : (line : List Copy) (x : Copy) (others : List Copy) → Highest (rank_by entry_of) line x others
      → many line ≡ many (x ∷ []) + many others
  chosen_many line x others h =
      let front = many_append test h.before (x ∷ h.after) in
      let back = many_append test h.before h.after in
      omega (arith, ap many h.was, ap many h.leaves, front, back)

  module _ (p : ℕ) where
    out_case : (line : List Copy) (o : Out) (c : Chosen Copy) → chosen (rank_by entry_of) line ≡ c
        → many line ≡ many (handed_by p o c) + many (left_by p o line c)
    out_case line nothing c is = omega arith
    out_case line (from q e) nobody is = omega arith
    out_case line (from q e) (one x others) is = split (eqb q p)
      where
        split : (t : Bool) → many line ≡ many (pick t (x ∷ []) []) + many (pick t others line)
        split true = chosen_many line x others (rw is at (chosen_asked (rank_by entry_of) line))
        split false = omega arith

    all_many : (cs : List Call) (k : ℕ) (seat : Seat) (line : List Copy)
        → many line + many (taken_from p k seat cs) ≡ many (handed_from p k seat line cs) + many (line_from p k seat line cs)
    all_many [] k seat line = omega arith
    all_many (c ∷ cs) k seat line =
        let o = (outcome seat c).out in
        let x = chosen (rank_by entry_of) line in
        omega (
          arith,
          out_case line o x refl,
          many_append test (left_by p o line x) (taken_by p k seat c),
          many_append test (taken_by p k seat c) (taken_from p (suc k) (next seat c) cs),
          many_append test (handed_by p o x) (handed_from p (suc k) (next seat c) (line_by p k seat c line) cs),
          all_many cs (suc k) (next seat c) (line_by p k seat c line),
        )

-- Of whatever copies, as many were taken as were handed out and wait now.
pub out_or_waiting : (p : ℕ) (test : Copy → Bool) (m : ℕ) (cs : List Call)
    → how_many test (taken_at p m cs) ≡ how_many test (handed_at p m cs) + how_many test (line_at p m cs)
out_or_waiting p test m cs = omega (arith, all_many test p cs 0 (fresh_seat m) [])

module _ (p n : ℕ) where
  -- So the copy that a call placed was taken as often as it was handed out and waits now.
  pub taken_out_or_waiting : (m : ℕ) (cs : List Call) → times n (taken_at p m cs) ≡ times n (handed_at p m cs) + times n (line_at p m cs)
  taken_out_or_waiting = out_or_waiting p (λ (c : Copy). eqb c.turn n)

-- ---- the order of entering
abbrev Before : Copy → Copy → Type 0
Before c d = c.turn < d.turn

-- those of turns below n, and then those from n on
in_turn_both : (n : ℕ) (l r : List Copy) → InTurn l → Each (λ (c : Copy). c.turn < n) l → InTurn r → Each (λ (d : Copy). n ≤ d.turn) r
    → InTurn (l ++ r)
in_turn_both n l r first low then high =
    order_append Before l r first (each_so l (λ c lower. each_so r (λ d higher. omega arith) high) low) then

module _ (p : ℕ) where
  -- each copy has the turn of the call that placed it
  pub taken_turn : (n : ℕ) (seat : Seat) (c : Call) → Each (λ (y : Copy). y.turn ≡ n) (taken_by p n seat c)
  taken_turn n seat (operator c) = tt
  taken_turn n seat (own (sets s)) = tt
  taken_turn n seat (own (hears rs port slot second octets output)) =
      either (Each (λ (y : Copy). y.turn ≡ n)) (in_set p (heard_by seat rs port second octets (length output)).ruling.took) (refl, tt) tt
  taken_turn n seat (own (echoes rs port slot octets output)) =
      either (Each (λ (y : Copy). y.turn ≡ n)) (in_set p (replied_by seat rs port octets (length output)).ruling.took) (refl, tt) tt
  taken_turn n seat (own (takes port)) = tt
  taken_turn n seat (own (sweeps second)) = tt
  taken_turn n seat (own (looks l)) = tt

  by_in_turn : (n : ℕ) (seat : Seat) (c : Call) → InTurn (taken_by p n seat c)
  by_in_turn n seat (operator c) = tt
  by_in_turn n seat (own (sets s)) = tt
  by_in_turn n seat (own (hears rs port slot second octets output)) =
      either InTurn (in_set p (heard_by seat rs port second octets (length output)).ruling.took) (tt, tt) tt
  by_in_turn n seat (own (echoes rs port slot octets output)) =
      either InTurn (in_set p (replied_by seat rs port octets (length output)).ruling.took) (tt, tt) tt
  by_in_turn n seat (own (takes port)) = tt
  by_in_turn n seat (own (sweeps second)) = tt
  by_in_turn n seat (own (looks l)) = tt

  -- ---- all that were taken: those that are taken from now on have no earlier turn
  pub taken_later : (cs : List Call) (n : ℕ) (seat : Seat) → Each (λ (y : Copy). n ≤ y.turn) (taken_from p n seat cs)
  taken_later [] n seat = tt
  taken_later (c ∷ cs) n seat =
      each_append _ (taken_by p n seat c) _
      (each_so (taken_by p n seat c) (λ y same. omega arith) (taken_turn n seat c))
      (each_so (taken_from p (suc n) (next seat c) cs) (λ y h. omega arith) (taken_later cs (suc n) (next seat c)))

  taken_from_in_turn : (cs : List Call) (n : ℕ) (seat : Seat) → InTurn (taken_from p n seat cs)
  taken_from_in_turn [] n seat = tt
  taken_from_in_turn (c ∷ cs) n seat =
      in_turn_both (suc n) (taken_by p n seat c) (taken_from p (suc n) (next seat c) cs)
      (by_in_turn n seat c) (each_so (taken_by p n seat c) (λ y same. omega arith) (taken_turn n seat c))
      (taken_from_in_turn cs (suc n) (next seat c)) (taken_later cs (suc n) (next seat c))

  -- The copies taken stand in the order in which the calls placed them.
  pub taken_in_turn : (m : ℕ) (cs : List Call) → InTurn (taken_at p m cs)
  taken_in_turn m cs = taken_from_in_turn cs 0 (fresh_seat m)

  -- ---- those that wait: they have an earlier turn than the next call
  by_earlier : (n : ℕ) (seat : Seat) (c : Call) (line : List Copy) → Each (λ (y : Copy). y.turn < n) line
      → Each (λ (y : Copy). y.turn < suc n) (line_by p n seat c line)
  by_earlier n seat c line all =
      line_each p (λ (y : Copy). y.turn < suc n) n seat c line
      (each_so line (λ y h. omega arith) all)
      (each_so (taken_by p n seat c) (λ y same. omega arith) (taken_turn n seat c))

  line_earlier : (cs : List Call) (n : ℕ) (seat : Seat) (line : List Copy) → Each (λ (y : Copy). y.turn < n) line
      → Each (λ (y : Copy). y.turn < n + length cs) (line_from p n seat line cs)
  line_earlier [] n seat line all = each_so line (λ y h. omega arith) all
  line_earlier (c ∷ cs) n seat line all =
      each_so (line_from p n seat line (c ∷ cs)) (λ y h. omega arith)
      (line_earlier cs (suc n) (next seat c) (line_by p n seat c line) (by_earlier n seat c line all))

  left_in_turn : (o : Out) (line : List Copy) (c : Chosen Copy) → chosen (rank_by entry_of) line ≡ c → InTurn line → InTurn (left_by p o line c)
  left_in_turn nothing line c is h = h
  left_in_turn (from q e) line nobody is h = h
  left_in_turn (from q e) line (one x others) is h =
      let taken : Highest (rank_by entry_of) line x others = rw is at (chosen_asked (rank_by entry_of) line) in
      let were : InTurn (taken.before ++ x ∷ taken.after) = subst InTurn taken.was h in
      either InTurn (eqb q p) (subst InTurn (sym taken.leaves) (order_without Before taken.before x taken.after were)) h

  line_from_in_turn : (cs : List Call) (n : ℕ) (seat : Seat) (line : List Copy) → Each (λ (y : Copy). y.turn < n) line → InTurn line
      → InTurn (line_from p n seat line cs)
  line_from_in_turn [] n seat line all h = h
  line_from_in_turn (c ∷ cs) n seat line all h =
      let x = chosen (rank_by entry_of) line in
      let o = (outcome seat c).out in
      line_from_in_turn cs (suc n) (next seat c) (line_by p n seat c line) (by_earlier n seat c line all)
      (in_turn_both n (left_by p o line x) (taken_by p n seat c)
      (left_in_turn o line x refl h) (left_each p _ o line x all (chosen_each (rank_by entry_of) _ line all))
      (by_in_turn n seat c) (each_so (taken_by p n seat c) (λ y same. omega arith) (taken_turn n seat c)))

  -- After any history the line stands in the order in which the calls placed its copies, and each has the number of a call of the history.
  pub line_in_turn : (m : ℕ) (cs : List Call) → InTurn (line_at p m cs)
  line_in_turn m cs = line_from_in_turn cs 0 (fresh_seat m) [] tt tt

  pub line_turns : (m : ℕ) (cs : List Call) → Each (λ (c : Copy). c.turn < length cs) (line_at p m cs)
  line_turns m cs = each_so (line_at p m cs) (λ y h. omega arith) (line_earlier cs 0 (fresh_seat m) [] tt)
