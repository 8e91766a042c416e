-- The board over a history: page 02, W-208. It is what the operator's calls alone make of it (`board_is_the_operators`), and a port that is set up stands
-- as it is for ever (`port_stays`: "A port is written once; a second writing is refused by 35"). Assumes nothing.
use Prim.Native.Nat.{ℕ, ◌<◌}
use mathlib.Core.Path.{◌≡◌, refl, sym, ap, ◌∙◌}
use mathlib.Core.Bool.{true}
use mathlib.Core.List.{List, [], ◌∷◌}
use lib.Dec.{ltb}
use borrow.Author.Tests.{lt-ltb}
use Rattle.checks.proofs.Bools.{and_true}
use Rattle.settings.specs.Sets.{is_ready}
use Rattle.records.specs.SetUp.{is_set_up}
use Rattle.records.specs.declared.OwnedPort.{OwnedPort}
use Rattle.state.specs.Relay.{Relay, port_in, among_ports, port_set_up}
use Rattle.state.specs.Seen.{Board, owned_at}
use Rattle.state.proofs.Seen.{seen_at, seen_set_up, in_ready}
use Rattle.refusals.specs.Ready.{ready_set}
use Rattle.adjust.proofs.Taken.{port_stays as once}
use Rattle.history.specs.Seat.{Seat, relay_in}
use Rattle.history.specs.Calls.{
  Order,
  set_router,
  set_port,
  set_lifetime,
  set_drop,
  set_route,
  clear_route,
  orders,
  views,
  Call,
  operator,
  own,
  board_left,
}
use Rattle.history.specs.Outcome.{next, run_from, by_operator, board_from}
use Rattle.history.proofs.Settled.{order_keeps}

-- ---- whose the board is
-- Whatever the mission calls, the board is what the operator's calls leave of it.
pub board_is_the_operators : (cs : List Call) (seat : Seat) → (run_from seat cs).board ≡ board_from seat.board (by_operator cs)
board_is_the_operators [] seat = refl
board_is_the_operators (operator c ∷ cs) seat = board_is_the_operators cs (next seat (operator c))
board_is_the_operators (own c ∷ cs) seat = board_is_the_operators cs (next seat (own c))

-- ---- an order
module _ (b : Board) (q : ℕ) (up : is_set_up (owned_at b q).port ≡ true) where
  abbrev Stays : Board → Type 0
  Stays c = owned_at c q ≡ owned_at b q

  pub order_stays : (o : Order) → Stays (board_left b o)
  order_stays (set_router x) = order_keeps Stays b (set_router x) refl (λ taken. refl)
  order_stays (set_port p a m u n) = once b p a m u n q up
  order_stays (set_lifetime x) = order_keeps Stays b (set_lifetime x) refl (λ taken. refl)
  order_stays (set_drop x) = order_keeps Stays b (set_drop x) refl (λ taken. refl)
  order_stays (set_route rs i prefix mask port availability capabilities n) =
      order_keeps Stays b (set_route rs i prefix mask port availability capabilities n) refl (λ taken. refl)
  order_stays (clear_route rs i) = order_keeps Stays b (clear_route rs i) refl (λ taken. refl)

-- ---- each call, and then all
pub one_stays : (seat : Seat) (c : Call) (q : ℕ) → is_set_up (owned_at seat.board q).port ≡ true → owned_at (next seat c).board q ≡ owned_at seat.board q
one_stays seat (operator (orders o)) q up = order_stays seat.board q up o
one_stays seat (operator (views v)) q up = refl
one_stays seat (own c) q up = refl

-- A port that is set up is after any calls as it is now, its mission too.
pub port_stays : (cs : List Call) (seat : Seat) (q : ℕ) → is_set_up (owned_at seat.board q).port ≡ true
    → owned_at (run_from seat cs).board q ≡ owned_at seat.board q
port_stays [] seat q up = refl
port_stays (c ∷ cs) seat q up =
    let stays = one_stays seat c q up in
    port_stays cs (next seat c) q (ap (λ (x : OwnedPort). is_set_up x.port) stays ∙ up) ∙ stays

-- ---- the ports that the mission sees
-- a port is ready where it is set up
pub ready_is : (r : Relay) (p : ℕ) → p < 8 → is_ready p (ready_set r) ≡ is_set_up (port_in r p)
ready_is r p h = simp (lt-ltb p 8 h) (in_ready r.ports p h)

-- the number of the mission stays
pub number_stays : (cs : List Call) (seat : Seat) → (run_from seat cs).number ≡ seat.number
number_stays [] seat = refl
number_stays (operator c ∷ cs) seat = number_stays cs (next seat (operator c))
number_stays (own c ∷ cs) seat = number_stays cs (next seat (own c))

next_number : (seat : Seat) (c : Call) → (next seat c).number ≡ seat.number
next_number seat (operator c) = refl
next_number seat (own c) = refl

module _ (seat : Seat) (c : Call) (p : ℕ) where
  -- what the mission sees as set up, it sees so after any call
  pub seen_stays : is_set_up (port_in (relay_in seat) p) ≡ true → port_in (relay_in (next seat c)) p ≡ port_in (relay_in seat) p
  seen_stays up =
      let stays = one_stays seat c p (ap is_set_up (sym (seen_set_up seat.board p seat.number up).1) ∙ up) in
      seen_at (next seat c).board p (next seat c).number ∙ rw (stays, next_number seat c) refl ∙ sym (seen_at seat.board p seat.number)

  pub set_up_stays : port_set_up (relay_in seat) p ≡ true → port_set_up (relay_in (next seat c)) p ≡ true
  unfolding among_ports
  set_up_stays h =
      let both = and_true (ltb p 8) (is_set_up (port_in (relay_in seat) p)) h in
      rw (both.0, seen_stays both.1, both.1) refl
