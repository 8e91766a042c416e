-- What C is told at the end of any trace: of each call of a customer's history the answer and what it leaves, by what the history leaves. The law is
-- `gives_row`; the others follow from it. Assumes nothing.
use Prim.Native.Nat.{ℕ, ◌+◌, ◌%◌, ◌^◌, ◌<◌}
use mathlib.Core.Path.{◌≡◌, refl, sym, ap, ◌∙◌}
use mathlib.Core.List.{List, []}
use lib.Dec.{eqb}
use Rattle.checks.specs.Order.{first_of}
use Rattle.sets.specs.Limits.{counter_count}
use Rattle.state.specs.Relay.{counter_in}
use Rattle.state.specs.Seen.{State}
use Rattle.state.specs.Layout.{decode_board, decode}
use Rattle.lent_state.specs.View.{Held, lent_board, lent}
use Rattle.contracts.specs.Promised.{Result, Allows}
use Rattle.contracts.specs.Stated.{Says}
use Rattle.history.specs.Seat.{Seat}
use Rattle.history.specs.Calls.{
  Order,
  set_router,
  set_port,
  set_lifetime,
  set_drop,
  set_route,
  clear_route,
  orders,
  Setting,
  set_group,
  set_path,
  clear_group,
  clear_path,
  MissionCall,
  sets,
  Call,
  operator,
  own,
  order_checks,
  list_left,
  checks_of,
}
use Rattle.history.specs.Outcome.{outcome, next}
use Rattle.history.specs.Tally.{sum_at, state_after}
use Rattle.history.proofs.Counters.{moves_sum, counters_fit}
use Rattle.demands.specs.Trace.{Customer, first, second, number_of, Step, operates, flies, step_of, Words, mission_of, made, words_after, history_of, board_of, seat_of, relay_of, Gives}
use Rattle.demands.proofs.Lane.{made_by, board_by, own_by}
use Rattle.demands.proofs.Promised.{next_state, promised_by}
use Rattle.demands.proofs.Held.{either_way, words_after_lem}
use Rattle.demands.proofs.Traced.{held_board, held_words, row_held, board_is, words_hold, words_board, words_own}

-- ---- a step of a customer's history is a call in its lane
module _ (who : Customer) (w : Words) (x : Result) where
  pub says_made : (c : Call) → Says (made w (step_of who c)) x → Says (made_by w.board (mission_of who w) c) x
  says_made (operator c) says = says
  says_made (own c) says = says

  pub board_after_lem : (c : Call) → (words_after w (step_of who c) x).board ≡ board_by w.board c x
  board_after_lem (operator c) = refl
  board_after_lem (own c) = own_board who c
    where
      own_board : (who : Customer) (c : MissionCall) → (words_after w (flies who c) x).board ≡ w.board
      own_board first c = refl
      own_board second c = refl

pub own_after_lem : (who : Customer) (w : Words) (x : Result) (c : Call) → mission_of who (words_after w (step_of who c) x) ≡ own_by (mission_of who w) c x
own_after_lem first w x (operator c) = refl
own_after_lem second w x (operator c) = refl
own_after_lem first w x (own c) = refl
own_after_lem second w x (own c) = refl

-- ---- after a trace
abbrev pub counters : Customer → List Step → List ℕ
counters who cs = (state_after (number_of who) (history_of who cs)).counters

module _ (who : Customer) (cs : List Step) where
  abbrev seat : Seat
  seat = seat_of who cs

  abbrev after : State
  after = state_after (number_of who) (history_of who cs)

  module _ (c : Call) (x : Result) where
    -- What a call gives back after a trace is what it is promised of the seat that the history leaves.
    pub gives_row : Gives cs (step_of who c) x → Allows (promised_by seat (counters who cs) c) x
    gives_row g =
        let is = words_hold who g.lent cs g.before g.begun in
        row_held g.before.board (mission_of who g.before) seat (counters who cs) is.0 is.1 c x (says_made who g.before x c g.says)

    -- The words after it spell what the call makes of it.
    module _ (g : Gives cs (step_of who c) x) where
      hold : (lent_board (board_by g.before.board c x) ≡ Held (next seat c).board)
          × (lent (own_by (mission_of who g.before) c x) ≡ Held (next_state seat (counters who cs) c))
      hold =
          let is = words_hold who g.lent cs g.before g.begun in
          words_after_lem g.before.board (mission_of who g.before) seat (counters who cs) is.0 is.1 x c (gives_row g)

      pub gives_board : decode_board (words_after g.before (step_of who c) x).board ≡ (next seat c).board
      gives_board = ap decode_board (board_after_lem who g.before x c) ∙ (held_board (board_by g.before.board c x) (next seat c).board hold.0).1

      pub gives_next : decode (mission_of who (words_after g.before (step_of who c) x)) ≡ next_state seat (counters who cs) c
      gives_next =
          ap decode (own_after_lem who g.before x c)
          ∙ (held_words (own_by (mission_of who g.before) c x) (next_state seat (counters who cs) c) hold.1).1

-- The words before any step spell what the history leaves.
module _ (who : Customer) (cs : List Step) (c : Step) (x : Result) (g : Gives cs c x) where
  pub before_board : decode_board g.before.board ≡ (seat_of who cs).board
  before_board = words_board who g.lent cs g.before g.begun

  pub before_own : decode (mission_of who g.before) ≡ state_after (number_of who) (history_of who cs)
  before_own = words_own who g.lent cs g.before g.begun

-- A call of the customer's moves each counter by what page 01's table gives this call, which is nothing for all but a datagram and a reply.
pub counters_move : (who : Customer) (cs : List Step) (c : MissionCall) (x : Result) (g : Gives cs (flies who c) x) (i : ℕ) → i < counter_count
    → counter_in (decode (mission_of who (words_after g.before (flies who c) x))).counters i
    ≡ (counter_in (decode (mission_of who g.before)).counters i + sum_at (outcome (seat_of who cs) (own c)).moves i) % 2 ^ 32
counters_move who cs c x g i inside =
    let is = before_own who cs (flies who c) x g in
    ap (λ (s : State). counter_in s.counters i) (gives_next who cs (own c) x g)
    ∙ moves_sum i inside (outcome (seat_of who cs) (own c)).moves (counters who cs) (counters_fit i inside (number_of who) (history_of who cs))
    ∙ ap (λ (s : State). (counter_in s.counters i + sum_at (outcome (seat_of who cs) (own c)).moves i) % 2 ^ 32) (sym is)

-- ---- by the kind of call
module _ (who : Customer) (cs : List Step) (x : Result) where
  pub setting_told : (s : Setting) → Gives cs (flies who (sets s)) x → x.answer ≡ first_of (checks_of (relay_of who cs) s)
  setting_told (set_group i address send subscribed) g = (gives_row who cs (own (sets (set_group i address send subscribed))) x g).answer
  setting_told (set_path i path send here) g = (gives_row who cs (own (sets (set_path i path send here))) x g).answer
  setting_told (clear_group i) g = (gives_row who cs (own (sets (clear_group i))) x g).answer
  setting_told (clear_path i) g = (gives_row who cs (own (sets (clear_path i))) x g).answer

  -- of the board that the operator's calls left
  pub order_seen : (o : Order) → Gives cs (operates (orders o)) x
      → (x.answer ≡ first_of (order_checks (seat_of who cs).board o)) × (x.left.routes ≡ list_left (seat_of who cs).board o)
  order_seen (set_router y) g =
      let k = gives_row who cs (operator (orders (set_router y))) x g in
      (k.answer, k.routes ∙ sym (either_way (eqb (first_of (order_checks (seat_of who cs).board (set_router y))) 0) []))
  order_seen (set_port p address mask mtu mission) g =
      let o = set_port p address mask mtu mission in
      let k = gives_row who cs (operator (orders o)) x g in
      (k.answer, k.routes ∙ sym (either_way (eqb (first_of (order_checks (seat_of who cs).board o)) 0) []))
  order_seen (set_lifetime y) g =
      let k = gives_row who cs (operator (orders (set_lifetime y))) x g in
      (k.answer, k.routes ∙ sym (either_way (eqb (first_of (order_checks (seat_of who cs).board (set_lifetime y))) 0) []))
  order_seen (set_drop y) g =
      let k = gives_row who cs (operator (orders (set_drop y))) x g in
      (k.answer, k.routes ∙ sym (either_way (eqb (first_of (order_checks (seat_of who cs).board (set_drop y))) 0) []))
  order_seen (set_route rs i prefix mask p availability capabilities mission) g =
      let k = gives_row who cs (operator (orders (set_route rs i prefix mask p availability capabilities mission))) x g in
      (k.answer, k.routes)
  order_seen (clear_route rs i) g = let k = gives_row who cs (operator (orders (clear_route rs i))) x g in (k.answer, k.routes)

  pub order_told : (o : Order) → Gives cs (operates (orders o)) x
      → (x.answer ≡ first_of (order_checks (board_of cs) o)) × (x.left.routes ≡ list_left (board_of cs) o)
  order_told o g = rw (← board_is who cs) (order_seen o g)
