-- After any trace the board's words hold the board that the operator's calls leave, and each customer's words the state that its history leaves. The
-- theorem is `words_hold`, at the end. Assumes nothing.
use Prim.Native.Nat.{ℕ}
use mathlib.Core.Path.{◌≡◌, refl, ap, subst, ◌∙◌}
use mathlib.Core.Bool.{Bool, true, false}
use mathlib.Core.List.{List, [], ◌∷◌, ◌++◌}
use lib.ListN.{length}
use lib.Dec.{eqb}
use borrow.Author.Tests.{eqb-true}
use Rattle.checks.specs.Order.{pick}
use Rattle.checks.proofs.Bools.{true_false}
use Rattle.state.specs.Seen.{Board, State, fresh_state}
use Rattle.state.specs.Layout.{board_words, decode_board, mission_words, decode}
use Rattle.tally.specs.Tally.{counted_all}
use Rattle.lent_state.specs.View.{Held, Other, lent_board, lent}
use Rattle.contracts.specs.Promised.{Result, Allows}
use Rattle.contracts.specs.Stated.{Says}
use Rattle.contracts.proofs.Rows.{says_row}
use Rattle.history.specs.Calls.{Call, operator, own}
use Rattle.history.specs.Seat.{Seat, fresh_seat, state_of}
use Rattle.history.specs.Outcome.{board_from, next, outcome, run_from}
use Rattle.history.specs.Tally.{counters_from, state_after}
use Rattle.demands.specs.Trace.{Customer, first, second, number_of, Step, operates, flies, Words, mission_of, Begun, history_of, orders_of, board_of, seat_of}
use Rattle.demands.proofs.Fresh.{fresh_board_holds, fresh_mission_holds}
use Rattle.demands.proofs.Lane.{made_by, board_by, own_by, Lane, ran}
use Rattle.demands.proofs.Promised.{promised_by}
use Rattle.demands.proofs.Held.{row_is, words_after_lem}

-- ---- words that hold something are as many as it has, and they spell it
module _ {S : Type 0} where
  held_case : (t : Bool) (a b : S) (w : List ℕ) → pick t (Held a) (Other w) ≡ Held b → (t ≡ true) × (a ≡ b)
  held_case true a b w e = (refl, cc)
  held_case false a b w e = true_false cc

pub held_board : (w : List ℕ) (b : Board) → lent_board w ≡ Held b → (length w ≡ board_words) × (decode_board w ≡ b)
unfolding lent_board
held_board w b is =
    let k = held_case (eqb (length w) board_words) (decode_board w) b w is in
    (eqb-true (length w) board_words k.0, k.1)

pub held_words : (w : List ℕ) (s : State) → lent w ≡ Held s → (length w ≡ mission_words) × (decode w ≡ s)
unfolding lent
held_words w s is =
    let k = held_case (eqb (length w) mission_words) (decode w) s w is in
    (eqb-true (length w) mission_words k.0, k.1)

-- ---- a lane
-- What a call gives back where the words hold a seat and its counters is what it is promised of these.
pub row_held : (b m : List ℕ) (x : Seat) (l : List ℕ) → lent_board b ≡ Held x.board → lent m ≡ Held (state_of x l) → (c : Call) (y : Result)
    → Says (made_by b m c) y → Allows (promised_by x l c) y
row_held b m x l board mission c y says =
    subst (λ p. Allows p y) (row_is b m x l board mission c) (says_row (made_by b m c) y says)

-- Words that hold a seat and its counters hold, after a lane, what its calls leave of them.
pub lane_holds : (cs : List Call) (b m d n : List ℕ) (x : Seat) (l : List ℕ) → lent_board b ≡ Held x.board → lent m ≡ Held (state_of x l)
    → Lane b m cs d n → (lent_board d ≡ Held (run_from x cs).board) × (lent n ≡ Held (state_of (run_from x cs) (counters_from l x cs)))
lane_holds [] b m d n x l board mission t = (ap lent_board t.0 ∙ board, ap lent t.1 ∙ mission)
lane_holds (c ∷ cs) b m d n x l board mission t =
    let y = t.0 in
    let after = words_after_lem b m x l board mission y c (row_held b m x l board mission c y t.1.0) in
    lane_holds cs (board_by b c y) (own_by m c y) d n (next x c) (counted_all l (outcome x c).moves) after.0 after.1 t.1.1

-- ---- one step more
pub history_more : (who : Customer) (xs ys : List Step) → history_of who (xs ++ ys) ≡ history_of who xs ++ history_of who ys
history_more who [] ys = refl
history_more who (operates c ∷ xs) ys = ap (λ (h : List Call). operator c ∷ h) (history_more who xs ys)
history_more first (flies first c ∷ xs) ys = ap (λ (h : List Call). own c ∷ h) (history_more first xs ys)
history_more first (flies second c ∷ xs) ys = history_more first xs ys
history_more second (flies first c ∷ xs) ys = history_more second xs ys
history_more second (flies second c ∷ xs) ys = ap (λ (h : List Call). own c ∷ h) (history_more second xs ys)

-- ---- the board is the same to both customers
board_run : (who : Customer) (cs : List Step) (x : Seat) → (run_from x (history_of who cs)).board ≡ board_from x.board (orders_of cs)
board_run who [] x = refl
board_run who (operates c ∷ cs) x = board_run who cs (next x (operator c))
board_run first (flies first c ∷ cs) x = board_run first cs (next x (own c))
board_run first (flies second c ∷ cs) x = board_run first cs x
board_run second (flies first c ∷ cs) x = board_run second cs x
board_run second (flies second c ∷ cs) x = board_run second cs (next x (own c))

pub board_is : (who : Customer) (cs : List Step) → (seat_of who cs).board ≡ board_of cs
board_is who cs = board_run who cs (fresh_seat (number_of who))

-- ---- the beginning
fresh_state_lem : (n : ℕ) → fresh_state n ≡ state_of (fresh_seat n) (fresh_state n).counters
unfolding fresh_state
fresh_state_lem n = refl

mission_begins : (who : Customer) (w v : Words) (cs : List Step) (b : Begun w cs v)
    → lent (mission_of who (record { board = b.board.left.board; zero = b.zero.left.mission; one = b.one.left.mission }))
    ≡ Held (fresh_state (number_of who))
mission_begins first w v cs b = fresh_mission_holds w.zero 0 b.zero b.fresh_zero.0 b.fresh_zero.1
mission_begins second w v cs b = fresh_mission_holds w.one 1 b.one b.fresh_one.0 b.fresh_one.1

-- After words of any content, a fresh board, both missions fresh and any steps, the words hold what the customer's history leaves.
pub words_hold : (who : Customer) (w : Words) (cs : List Step) (v : Words) → Begun w cs v
    → (lent_board v.board ≡ Held (seat_of who cs).board) × (lent (mission_of who v) ≡ Held (state_after (number_of who) (history_of who cs)))
words_hold who w cs v b =
    let n = number_of who in
    let start : Words = record { board = b.board.left.board; zero = b.zero.left.mission; one = b.one.left.mission } in
    lane_holds (history_of who cs) start.board (mission_of who start) v.board (mission_of who v) (fresh_seat n) (fresh_state n).counters
    (fresh_board_holds w.board b.board b.fresh_board_lem.0 b.fresh_board_lem.1)
    (mission_begins who w v cs b ∙ ap Held (fresh_state_lem n))
    (ran who cs start v b.then).0

-- So they spell it.
module _ (who : Customer) (w : Words) (cs : List Step) (v : Words) (b : Begun w cs v) where
  pub words_board : decode_board v.board ≡ (seat_of who cs).board
  words_board = (held_board v.board (seat_of who cs).board (words_hold who w cs v b).0).1

  pub words_own : decode (mission_of who v) ≡ state_after (number_of who) (history_of who cs)
  words_own = (held_words (mission_of who v) (state_after (number_of who) (history_of who cs)) (words_hold who w cs v b).1).1
