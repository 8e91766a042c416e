-- A trace as one customer has part in it: the calls of its history, each on the board's words and its own. The other customer's steps are left out, and the
-- words are the same. What is proved of such a lane, one history long, is proved of the trace. Assumes nothing.
use Prim.Native.Nat.{ℕ}
use mathlib.Core.Path.{◌≡◌, refl, sym, ap, ◌∙◌}
use mathlib.Core.List.{List, [], ◌∷◌, map}
use Rattle.contracts.specs.Promised.{Result, Exported}
use Rattle.contracts.specs.Stated.{Says}
use Rattle.contracts.proofs.Rows.{one_result_by_contract}
use Rattle.history.specs.Calls.{Call, operator, own}
use Rattle.demands.specs.Trace.{Customer, first, second, Step, operates, flies, Words, mission_of, words_after, Trace, history_of, orders_of}
use Rattle.demands.specs.Trace.{operator_by, mission_by, operator_leaves, mission_leaves}
use Rattle.demands.specs.Apart.{given_to}

-- ---- calls of any kind, each with the call from C, and the board's and the mission's words after it
module _ {C : Type 0} (call_of : List ℕ → List ℕ → C → Exported) (boardFor ownFor : List ℕ → C → Result → List ℕ) where
  -- from words b and m to words d and n
  abbrev pub LaneOf : List ℕ → List ℕ → List C → List ℕ → List ℕ → Type 0
  LaneOf b m [] d n = (d ≡ b) × (n ≡ m)
  LaneOf b m (c ∷ cs) d n = (x : Result) × (Says (call_of b m c) x × LaneOf (boardFor b c x) (ownFor m c x) cs d n)

  abbrev results : (cs : List C) (b m d n : List ℕ) → LaneOf b m cs d n → List Result
  results [] b m d n l = []
  results (c ∷ cs) b m d n l = l.0 ∷ results cs (boardFor b c l.0) (ownFor m c l.0) d n l.1.1

  -- a lane with these results
  abbrev pub RanOf : List ℕ → List ℕ → List C → List ℕ → List ℕ → List Result → Type 0
  RanOf b m cs d n xs = (l : LaneOf b m cs d n) × (results cs b m d n l ≡ xs)

  -- one call more before it
  pub before : (b m : List ℕ) (c : C) (cs : List C) (d n : List ℕ) (xs : List Result) (x : Result) → Says (call_of b m c) x
      → RanOf (boardFor b c x) (ownFor m c x) cs d n xs → RanOf b m (c ∷ cs) d n (x ∷ xs)
  before b m c cs d n xs x says r = ((x, (says, r.0)), ap (λ (ys : List Result). x ∷ ys) r.1)

  -- A contract leaves no choice, so two lanes over the same calls that begin with the same words are the same throughout.
  pub ran_once : (cs : List C) {b b' m m' : List ℕ} {d d' n n' : List ℕ} {xs ys : List Result} → b ≡ b' → m ≡ m'
      → RanOf b m cs d n xs → RanOf b' m' cs d' n' ys → (xs ≡ ys) × ((d ≡ d') × (n ≡ n'))
  ran_once [] e f r s = (sym r.1 ∙ s.1, (r.0.0 ∙ e ∙ sym s.0.0, r.0.1 ∙ f ∙ sym s.0.1))
  ran_once (c ∷ cs) {b} {b'} {m} {m'} {d} {d'} {n} {n'} e f r s =
      let x = r.0.0 in
      let y = s.0.0 in
      let same : x ≡ y = one_result_by_contract (call_of b m c) x y r.0.1.0 (rw (e, f) s.0.1.0) in
      let board : boardFor b c x ≡ boardFor b' c y = rw (e, same) in
      let mission : ownFor m c x ≡ ownFor m' c y = rw (f, same) in
      let rest = ran_once cs board mission (r.0.1.1, refl) (s.0.1.1, refl) in (
        sym r.1
            ∙ ap (λ (z : Result). z ∷ results cs (boardFor b c x) (ownFor m c x) d n r.0.1.1) same
            ∙ ap (λ (zs : List Result). y ∷ zs) rest.0
            ∙ s.1,
        rest.1,
      )

-- ---- the calls of a history
abbrev pub made_by : List ℕ → List ℕ → Call → Exported
made_by b m (operator c) = operator_by b c
made_by b m (own c) = mission_by b m c

abbrev pub board_by : List ℕ → Call → Result → List ℕ
board_by b (operator c) x = operator_leaves b c x
board_by b (own c) x = b

abbrev pub own_by : List ℕ → Call → Result → List ℕ
own_by m (operator c) x = m
own_by m (own c) x = mission_leaves m c x

abbrev pub Lane : List ℕ → List ℕ → List Call → List ℕ → List ℕ → Type 0
Lane = LaneOf made_by board_by own_by

abbrev pub Ran : List ℕ → List ℕ → List Call → List ℕ → List ℕ → List Result → Type 0
Ran = RanOf made_by board_by own_by

-- Every trace has a lane for each customer.
pub ran : (who : Customer) (cs : List Step) (w v : Words) (t : Trace w cs v)
    → Ran w.board (mission_of who w) (history_of who cs) v.board (mission_of who v) (given_to who cs w v t)
ran who [] w v t = ((ap (λ (z : Words). z.board) t, ap (mission_of who) t), refl)
ran first (operates c ∷ cs) w v t =
    before made_by board_by own_by w.board w.zero (operator c) (history_of first cs) v.board v.zero _ t.0 t.1.0
    (ran first cs (words_after w (operates c) t.0) v t.1.1)
ran second (operates c ∷ cs) w v t =
    before made_by board_by own_by w.board w.one (operator c) (history_of second cs) v.board v.one _ t.0 t.1.0
    (ran second cs (words_after w (operates c) t.0) v t.1.1)
ran first (flies first c ∷ cs) w v t =
    before made_by board_by own_by w.board w.zero (own c) (history_of first cs) v.board v.zero _ t.0 t.1.0
    (ran first cs (words_after w (flies first c) t.0) v t.1.1)
ran first (flies second c ∷ cs) w v t = ran first cs (words_after w (flies second c) t.0) v t.1.1
ran second (flies first c ∷ cs) w v t = ran second cs (words_after w (flies first c) t.0) v t.1.1
ran second (flies second c ∷ cs) w v t =
    before made_by board_by own_by w.board w.one (own c) (history_of second cs) v.board v.one _ t.0 t.1.0
    (ran second cs (words_after w (flies second c) t.0) v t.1.1)

-- and one for the operator alone
pub operator_lane : (cs : List Step) (w v : Words) → Trace w cs v → Lane w.board [] (map operator (orders_of cs)) v.board []
operator_lane [] w v t = (ap (λ (z : Words). z.board) t, refl)
operator_lane (operates c ∷ cs) w v t = (t.0, (t.1.0, operator_lane cs (words_after w (operates c) t.0) v t.1.1))
operator_lane (flies first c ∷ cs) w v t = operator_lane cs (words_after w (flies first c) t.0) v t.1.1
operator_lane (flies second c ∷ cs) w v t = operator_lane cs (words_after w (flies second c) t.0) v t.1.1
