-- A program with batches as one customer has part in it (page 02, W-208 and W-201): the operator's acts and its own, each on the board's words and its own. As in
-- proofs/Apart.antt no act has a choice, so what the other customer does changes nothing of it. Assumes nothing.
use Prim.Native.Nat.{ℕ}
use mathlib.Core.Path.{◌≡◌, refl, sym, ap, subst}
use mathlib.Core.List.{List, [], ◌∷◌}
use Rattle.contracts.specs.Promised.{Result, Exported}
use Rattle.demands.specs.Trace.{Customer, first, second, Step, operates, flies, Words, mission_of, Begun, history_of}
use Rattle.demands.specs.Trace.{operator_by, mission_by, operator_leaves, mission_leaves}
use Rattle.demands.specs.Apart.{left_to}
use Rattle.demands.specs.Batches.{Act, single, batch, many_by, left_by, Runs, acts_of, given_for}
use Rattle.demands.proofs.Lane.{RanOf, before, ran_once}
use Rattle.demands.proofs.Apart.{same_lanes}

-- ---- an act on the board's words and the customer's, and the words after it
abbrev act_by : List ℕ → List ℕ → Act → Exported
act_by b m (single (operates c)) = operator_by b c
act_by b m (single (flies who c)) = mission_by b m c
act_by b m (batch who rs x n o) = many_by b m rs x n o

abbrev board_after : List ℕ → Act → Result → List ℕ
board_after b (single (operates c)) y = operator_leaves b c y
board_after b (single (flies who c)) y = b
board_after b (batch who rs x n o) y = b

abbrev own_after : List ℕ → Act → Result → List ℕ
own_after m (single (operates c)) y = m
own_after m (single (flies who c)) y = mission_leaves m c y
own_after m (batch who rs x n o) y = y.left.mission

abbrev Ran : List ℕ → List ℕ → List Act → List ℕ → List ℕ → List Result → Type 0
Ran = RanOf act_by board_after own_after

-- Every program has a lane for each customer.
ran : (who : Customer) (cs : List Act) (w v : Words) (r : Runs w cs v)
    → Ran w.board (mission_of who w) (acts_of who cs) v.board (mission_of who v) (given_for who cs w v r)
ran who [] w v r = ((ap (λ (z : Words). z.board) r, ap (mission_of who) r), refl)
ran first (single (operates c) ∷ cs) w v r =
    before act_by board_after own_after w.board w.zero (single (operates c)) (acts_of first cs) v.board v.zero _ r.0 r.1.0
    (ran first cs (left_by w (single (operates c)) r.0) v r.1.1)
ran second (single (operates c) ∷ cs) w v r =
    before act_by board_after own_after w.board w.one (single (operates c)) (acts_of second cs) v.board v.one _ r.0 r.1.0
    (ran second cs (left_by w (single (operates c)) r.0) v r.1.1)
ran first (single (flies first c) ∷ cs) w v r =
    before act_by board_after own_after w.board w.zero (single (flies first c)) (acts_of first cs) v.board v.zero _ r.0 r.1.0
    (ran first cs (left_by w (single (flies first c)) r.0) v r.1.1)
ran first (single (flies second c) ∷ cs) w v r = ran first cs (left_by w (single (flies second c)) r.0) v r.1.1
ran second (single (flies first c) ∷ cs) w v r = ran second cs (left_by w (single (flies first c)) r.0) v r.1.1
ran second (single (flies second c) ∷ cs) w v r =
    before act_by board_after own_after w.board w.one (single (flies second c)) (acts_of second cs) v.board v.one _ r.0 r.1.0
    (ran second cs (left_by w (single (flies second c)) r.0) v r.1.1)
ran first (batch first rs x n o ∷ cs) w v r =
    before act_by board_after own_after w.board w.zero (batch first rs x n o) (acts_of first cs) v.board v.zero _ r.0 r.1.0
    (ran first cs (left_by w (batch first rs x n o) r.0) v r.1.1)
ran first (batch second rs x n o ∷ cs) w v r = ran first cs (left_by w (batch second rs x n o) r.0) v r.1.1
ran second (batch first rs x n o ∷ cs) w v r = ran second cs (left_by w (batch first rs x n o) r.0) v r.1.1
ran second (batch second rs x n o ∷ cs) w v r =
    before act_by board_after own_after w.board w.one (batch second rs x n o) (acts_of second cs) v.board v.one _ r.0 r.1.0
    (ran second cs (left_by w (batch second rs x n o) r.0) v r.1.1)

-- two programs with the same acts
pub acts_apart : (who : Customer) (steps others : List Step) → history_of who steps ≡ history_of who others → (cs ds : List Act)
    → acts_of who cs ≡ acts_of who ds → (w w' u u' v v' : Words) → Begun w steps u → Begun w' others u' → (r : Runs u cs v) (s : Runs u' ds v')
    → (given_for who cs u v r ≡ given_for who ds u' v' s) × (left_to who v ≡ left_to who v')
acts_apart who steps others alike cs ds same w w' u u' v v' b d r s =
    let words = (same_lanes b d who alike).1 in
    let is =
    ran_once act_by board_after own_after (acts_of who cs) words.0 words.1 (ran who cs u v r)
    (subst (λ (l : List Act). Ran u'.board (mission_of who u') l v'.board (mission_of who v') (given_for who ds u' v' s)) (sym same)
    (ran who ds u' v' s)) in
    (is.0, rw (is.1.1, is.1.0))
