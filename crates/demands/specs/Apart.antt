-- Page 02, W-208: "For any two histories in which the operator's calls and mission A's calls are the same, lent lists included, and stand in the same
-- order among themselves, all of A's answers, outputs, counters and waiting entries are equal, whatever mission B does." Said of what C calls: the two
-- histories are the steps cs and ds, whatever the other customer's steps are in each; `who` is either customer. The pairs and the last second of W-207 are
-- words of the mission, and what is said of its words is said of them. Proved in proofs/Apart.antt. Assumes nothing.
use Rattle.std.specs.Prelude.{ℕ, ◌≡◌, ◌≢◌, List, [], ◌∷◌}
use Rattle.checks.specs.Order.{pick}
use Rattle.contracts.specs.Promised.{Result, lent_to}
use Rattle.contracts.specs.Stated.{Says}
use Rattle.history.specs.Calls.{OperatorCall, Call, MissionCall}
use Rattle.demands.specs.Trace.{Customer, Step, operates, flies, step_of, Words, mission_of, is_of, made, words_after, Trace, Begun, history_of, orders_of, Gives}

-- all that is given back to A and to the operator, one call after the other
abbrev pub given_to : (who : Customer) (cs : List Step) (w v : Words) → Trace w cs v → List Result
given_to who [] w v t = []
given_to who (operates c ∷ cs) w v t = t.0 ∷ given_to who cs (words_after w (operates c) t.0) v t.1.1
given_to who (flies x c ∷ cs) w v t =
    let rest = given_to who cs (words_after w (flies x c) t.0) v t.1.1 in
    pick (is_of who x) (t.0 ∷ rest) rest

-- the words that are left to A: the board's, and its own, in which stand its counters, its waiting entries, its groups and paths, its pairs and last second
abbrev pub left_to : Customer → Words → List (List ℕ)
left_to who w = w.board ∷ mission_of who w ∷ []

pub record Apart : Type 0 where
  -- whatever words were lent at first, in two histories that are the same but for the other customer's steps the results of all calls are the same, one
  -- after the other: the answer, the output, the list, and every word; and the words left to A in the end
  pub same_results : (who : Customer) (cs ds : List Step) → history_of who cs ≡ history_of who ds → (w w' v v' : Words)
      (b : Begun w cs v) (d : Begun w' ds v')
      → (given_to who cs _ v b.then ≡ given_to who ds _ v' d.then) × (left_to who v ≡ left_to who v')
  -- so whatever call of A's or of the operator's comes next, it is given back the same after both
  pub same_next : (who : Customer) (cs ds : List Step) → history_of who cs ≡ history_of who ds → (c : Call) (x y : Result)
      → Gives cs (step_of who c) x → Gives ds (step_of who c) y → x ≡ y
  -- the operator is given back the same wherever the operator's calls are the same, whatever either customer does
  pub operator_same : (cs ds : List Step) → orders_of cs ≡ orders_of ds → (c : OperatorCall) (x y : Result)
      → Gives cs (operates c) x → Gives ds (operates c) y → x ≡ y
  -- a customer's call leaves the board and the list that it is lent as they were
  pub board_and_list_stay : (who : Customer) (w : Words) (c : MissionCall) (x : Result) → Says (made w (flies who c)) x
      → (x.left.board ≡ (lent_to (made w (flies who c))).board) × (x.left.routes ≡ (lent_to (made w (flies who c))).routes)
  -- and a step of the other customer leaves the board and A's words as they are: it is lent the board to read and A's words not at all, so that this
  -- holds whatever it gives back
  pub words_apart : (who other : Customer) → who ≢ other → (w : Words) (c : MissionCall) (x : Result)
      → left_to who (words_after w (flies other c) x) ≡ left_to who w
