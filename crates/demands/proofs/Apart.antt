-- What a customer is told and left does not depend on the other customer. The two histories share a lane (proofs/Lane.antt), and no call in it has a
-- choice. Assumes nothing.
use Prim.Native.Nat.{ℕ}
use mathlib.Core.Path.{◌≡◌, refl, sym, subst, ◌∙◌}
use mathlib.Core.Logic.{◌≢◌}
use mathlib.Core.List.{List, [], map}
use Rattle.lent_state.proofs.Same.{board_injective, lent_injective}
use Rattle.lent_state.specs.View.{lent_board}
use Rattle.contracts.specs.Promised.{Result, lent_to, promised}
use Rattle.contracts.specs.Stated.{Says}
use Rattle.contracts.proofs.Rows.{says_row, one_result_by_contract}
use Rattle.history.specs.Calls.{
  OperatorCall,
  set_group,
  set_path,
  clear_group,
  clear_path,
  group_word,
  path_word,
  pair_word,
  last_second,
  search,
  counter,
  waiting,
  read,
  build,
  class,
  form,
  checksum,
  read_echo,
  build_request,
  build_reply,
  board_size,
  mission_size,
  MissionCall,
  sets,
  hears,
  echoes,
  takes,
  sweeps,
  looks,
  Call,
  operator,
  own,
}
use Rattle.demands.specs.Trace.{Customer, first, second, Step, flies, step_of, Words, mission_of, words_after, Begun, history_of, orders_of, Gives}
use Rattle.demands.specs.Apart.{given_to, left_to, Apart}
use Rattle.demands.proofs.Fresh.{fresh_board_holds, fresh_mission_holds}
use Rattle.demands.proofs.Lane.{made_by, board_by, own_by, Lane, Ran, ran, operator_lane, ran_once}

-- ---- the words with which the steps begin
abbrev begin : {w v : Words} {cs : List Step} → Begun w cs v → Words
begin b = record { board = b.board.left.board; zero = b.zero.left.mission; one = b.one.left.mission }

module _ {w w' v v' : Words} {cs ds : List Step} (b : Begun w cs v) (d : Begun w' ds v') where
  same_board : (begin b).board ≡ (begin d).board
  same_board =
      board_injective _ _
      (fresh_board_holds w.board b.board b.fresh_board_lem.0 b.fresh_board_lem.1
      ∙ sym (fresh_board_holds w'.board d.board d.fresh_board_lem.0 d.fresh_board_lem.1))

  same_mission : (who : Customer) → mission_of who (begin b) ≡ mission_of who (begin d)
  same_mission first =
      lent_injective _ _
      (fresh_mission_holds w.zero 0 b.zero b.fresh_zero.0 b.fresh_zero.1
      ∙ sym (fresh_mission_holds w'.zero 0 d.zero d.fresh_zero.0 d.fresh_zero.1))
  same_mission second =
      lent_injective _ _
      (fresh_mission_holds w.one 1 b.one b.fresh_one.0 b.fresh_one.1
      ∙ sym (fresh_mission_holds w'.one 1 d.one d.fresh_one.0 d.fresh_one.1))

  -- two lanes with one history
  pub same_lanes : (who : Customer) → history_of who cs ≡ history_of who ds
      → (given_to who cs (begin b) v b.then ≡ given_to who ds (begin d) v' d.then)
      × ((v.board ≡ v'.board) × (mission_of who v ≡ mission_of who v'))
  same_lanes who same =
      let one = ran who cs (begin b) v b.then in
      let two = ran who ds (begin d) v' d.then in
      ran_once made_by board_by own_by (history_of who cs) same_board (same_mission who) one
      (subst (λ (h : List Call). Ran (begin d).board (mission_of who (begin d)) h v'.board (mission_of who v') (given_to who ds (begin d) v' d.then))
      (sym same) two)

  -- and two with the same orders
  pub same_boards : orders_of cs ≡ orders_of ds → v.board ≡ v'.board
  same_boards same =
      let one = operator_lane cs (begin b) v b.then in
      let two = operator_lane ds (begin d) v' d.then in
      (ran_once made_by board_by own_by (map operator (orders_of cs)) same_board refl (one, refl)
      (subst (λ (h : List OperatorCall). Lane (begin d).board [] (map operator h) v'.board []) (sym same) two, refl)).1.0

-- ---- the next call
module _ (who : Customer) (cs ds : List Step) (same : history_of who cs ≡ history_of who ds) where
  same_next : (c : Call) (x y : Result) → Gives cs (step_of who c) x → Gives ds (step_of who c) y → x ≡ y
  same_next (operator c) x y g k =
      let words = (same_lanes g.begun k.begun who same).1 in
      one_result_by_contract (made_by g.before.board [] (operator c)) x y g.says (rw words.0 k.says)
  same_next (own c) x y g k =
      let words = (same_lanes g.begun k.begun who same).1 in
      one_result_by_contract (made_by g.before.board (mission_of who g.before) (own c)) x y g.says (rw (words.1, words.0) k.says)

-- ---- what a mission's call leaves of what it is lent to read
left_as_lent : (b m : List ℕ) (c : MissionCall)
    → ((promised (made_by b m (own c))).board ≡ lent_board (lent_to (made_by b m (own c))).board)
    × ((promised (made_by b m (own c))).routes ≡ (lent_to (made_by b m (own c))).routes)
left_as_lent b m (sets (set_group i address send subscribed)) = (refl, refl)
left_as_lent b m (sets (set_path i path send here)) = (refl, refl)
left_as_lent b m (sets (clear_group i)) = (refl, refl)
left_as_lent b m (sets (clear_path i)) = (refl, refl)
left_as_lent b m (hears rs p slot when octets output) = (refl, refl)
left_as_lent b m (echoes rs p slot octets output) = (refl, refl)
left_as_lent b m (takes p) = (refl, refl)
left_as_lent b m (sweeps when) = (refl, refl)
left_as_lent b m (looks (group_word i word)) = (refl, refl)
left_as_lent b m (looks (path_word i word)) = (refl, refl)
left_as_lent b m (looks (pair_word i word)) = (refl, refl)
left_as_lent b m (looks last_second) = (refl, refl)
left_as_lent b m (looks (search rs a)) = (refl, refl)
left_as_lent b m (looks (counter i)) = (refl, refl)
left_as_lent b m (looks (waiting p)) = (refl, refl)
left_as_lent b m (looks (read octets)) = (refl, refl)
left_as_lent b m (looks (build fields size output)) = (refl, refl)
left_as_lent b m (looks (class a)) = (refl, refl)
left_as_lent b m (looks (form p)) = (refl, refl)
left_as_lent b m (looks (checksum octets)) = (refl, refl)
left_as_lent b m (looks (read_echo octets)) = (refl, refl)
left_as_lent b m (looks (build_request i n echoed output)) = (refl, refl)
left_as_lent b m (looks (build_reply i n seen echoed output)) = (refl, refl)
left_as_lent b m (looks board_size) = (refl, refl)
left_as_lent b m (looks mission_size) = (refl, refl)

stay : (b m : List ℕ) (c : MissionCall) (x : Result) → Says (made_by b m (own c)) x
    → (x.left.board ≡ (lent_to (made_by b m (own c))).board) × (x.left.routes ≡ (lent_to (made_by b m (own c))).routes)
stay b m c x says =
    let row = says_row (made_by b m (own c)) x says in
    let kept = left_as_lent b m c in (board_injective _ _ (row.board ∙ kept.0), row.routes ∙ kept.1)

-- ---- the other customer's step
words_apart : (who other : Customer) → who ≢ other → (w : Words) (c : MissionCall) (x : Result)
    → left_to who (words_after w (flies other c) x) ≡ left_to who w
words_apart first first differ w c x = absurd (differ refl)
words_apart first second differ w c x = refl
words_apart second first differ w c x = refl
words_apart second second differ w c x = absurd (differ refl)

pub apart : Apart
apart =
    record {
      same_results = λ who cs ds same w w' v v' b d.
          let is = same_lanes b d who same in
          (is.0, rw (is.1.1, is.1.0));
      same_next = same_next;
      board_and_list_stay = λ who w c x says. stay w.board (mission_of who w) c x says;
      operator_same = λ cs ds same c x y g k.
          let board = same_boards g.begun k.begun same in
          one_result_by_contract (made_by g.before.board [] (operator c)) x y g.says (rw board k.says);
      words_apart = words_apart;
    }
