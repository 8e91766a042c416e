-- There is a trace for any steps that C can make: whatever words are lent first, 43 for a board and 732 for each mission, they are made fresh, and each
-- step after that has a result that its contract allows. Assumes nothing.
use Prim.Native.Nat.{ℕ}
use mathlib.Core.Path.{◌≡◌, refl, ◌∙◌}
use mathlib.Core.List.{List, [], ◌∷◌}
use lib.ListN.{length}
use Rattle.state.specs.Layout.{board_words, mission_words}
use Rattle.contracts.specs.Promised.{Result, Passable, hj_fresh_board, hj_fresh_mission}
use Rattle.contracts.proofs.Answers.{each_call_answers}
use Rattle.history.specs.Calls.{
  set_router,
  set_port,
  set_lifetime,
  set_drop,
  set_route,
  clear_route,
  router_flag,
  lifetime_word,
  drop_flag,
  port_word,
  record_word,
  OperatorCall,
  orders,
  views,
  set_group,
  set_path,
  clear_group,
  clear_path,
  group_word,
  path_word,
  pair_word,
  last_second,
  search,
  counter,
  waiting,
  read,
  build,
  class,
  form,
  checksum,
  read_echo,
  build_request,
  build_reply,
  board_size,
  mission_size,
  MissionCall,
  sets,
  hears,
  echoes,
  takes,
  sweeps,
  looks,
}
use Rattle.demands.specs.Trace.{first, second, Step, operates, flies, Words, mission_of, operator_by, mission_by, made, words_after, Trace, Begun, Gives}
use Rattle.demands.specs.Trace.{MissionPasses, Passes, AllPass}
use Rattle.demands.proofs.Fresh.{fresh_board_answers, fresh_mission_answers, number_taken}

-- only a datagram and an echo request are passed a slot
operator_passable : (b : List ℕ) (c : OperatorCall) → Passable (operator_by b c)
operator_passable b (orders (set_router x)) = tt
operator_passable b (orders (set_port q address mask mtu mission)) = tt
operator_passable b (orders (set_lifetime x)) = tt
operator_passable b (orders (set_drop x)) = tt
operator_passable b (orders (set_route ls i prefix mask q availability capabilities mission)) = tt
operator_passable b (orders (clear_route ls i)) = tt
operator_passable b (views router_flag) = tt
operator_passable b (views lifetime_word) = tt
operator_passable b (views drop_flag) = tt
operator_passable b (views (port_word q word)) = tt
operator_passable b (views (record_word ls i word)) = tt

mission_passable : (b n : List ℕ) (c : MissionCall) → MissionPasses c → Passable (mission_by b n c)
mission_passable b n (sets (set_group i address send subscribed)) fits = tt
mission_passable b n (sets (set_path i to send here)) fits = tt
mission_passable b n (sets (clear_group i)) fits = tt
mission_passable b n (sets (clear_path i)) fits = tt
mission_passable b n (hears ls q s when octets output) fits = fits.0
mission_passable b n (echoes ls q s octets output) fits = fits.0
mission_passable b n (takes q) fits = tt
mission_passable b n (sweeps when) fits = tt
mission_passable b n (looks (group_word i word)) fits = tt
mission_passable b n (looks (path_word i word)) fits = tt
mission_passable b n (looks (pair_word i word)) fits = tt
mission_passable b n (looks last_second) fits = tt
mission_passable b n (looks (search ls a)) fits = tt
mission_passable b n (looks (counter i)) fits = tt
mission_passable b n (looks (waiting q)) fits = tt
mission_passable b n (looks (read octets)) fits = tt
mission_passable b n (looks (build fields size output)) fits = tt
mission_passable b n (looks (class a)) fits = tt
mission_passable b n (looks (form a)) fits = tt
mission_passable b n (looks (checksum octets)) fits = tt
mission_passable b n (looks (read_echo octets)) fits = tt
mission_passable b n (looks (build_request i k echoed output)) fits = tt
mission_passable b n (looks (build_reply i k seen echoed output)) fits = tt
mission_passable b n (looks board_size) fits = tt
mission_passable b n (looks mission_size) fits = tt

pub passable : (w : Words) (c : Step) → Passes c → Passable (made w c)
passable w (operates c) fits = operator_passable w.board c
passable w (flies who c) fits = mission_passable w.board (mission_of who w) c fits

-- from any words
trace_lasts : (cs : List Step) → AllPass cs → (w : Words) → (v : Words) × Trace w cs v
trace_lasts [] fit w = (w, refl)
trace_lasts (c ∷ cs) fit w =
    let a = each_call_answers (made w c) (passable w c fit.0) in
    let rest = trace_lasts cs fit.1 (words_after w c a.0) in
    (rest.0, (a.0, (a.1, rest.1)))

module _ (w : Words) (board : length w.board ≡ board_words) (zero : length w.zero ≡ mission_words) (one : length w.one ≡ mission_words) where
  -- Any such words can be lent first, and any steps follow.
  pub begun_lasts : (cs : List Step) → AllPass cs → (v : Words) × Begun w cs v
  begun_lasts cs fit =
      let a = each_call_answers (hj_fresh_board w.board) tt in
      let b = each_call_answers (hj_fresh_mission w.zero 0) tt in
      let c = each_call_answers (hj_fresh_mission w.one 1) tt in
      let rest = trace_lasts cs fit (record { board = a.0.left.board; zero = b.0.left.mission; one = c.0.left.mission }) in (
        rest.0,
        record {
          board = a.0;
          zero = b.0;
          one = c.0;
          fresh_board_lem = (a.1, fresh_board_answers w.board a.0 a.1 board);
          fresh_zero = (b.1, fresh_mission_answers w.zero 0 b.0 b.1 zero ∙ number_taken first);
          fresh_one = (c.1, fresh_mission_answers w.one 1 c.0 c.1 one ∙ number_taken second);
          then = rest.1;
          passed = fit;
        },
      )

  -- So after any steps each step has a result.
  pub gives_lasts : (cs : List Step) → AllPass cs → (c : Step) → Passes c → (x : Result) × ((g : Gives cs c x) × (g.lent ≡ w))
  gives_lasts cs fit c fits =
      let b = begun_lasts cs fit in
      let a = each_call_answers (made b.0 c) (passable b.0 c fits) in
      (a.0, (record { lent = w; before = b.0; begun = b.1; says = a.1; passes = fits }, refl))
