-- Demand 2, of settings over a history: each holds until a call that is about it changes it. The theorem is `holds_until_changed`, at the end. Assumes
-- nothing.
use Prim.Native.Nat.{ℕ}
use mathlib.Core.Path.{◌≡◌, refl, sym, ap, ◌∙◌}
use mathlib.Core.List.{List, [], ◌∷◌}
use lib.ListN.{length, get_or}
use lib.Seq.{get_or-set_other}
use Rattle.queue.specs.Order.{Each}
use Rattle.records.specs.declared.OwnedPort.{OwnedPort}
use Rattle.records.specs.declared.Group.{Group}
use Rattle.records.specs.declared.PathPlace.{PathPlace}
use Rattle.records.specs.Fresh.{fresh_owned, fresh_group, fresh_path}
use Rattle.state.specs.Relay.{Mission, Memory, Relay, put_group, put_path}
use Rattle.state.specs.Seen.{Board, put_router, put_owned, put_lifetime, put_drop}
use Rattle.adjust.specs.Settled.{new_port, new_group, new_path}
use Rattle.answering.specs.Echoed.{as_ending}
use Rattle.history.specs.Seat.{Seat, relay_in, heard_by, replied_by}
use Rattle.history.specs.Calls.{
  Order,
  set_router,
  set_port,
  set_lifetime,
  set_drop,
  set_route,
  clear_route,
  orders,
  views,
  Setting,
  set_group,
  set_path,
  clear_group,
  clear_path,
  MissionCall,
  sets,
  hears,
  echoes,
  takes,
  sweeps,
  looks,
  Call,
  operator,
  own,
  board_written,
  written,
}
use Rattle.history.specs.Outcome.{next_mission, next_memory, next, run_from}
use Rattle.history.specs.Parts.{
  Part,
  the_router,
  the_port,
  the_lifetime,
  the_drop,
  the_group,
  the_path,
  Orders,
  part_of,
  ByMission,
  About,
  Standing,
  port,
  group,
  path,
  setting_in,
}
use Rattle.relay.specs.Received.{received_relay}
use Rattle.taking.specs.Taking.{taken_relay}
use Rattle.history.proofs.Settled.{order_keeps, settle_keeps}
use Rattle.history.proofs.Reach.{settings_of, received_settings, taken_settings}

-- ---- what is written leaves all other settings
module _ (seat : Seat) where
  -- with another board, and with another mission
  abbrev on_board : Board → Part → Standing
  on_board b = setting_in (record { board = b; number = seat.number; mission = seat.mission; memory = seat.memory })

  abbrev on_own : Mission → Part → Standing
  on_own m = setting_in (record { board = seat.board; number = seat.number; mission = m; memory = seat.memory })

  router_left : (x : ℕ) (part : Part) → (the_router ≡ part → ⊥) → on_board (put_router seat.board x) part ≡ setting_in seat part
  router_left x the_router other = absurd (other refl)
  router_left x (the_port j) other = refl
  router_left x the_lifetime other = refl
  router_left x the_drop other = refl
  router_left x (the_group j) other = refl
  router_left x (the_path j) other = refl

  port_left : (i : ℕ) (x : OwnedPort) (part : Part) → (the_port i ≡ part → ⊥) → on_board (put_owned seat.board i x) part ≡ setting_in seat part
  port_left i x the_router other = refl
  port_left i x (the_port j) other = ap port (get_or-set_other seat.board.ports i j x fresh_owned (λ e. other (ap the_port (sym e))))
  port_left i x the_lifetime other = refl
  port_left i x the_drop other = refl
  port_left i x (the_group j) other = refl
  port_left i x (the_path j) other = refl

  lifetime_left : (x : ℕ) (part : Part) → (the_lifetime ≡ part → ⊥) → on_board (put_lifetime seat.board x) part ≡ setting_in seat part
  lifetime_left x the_router other = refl
  lifetime_left x (the_port j) other = refl
  lifetime_left x the_lifetime other = absurd (other refl)
  lifetime_left x the_drop other = refl
  lifetime_left x (the_group j) other = refl
  lifetime_left x (the_path j) other = refl

  drop_left : (x : ℕ) (part : Part) → (the_drop ≡ part → ⊥) → on_board (put_drop seat.board x) part ≡ setting_in seat part
  drop_left x the_router other = refl
  drop_left x (the_port j) other = refl
  drop_left x the_lifetime other = refl
  drop_left x the_drop other = absurd (other refl)
  drop_left x (the_group j) other = refl
  drop_left x (the_path j) other = refl

  group_left : (i : ℕ) (x : Group) (part : Part) → (the_group i ≡ part → ⊥) → on_own (put_group seat.mission i x) part ≡ setting_in seat part
  group_left i x the_router other = refl
  group_left i x (the_port j) other = refl
  group_left i x the_lifetime other = refl
  group_left i x the_drop other = refl
  group_left i x (the_group j) other = ap group (get_or-set_other seat.mission.groups i j x fresh_group (λ e. other (ap the_group (sym e))))
  group_left i x (the_path j) other = refl

  path_left : (i : ℕ) (x : PathPlace) (part : Part) → (the_path i ≡ part → ⊥) → on_own (put_path seat.mission i x) part ≡ setting_in seat part
  path_left i x the_router other = refl
  path_left i x (the_port j) other = refl
  path_left i x the_lifetime other = refl
  path_left i x the_drop other = refl
  path_left i x (the_group j) other = refl
  path_left i x (the_path j) other = ap path (get_or-set_other seat.mission.paths i j x fresh_path (λ e. other (ap the_path (sym e))))

  -- a datagram and a take leave all
  settings_left : (m : Mission) → settings_of m ≡ settings_of seat.mission → (part : Part) → on_own m part ≡ setting_in seat part
  settings_left m e the_router = refl
  settings_left m e (the_port j) = refl
  settings_left m e the_lifetime = refl
  settings_left m e the_drop = refl
  settings_left m e (the_group j) = ap (λ x. group (get_or x.0 j fresh_group)) e
  settings_left m e (the_path j) = ap (λ x. path (get_or x.1 j fresh_path)) e

  -- what is remembered is no setting
  memory_apart : (m : Mission) (k : Memory) (part : Part)
      → setting_in (record { board = seat.board; number = seat.number; mission = m; memory = k }) part ≡ on_own m part
  memory_apart m k the_router = refl
  memory_apart m k (the_port j) = refl
  memory_apart m k the_lifetime = refl
  memory_apart m k the_drop = refl
  memory_apart m k (the_group j) = refl
  memory_apart m k (the_path j) = refl

  -- ---- each call
  order_left : (o : Order) (part : Part) → (Orders o part → ⊥) → on_board (board_written seat.board o) part ≡ setting_in seat part
  order_left (set_router x) part other = router_left x part other
  order_left (set_port i address mask mtu mission) part other = port_left i (new_port address mask mtu mission) part other
  order_left (set_lifetime x) part other = lifetime_left x part other
  order_left (set_drop x) part other = drop_left x part other
  order_left (set_route rs i prefix mask at availability capabilities mission) part other = refl
  order_left (clear_route rs i) part other = refl

  written_left : (s : Setting) (part : Part) → (part_of s ≡ part → ⊥) → on_own (written (relay_in seat) s).mission part ≡ setting_in seat part
  written_left (set_group i address send subscribed) part other = group_left i (new_group address send subscribed) part other
  written_left (set_path i to send here) part other = path_left i (new_path to send here) part other
  written_left (clear_group i) part other = group_left i fresh_group part other
  written_left (clear_path i) part other = path_left i fresh_path part other

  own_holds : (c : MissionCall) (part : Part) → (ByMission c part → ⊥) → on_own (next_mission seat c) part ≡ setting_in seat part
  own_holds (sets s) part other =
      settle_keeps (λ (x : Relay). on_own x.mission part ≡ setting_in seat part) (relay_in seat) s refl (λ z. written_left s part other)
  own_holds (hears rs at slot second octets output) part other =
      let e = heard_by seat rs at second octets (length output) in
      settings_left (received_relay (relay_in seat) slot e).mission (received_settings (relay_in seat) slot e) part
  own_holds (echoes rs at slot octets output) part other =
      let e = as_ending (replied_by seat rs at octets (length output)) in
      settings_left (received_relay (relay_in seat) slot e).mission (received_settings (relay_in seat) slot e) part
  own_holds (takes at) part other = settings_left (taken_relay (relay_in seat) at).mission (taken_settings (relay_in seat) at) part
  own_holds (sweeps second) part other = refl
  own_holds (looks l) part other = refl

  pub one_holds : (c : Call) (part : Part) → (About c part → ⊥) → setting_in (next seat c) part ≡ setting_in seat part
  one_holds (operator (orders o)) part other =
      order_keeps (λ (b : Board). on_board b part ≡ setting_in seat part) seat.board o refl (λ z. order_left o part other)
  one_holds (operator (views v)) part other = refl
  one_holds (own c) part other = memory_apart (next_mission seat c) (next_memory seat c) part ∙ own_holds c part other

-- A setting stands as it was after any calls of which none is about it.
pub holds_until_changed : (part : Part) (cs : List Call) (seat : Seat) → Each (λ (c : Call). About c part → ⊥) cs
    → setting_in (run_from seat cs) part ≡ setting_in seat part
holds_until_changed part [] seat others = refl
holds_until_changed part (c ∷ cs) seat others = holds_until_changed part cs (next seat c) others.1 ∙ one_holds seat c part others.0
