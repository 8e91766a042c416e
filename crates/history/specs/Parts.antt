-- The settings one by one, and which of them a call is about: page 01, "Settings" ("A setting that no rule here refuses is taken and holds until it is
-- changed"); page 02, W-207 (the lifetime) and W-203 (echo drop). A list of routes is no part of a board or a mission, and what is remembered is no setting.
-- Assumes nothing.
use Rattle.std.specs.Prelude.{ℕ, ◌≡◌}
use Rattle.records.specs.declared.OwnedPort.{OwnedPort}
use Rattle.records.specs.declared.Group.{Group}
use Rattle.records.specs.declared.PathPlace.{PathPlace}
use Rattle.state.specs.Relay.{group_at, path_at}
use Rattle.state.specs.Seen.{owned_at}
use Rattle.history.specs.Seat.{Seat}
use Rattle.history.specs.Calls.{
  Order,
  set_router,
  set_port,
  set_lifetime,
  set_drop,
  set_route,
  clear_route,
  OperatorCall,
  orders,
  views,
  Setting,
  set_group,
  set_path,
  clear_group,
  clear_path,
  MissionCall,
  sets,
  hears,
  echoes,
  takes,
  sweeps,
  looks,
  Call,
  operator,
  own,
}

pub data Part : Type 0 where
  the_router : Part
  the_port : ℕ → Part
  the_lifetime : Part
  the_drop : Part
  the_group : ℕ → Part
  the_path : ℕ → Part

-- an order is about the part that it writes; one that writes in a list is about none
abbrev pub Orders : Order → Part → Type 0
Orders (set_router x) part = the_router ≡ part
Orders (set_port p address mask mtu mission) part = the_port p ≡ part
Orders (set_lifetime x) part = the_lifetime ≡ part
Orders (set_drop x) part = the_drop ≡ part
Orders (set_route rs i prefix mask port availability capabilities mission) part = ⊥
Orders (clear_route rs i) part = ⊥

abbrev pub part_of : Setting → Part
part_of (set_group i address send subscribed) = the_group i
part_of (set_path i path send here) = the_path i
part_of (clear_group i) = the_group i
part_of (clear_path i) = the_path i

-- no other call is about any
abbrev pub ByOperator : OperatorCall → Part → Type 0
ByOperator (orders o) part = Orders o part
ByOperator (views v) part = ⊥

abbrev pub ByMission : MissionCall → Part → Type 0
ByMission (sets s) part = part_of s ≡ part
ByMission (hears rs port slot second octets output) part = ⊥
ByMission (echoes rs port slot octets output) part = ⊥
ByMission (takes port) part = ⊥
ByMission (sweeps second) part = ⊥
ByMission (looks l) part = ⊥

abbrev pub About : Call → Part → Type 0
About (operator c) part = ByOperator c part
About (own c) part = ByMission c part

-- what stands there
pub data Standing : Type 0 where
  router : ℕ → Standing
  port : OwnedPort → Standing
  lifetime : ℕ → Standing
  drop : ℕ → Standing
  group : Group → Standing
  path : PathPlace → Standing

abbrev pub setting_in : Seat → Part → Standing
setting_in x the_router = router x.board.router
setting_in x (the_port p) = port (owned_at x.board p)
setting_in x the_lifetime = lifetime x.board.lifetime
setting_in x the_drop = drop x.board.drop
setting_in x (the_group i) = group (group_at x.mission i)
setting_in x (the_path i) = path (path_at x.mission i)
