-- The board, the list and the state that a settings call leaves: page 01, "Settings" ("A setting that no rule here refuses is taken and holds until it is
-- changed"). Assumes nothing.
use Rattle.std.specs.Prelude.{ℕ, List, set, eqb}
use Rattle.checks.specs.Order.{pick, first_of}
use Rattle.address.specs.declared.Address.{Address}
use Rattle.address.specs.declared.Mask.{Mask}
use Rattle.address.specs.declared.PathAddress.{PathAddress}
use Rattle.routes.specs.declared.Record.{Record}
use Rattle.routes.specs.Records.{empty_record}
use Rattle.records.specs.declared.OwnedPort.{OwnedPort}
use Rattle.records.specs.declared.Group.{Group}
use Rattle.records.specs.declared.PathPlace.{PathPlace}
use Rattle.records.specs.Fresh.{fresh_group, fresh_path}
use Rattle.sets.specs.Limits.{group_places, path_places}
use Rattle.state.specs.Relay.{Mission, Relay, put_group, put_path, with_group, with_path}
use Rattle.state.specs.Seen.{Board, State, put_router, put_drop, put_owned, fresh_state}
use Rattle.refusals.specs.Lists.{port_checks, route_checks, clear_route_checks, group_checks, path_checks, flag_checks, mission_checks, clear_checks}

-- a refused setting changes nothing
abbrev pub settled : {A : Type 0} → ℕ → A → A → A
settled refusal new old = pick (eqb refusal 0) new old

-- ---- the records that are written: set up, filled
abbrev pub new_port : Address → Mask → ℕ → ℕ → OwnedPort
new_port address mask mtu mission = record { port = record { ready = 1; address = address; mask = mask; mtu = mtu }; mission = mission }

abbrev pub new_record : ℕ → ℕ → ℕ → ℕ → ℕ → ℕ → Record
new_record prefix mask port availability capabilities mission =
    record {
      filled = 1;
      prefix = prefix;
      mask = mask;
      port = port;
      availability = availability;
      capabilities = capabilities;
      mission = mission;
    }

abbrev pub new_group : Address → ℕ → ℕ → Group
new_group address send subscribed = record { filled = 1; address = address; send = send; subscribed = subscribed }

abbrev pub new_path : PathAddress → ℕ → ℕ → PathPlace
new_path path send here = record { filled = 1; path = path; send = send; here = here }

-- ---- what each call of the operator leaves
abbrev pub settled_router : Board → ℕ → Board
settled_router b router = settled (first_of (flag_checks router)) (put_router b router) b

abbrev pub settled_drop : Board → ℕ → Board
settled_drop b drop = settled (first_of (flag_checks drop)) (put_drop b drop) b

abbrev pub settled_port : Board → ℕ → Address → Mask → ℕ → ℕ → Board
settled_port b p address mask mtu mission =
    settled (first_of (port_checks b p address mask mtu mission)) (put_owned b p (new_port address mask mtu mission)) b

-- the list
abbrev pub settled_route : Board → List Record → ℕ → Record → List Record
settled_route b rs i x = settled (first_of (route_checks b rs i x)) (set rs i x) rs

-- "Route, group and path places may be emptied, empty ones too"
abbrev pub cleared_route : List Record → ℕ → List Record
cleared_route rs i = settled (first_of (clear_route_checks rs i)) (set rs i empty_record) rs

-- ---- what each call of a mission leaves
abbrev pub settled_group : Relay → ℕ → Address → ℕ → ℕ → Relay
settled_group r i address send subscribed =
    settled (first_of (group_checks r i address send subscribed)) (with_group r i (new_group address send subscribed)) r

abbrev pub settled_path : Relay → ℕ → PathAddress → ℕ → ℕ → Relay
settled_path r i path send here = settled (first_of (path_checks r i path send here)) (with_path r i (new_path path send here)) r

-- an emptied place is a mission's own matter: no board is looked at
abbrev pub cleared_group : Mission → ℕ → Mission
cleared_group m i = settled (first_of (clear_checks i group_places)) (put_group m i fresh_group) m

abbrev pub cleared_path : Mission → ℕ → Mission
cleared_path m i = settled (first_of (clear_checks i path_places)) (put_path m i fresh_path) m

-- its number is "given when it is made fresh" (docs/DECISIONS.md)
abbrev pub settled_fresh : State → ℕ → State
settled_fresh s n = settled (first_of (mission_checks n)) (fresh_state n) s
