-- The calls of one mission's history: the operator's, and the mission's own (page 01, "Settings": "a history is made of such calls"; page 02, W-208). The
-- other mission's are none of them: it is lent words that no call here is lent. A list of routes is lent with a call, and is a part of it, and so is the
-- second that a datagram or a sweep brings (W-207). Assumes nothing.
use Rattle.std.specs.Prelude.{ℕ, List, [], set}
use Rattle.checks.specs.Order.{Checks, first_of}
use Rattle.address.specs.declared.Address.{Address}
use Rattle.address.specs.declared.Mask.{Mask}
use Rattle.address.specs.declared.PathAddress.{PathAddress}
use Rattle.address.specs.declared.Slot.{Slot}
use Rattle.numbers.specs.declared.Numbers.{Numbers}
use Rattle.echo.specs.declared.Seen.{Seen}
use Rattle.sets.specs.Limits.{group_places, path_places}
use Rattle.records.specs.Fresh.{fresh_group, fresh_path}
use Rattle.routes.specs.Records.{empty_record}
use Rattle.routes.specs.declared.Record.{Record}
use Rattle.state.specs.Relay.{Relay, with_group, with_path}
use Rattle.state.specs.Seen.{Board, put_router, put_owned, put_lifetime, put_drop}
use Rattle.refusals.specs.Lists.{port_checks, route_checks, clear_route_checks, group_checks, path_checks, flag_checks, clear_checks}
use Rattle.adjust.specs.Settled.{new_port, new_record, new_group, new_path, settled}

-- ---- the operator's: "Only the operator writes ports, routes, lifetime, echo drop and router settings"
pub data Order : Type 0 where
  set_router : ℕ → Order
  -- the port, its address, mask and MTU, and the mission that it is given to
  set_port : ℕ → Address → Mask → ℕ → ℕ → Order
  -- how old a pair may grow before a sweep frees it
  set_lifetime : ℕ → Order
  -- whether all echo requests are dropped (W-203)
  set_drop : ℕ → Order
  -- the list as it is lent, the place, and the record: prefix, mask, port, availability, capabilities, mission
  set_route : List Record → ℕ → ℕ → ℕ → ℕ → ℕ → ℕ → ℕ → Order
  clear_route : List Record → ℕ → Order

-- what the operator asks to see, as it stands: a word of a port, and of a record of a list
pub data View : Type 0 where
  router_flag : View
  lifetime_word : View
  drop_flag : View
  port_word : ℕ → ℕ → View
  record_word : List Record → ℕ → ℕ → View

pub data OperatorCall : Type 0 where
  orders : Order → OperatorCall
  views : View → OperatorCall

-- ---- a mission's own
pub data Setting : Type 0 where
  set_group : ℕ → Address → ℕ → ℕ → Setting
  set_path : ℕ → PathAddress → ℕ → ℕ → Setting
  clear_group : ℕ → Setting
  clear_path : ℕ → Setting

-- what is asked of a mission, and of nothing lent
pub data Look : Type 0 where
  -- a word of a group or a path, as it stands
  group_word : ℕ → ℕ → Look
  path_word : ℕ → ℕ → Look
  -- a word of a pair's place, and the last second
  pair_word : ℕ → ℕ → Look
  last_second : Look
  -- the route of this list that an address takes
  search : List Record → Address → Look
  -- a counter, and how many wait on a port
  counter : ℕ → Look
  waiting : ℕ → Look
  -- a header read; one built, with so many octets of data, into the output as it is lent
  read : List ℕ → Look
  build : Numbers → ℕ → List ℕ → Look
  -- an echo message read; a request built of its identifier, sequence number and data, and a reply of what it says besides, into the output as it is lent
  read_echo : List ℕ → Look
  build_request : ℕ → ℕ → List ℕ → List ℕ → Look
  build_reply : ℕ → ℕ → Seen → List ℕ → List ℕ → Look
  -- the class of an address, the form of a path, a checksum, and how many words a board and a mission have
  class : Address → Look
  form : PathAddress → Look
  checksum : List ℕ → Look
  board_size : Look
  mission_size : Look

pub data MissionCall : Type 0 where
  sets : Setting → MissionCall
  -- the list of routes, the port, the slot, the second, the octets, and the output as it is lent
  hears : List Record → ℕ → Slot → ℕ → List ℕ → List ℕ → MissionCall
  -- the same but for the second: an echo request that came in by the port is answered (W-203)
  echoes : List Record → ℕ → Slot → List ℕ → List ℕ → MissionCall
  takes : ℕ → MissionCall
  -- the second
  sweeps : ℕ → MissionCall
  looks : Look → MissionCall

pub data Call : Type 0 where
  operator : OperatorCall → Call
  own : MissionCall → Call

-- ---- what an order does: what may refuse it, in the page's order; any lifetime is taken (docs/DECISIONS.md)
abbrev pub order_checks : Board → Order → Checks
order_checks b (set_router x) = flag_checks x
order_checks b (set_port p address mask mtu mission) = port_checks b p address mask mtu mission
order_checks b (set_lifetime x) = []
order_checks b (set_drop x) = flag_checks x
order_checks b (set_route rs i prefix mask port availability capabilities mission) =
    route_checks b rs i (new_record prefix mask port availability capabilities mission)
order_checks b (clear_route rs i) = clear_route_checks rs i

-- what it writes on the board, and in the list that is lent to it, where nothing refuses it
abbrev pub board_written : Board → Order → Board
board_written b (set_router x) = put_router b x
board_written b (set_port p address mask mtu mission) = put_owned b p (new_port address mask mtu mission)
board_written b (set_lifetime x) = put_lifetime b x
board_written b (set_drop x) = put_drop b x
board_written b (set_route rs i prefix mask port availability capabilities mission) = b
board_written b (clear_route rs i) = b

abbrev pub list_lent : Order → List Record
list_lent (set_router x) = []
list_lent (set_port p address mask mtu mission) = []
list_lent (set_lifetime x) = []
list_lent (set_drop x) = []
list_lent (set_route rs i prefix mask port availability capabilities mission) = rs
list_lent (clear_route rs i) = rs

abbrev pub list_written : Order → List Record
list_written (set_router x) = []
list_written (set_port p address mask mtu mission) = []
list_written (set_lifetime x) = []
list_written (set_drop x) = []
list_written (set_route rs i prefix mask port availability capabilities mission) =
    set rs i (new_record prefix mask port availability capabilities mission)
list_written (clear_route rs i) = set rs i empty_record

-- "A setting that no rule here refuses is taken": the board and the list that the order leaves
abbrev pub board_left : Board → Order → Board
board_left b o = settled (first_of (order_checks b o)) (board_written b o) b

abbrev pub list_left : Board → Order → List Record
list_left b o = settled (first_of (order_checks b o)) (list_written o) (list_lent o)

-- ---- what a mission's setting does, likewise, on the relay that the mission sees
abbrev pub checks_of : Relay → Setting → Checks
checks_of r (set_group i address send subscribed) = group_checks r i address send subscribed
checks_of r (set_path i path send here) = path_checks r i path send here
checks_of r (clear_group i) = clear_checks i group_places
checks_of r (clear_path i) = clear_checks i path_places

abbrev pub written : Relay → Setting → Relay
written r (set_group i address send subscribed) = with_group r i (new_group address send subscribed)
written r (set_path i path send here) = with_path r i (new_path path send here)
written r (clear_group i) = with_group r i fresh_group
written r (clear_path i) = with_path r i fresh_path

abbrev pub settle : Relay → Setting → Relay
settle r s = settled (first_of (checks_of r s)) (written r s) r
