-- What refuses a setting, with its numbers: page 01, "Settings" and "Refusal numbers" ("Settings are tested in the order 21, 25, 22, 24,
-- 23, 35"); page 02, W-208. Each list has the tests of one setting in that order, and its first test that holds decides. Assumes nothing.
use Rattle.std.specs.Prelude.{ℕ, not, List, [], ◌∷◌, ◌++◌, length}
use Rattle.checks.specs.Order.{Checks, Refusals, numbered}
use Rattle.checks.specs.declared.Refusal.TheVariants.{NoPlace, WrongMask, EntryElsewhere, CodeOutOfRange, WrongClass, WrittenAlready}
use Rattle.address.specs.declared.Address.{Address}
use Rattle.address.specs.declared.Mask.{Mask}
use Rattle.address.specs.declared.PathAddress.{PathAddress}
use Rattle.routes.specs.declared.Record.{Record}
use Rattle.records.specs.SetUp.{is_set_up}
use Rattle.records.specs.Owned.{is_mission}
use Rattle.sets.specs.Limits.{port_count, group_places, path_places}
use Rattle.settings.specs.Refusals.{port_class_refused, group_class_refused, path_class_refused, port_mask_refused}
use Rattle.settings.specs.Refusals.{mtu_refused, flag_refused, place_refused}
use Rattle.settings.specs.Sets.{set_refused}
use Rattle.state.specs.Relay.{Relay}
use Rattle.state.specs.Seen.{Board, owned_at}
use Rattle.lent_state.specs.View.{too_long}
use Rattle.listing.specs.Listed.{record_checks, elsewhere}
use Rattle.refusals.specs.Ready.{ready_set}
use Rattle.refusals.specs.Elsewhere.{group_elsewhere, path_elsewhere}

-- A port has no 23: two ports may share an address. "A port is written once; a second writing is refused by 35", whosever the port is.
abbrev pub port_refusals : Board → ℕ → Address → Mask → ℕ → ℕ → Refusals
port_refusals b p address mask mtu mission =
    (place_refused p port_count, NoPlace)
    ∷ (port_class_refused address, WrongClass)
    ∷ (port_mask_refused address mask, WrongMask)
    ∷ (mtu_refused mtu, CodeOutOfRange)
    ∷ (not (is_mission mission), CodeOutOfRange)
    ∷ (is_set_up (owned_at b p).port, WrittenAlready)
    ∷ []

abbrev pub port_checks : Board → ℕ → Address → Mask → ℕ → ℕ → Checks
port_checks b p address mask mtu mission = numbered (port_refusals b p address mask mtu mission)

-- A route has no 25. Between place and same entry stand the tests of its record: 21, 22, 24. A list over 512 records is refused before all else.
abbrev pub route_checks : Board → List Record → ℕ → Record → Checks
route_checks b rs i x = (too_long rs, 21) ∷ (place_refused i (length rs), 21) ∷ (record_checks b x ++ ((elsewhere b rs i x, 23) ∷ []))

-- a record that is emptied
abbrev pub clear_route_checks : List Record → ℕ → Checks
clear_route_checks rs i = (too_long rs, 21) ∷ (place_refused i (length rs), 21) ∷ []

abbrev pub group_refusals : Relay → ℕ → Address → ℕ → ℕ → Refusals
group_refusals r i address send subscribed =
    (place_refused i group_places, NoPlace)
    ∷ (set_refused send (ready_set r), NoPlace)
    ∷ (set_refused subscribed (ready_set r), NoPlace)
    ∷ (group_class_refused address, WrongClass)
    ∷ (group_elsewhere r.mission i address, EntryElsewhere)
    ∷ []

abbrev pub group_checks : Relay → ℕ → Address → ℕ → ℕ → Checks
group_checks r i address send subscribed = numbered (group_refusals r i address send subscribed)

abbrev pub path_refusals : Relay → ℕ → PathAddress → ℕ → ℕ → Refusals
path_refusals r i path send here =
    (place_refused i path_places, NoPlace)
    ∷ (set_refused send (ready_set r), NoPlace)
    ∷ (path_class_refused path, WrongClass)
    ∷ (flag_refused here, CodeOutOfRange)
    ∷ (path_elsewhere r.mission i path, EntryElsewhere)
    ∷ []

abbrev pub path_checks : Relay → ℕ → PathAddress → ℕ → ℕ → Checks
path_checks r i path send here = numbered (path_refusals r i path send here)

-- router or host; echo drop on or off (page 02, W-203)
abbrev pub flag_checks : ℕ → Checks
flag_checks x = (flag_refused x, 24) ∷ []

-- a mission's number, where it is made fresh (docs/DECISIONS.md)
abbrev pub mission_checks : ℕ → Checks
mission_checks n = (not (is_mission n), 24) ∷ []

-- a place that is emptied, among so many: empty ones too
abbrev pub clear_checks : ℕ → ℕ → Checks
clear_checks place places = (place_refused place places, 21) ∷ []
