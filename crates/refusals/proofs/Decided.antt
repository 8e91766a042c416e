-- Each setting's number: 0 exactly where nothing refuses, and a refusal's number exactly where its test holds and none before it
-- (page 01, "Refusal numbers"). One statement a list. Assumes nothing.
use Prim.Native.Nat.{ℕ}
use mathlib.Core.Path.{refl}
use mathlib.Core.List.{List}
use Rattle.address.specs.declared.Address.{Address}
use Rattle.address.specs.declared.Mask.{Mask}
use Rattle.address.specs.declared.PathAddress.{PathAddress}
use Rattle.routes.specs.declared.Record.{Record}
use Rattle.state.specs.Relay.{Relay}
use Rattle.state.specs.Seen.{Board}
use Rattle.listing.specs.Listed.{record_checks}
use Rattle.refusals.proofs.Chains.{Decided, decided}
use Rattle.refusals.specs.Lists.{port_checks, route_checks, clear_route_checks, group_checks, path_checks, flag_checks, mission_checks, clear_checks}

-- a route's record, by itself: 21, 22 and 24
pub record_decided : (b : Board) (x : Record) → Decided (record_checks b x)
record_decided b x = decided (record_checks b x) refl

module _ (b : Board) (i : ℕ) where
  pub port_decided : (address : Address) (mask : Mask) (mtu mission : ℕ) → Decided (port_checks b i address mask mtu mission)
  port_decided address mask mtu mission = decided (port_checks b i address mask mtu mission) refl

  pub route_decided : (rs : List Record) (x : Record) → Decided (route_checks b rs i x)
  route_decided rs x = decided (route_checks b rs i x) refl

module _ (r : Relay) (i : ℕ) where
  pub group_decided : (address : Address) (send subscribed : ℕ) → Decided (group_checks r i address send subscribed)
  group_decided address send subscribed = decided (group_checks r i address send subscribed) refl

  pub path_decided : (path : PathAddress) (send here : ℕ) → Decided (path_checks r i path send here)
  path_decided path send here = decided (path_checks r i path send here) refl

pub flag_decided : (x : ℕ) → Decided (flag_checks x)
flag_decided x = decided (flag_checks x) refl

pub mission_decided : (n : ℕ) → Decided (mission_checks n)
mission_decided n = decided (mission_checks n) refl

pub clear_decided : (place places : ℕ) → Decided (clear_checks place places)
clear_decided place places = decided (clear_checks place places) refl

pub clear_route_decided : (rs : List Record) (place : ℕ) → Decided (clear_route_checks rs place)
clear_route_decided rs place = decided (clear_route_checks rs place) refl
