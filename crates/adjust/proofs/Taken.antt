-- What holds after a settings call: page 01, "Settings" ("A setting that no rule here refuses is taken and holds until it is changed").
-- A refused call changes nothing; of a taken one the record is read back; no other place and no other part changes, either way.
-- Assumes nothing.
use Prim.Native.Nat.{ℕ, ◌<◌}
use mathlib.Core.Path.{◌≡◌, refl, sym, ap, ◌∙◌}
use mathlib.Core.Logic.{◌≢◌}
use mathlib.Core.Bool.{Bool, true, false}
use mathlib.Core.List.{List, ◌∷◌}
use lib.Dec.{eqb}
use lib.ListN.{length, set, length-set}
use lib.Seq.{get_or-set_same, get_or-set_other}
use borrow.Author.Tests.{eq-eqb, ne_eqb, eqb-true, eqb-false}
use Rattle.checks.specs.Order.{pick, Checks, first_of}
use Rattle.checks.proofs.Bools.{true_false}
use Rattle.address.specs.declared.Address.{Address}
use Rattle.address.specs.declared.Mask.{Mask}
use Rattle.address.specs.declared.PathAddress.{PathAddress}
use Rattle.routes.specs.declared.Record.{Record}
use Rattle.routes.specs.Records.{record_at, empty_record}
use Rattle.records.specs.declared.OwnedPort.{OwnedPort}
use Rattle.records.specs.declared.Group.{Group}
use Rattle.records.specs.declared.PathPlace.{PathPlace}
use Rattle.records.specs.Fresh.{fresh_group, fresh_path}
use Rattle.records.specs.SetUp.{is_set_up}
use Rattle.sets.specs.Limits.{port_count, group_places, path_places}
use Rattle.state.specs.Relay.{Mission, Relay, group_at, path_at, group_in, path_in, with_group, with_path, put_group, put_path}
use Rattle.state.specs.Relay.{with_mission, all_groups, all_paths}
use Rattle.state.specs.Seen.{Board, State, owned_at, put_router, put_drop, put_owned, on_mission, on_seated, fresh_state}
use Rattle.state.proofs.Sizes.{Sized, SizedBoard}
use Rattle.state.proofs.Places.{owned_back, put_group_back, put_path_back, group_back, path_back, owned_left, group_left, path_left}
use Rattle.settings.specs.Refusals.{place_refused}
use Rattle.settings.proofs.Values.{place_taken}
use Rattle.refusals.specs.Lists.{port_checks, route_checks, clear_route_checks, group_checks, path_checks, flag_checks, mission_checks, clear_checks}
use Rattle.refusals.proofs.Places.{place_there}
use Rattle.refusals.proofs.Chains.{are_numbers}
use Rattle.refusals.proofs.Decided.{port_decided, route_decided, clear_route_decided}
use Rattle.adjust.specs.Settled.{settled, new_port, new_group, new_path}
use Rattle.adjust.specs.Settled.{settled_router, settled_drop, settled_port, settled_route, settled_group, settled_path, settled_fresh}
use Rattle.adjust.specs.Settled.{cleared_route, cleared_group, cleared_path}

-- ---- any call
module _ {S : Type 0} (refusal : ℕ) (new old : S) where
  pub refused_nothing : refusal ≢ 0 → settled refusal new old ≡ old
  refused_nothing not-zero = rw (ne_eqb refusal 0 not-zero)

  pub taken_new : refusal ≡ 0 → settled refusal new old ≡ new
  taken_new zero = rw (eq-eqb refusal 0 zero)

  -- what new and old have alike stays, refused or not
  pub unchanged : {A : Type 0} (view : S → A) → view new ≡ view old → view (settled refusal new old) ≡ view old
  unchanged {A} view alike = cases (eqb refusal 0)
    where
      cases : (t : Bool) → view (pick t new old) ≡ view old
      cases true = alike
      cases false = refl

-- ---- what is taken is read back
pub router_taken : (b : Board) (router : ℕ) → first_of (flag_checks router) ≡ 0 → (settled_router b router).router ≡ router
router_taken b router none = ap (λ (x : Board). x.router) (taken_new _ (put_router b router) b none)

pub drop_taken : (b : Board) (drop : ℕ) → first_of (flag_checks drop) ≡ 0 → (settled_drop b drop).drop ≡ drop
drop_taken b drop none = ap (λ (x : Board). x.drop) (taken_new _ (put_drop b drop) b none)

pub fresh_taken : (s : State) (n : ℕ) → first_of (mission_checks n) ≡ 0 → settled_fresh s n ≡ fresh_state n
fresh_taken s n none = taken_new _ (fresh_state n) s none

-- a place that was written, its number tested first: what a view of the new state shows of a place that is there
written_back : {S A : Type 0} (view : S → A) (new old : S) (x : A) (i places : ℕ) (more : Checks) → are_numbers more ≡ true
    → first_of ((place_refused i places, 21) ∷ more) ≡ 0 → (i < places → view new ≡ x)
    → view (settled (first_of ((place_refused i places, 21) ∷ more)) new old) ≡ x
written_back view new old x i places more numbers none back =
    ap view (taken_new _ new old none) ∙ back (place_there i places more _ numbers refl none)

pub port_taken : (b : Board) → SizedBoard b → (i : ℕ) (address : Address) (mask : Mask) (mtu mission : ℕ)
    → first_of (port_checks b i address mask mtu mission) ≡ 0
    → owned_at (settled_port b i address mask mtu mission) i ≡ new_port address mask mtu mission
port_taken b sized i address mask mtu mission none =
    written_back (λ (y : Board). owned_at y i) _ b _ i port_count _ refl none (owned_back b sized i (new_port address mask mtu mission))

module _ (r : Relay) (sized : Sized r.mission) (i : ℕ) where
  pub group_taken : (address : Address) (send subscribed : ℕ) → first_of (group_checks r i address send subscribed) ≡ 0
      → group_in (settled_group r i address send subscribed) i ≡ new_group address send subscribed
  group_taken address send subscribed none =
      written_back (λ (y : Relay). group_in y i) _ r _ i group_places _ refl none (group_back r sized i (new_group address send subscribed))

  pub path_taken : (path : PathAddress) (send here : ℕ) → first_of (path_checks r i path send here) ≡ 0
      → path_in (settled_path r i path send here) i ≡ new_path path send here
  path_taken path send here none =
      written_back (λ (y : Relay). path_in y i) _ r _ i path_places _ refl none (path_back r sized i (new_path path send here))

-- an emptied place is a fresh one
module _ (m : Mission) (sized : Sized m) (i : ℕ) where
  pub group_emptied : first_of (clear_checks i group_places) ≡ 0 → group_at (cleared_group m i) i ≡ fresh_group
  group_emptied none =
      written_back (λ (y : Mission). group_at y i) _ m _ i group_places _ refl none (put_group_back m sized i fresh_group)

  pub path_emptied : first_of (clear_checks i path_places) ≡ 0 → path_at (cleared_path m i) i ≡ fresh_path
  path_emptied none =
      written_back (λ (y : Mission). path_at y i) _ m _ i path_places _ refl none (put_path_back m sized i fresh_path)

-- the mission's emptying is page 01's, on the relay that it sees on any board
module _ (b : Board) (s : State) (i : ℕ) where
  pub group_emptying : on_mission (λ m. cleared_group m i) s
      ≡ on_seated b (λ r. settled (first_of (clear_checks i group_places)) (with_group r i fresh_group) r) s
  group_emptying = cases (eqb (first_of (clear_checks i group_places)) 0)
    where
      cases : (t : Bool) → on_mission (λ m. pick t (put_group m i fresh_group) m) s ≡ on_seated b (λ r. pick t (with_group r i fresh_group) r) s
      cases true = refl
      cases false = refl

  pub path_emptying : on_mission (λ m. cleared_path m i) s
      ≡ on_seated b (λ r. settled (first_of (clear_checks i path_places)) (with_path r i fresh_path) r) s
  path_emptying = cases (eqb (first_of (clear_checks i path_places)) 0)
    where
      cases : (t : Bool) → on_mission (λ m. pick t (put_path m i fresh_path) m) s ≡ on_seated b (λ r. pick t (with_path r i fresh_path) r) s
      cases true = refl
      cases false = refl

-- ---- the list of routes
-- A refused writing leaves the list; of a taken one the record is read back; no other record changes, and the list is as long as it was.
module _ (rs : List Record) (i : ℕ) where
  module _ (b : Board) (x : Record) where
    pub route_refused : first_of (route_checks b rs i x) ≢ 0 → settled_route b rs i x ≡ rs
    route_refused number = refused_nothing _ (set rs i x) rs number

    pub route_taken : first_of (route_checks b rs i x) ≡ 0 → record_at (settled_route b rs i x) i ≡ x
    route_taken none =
        let there : i < length rs = (place_taken i (length rs)).0 ((route_decided b i rs x).0.0 none).1.0 in
        ap (λ (l : List Record). record_at l i) (taken_new _ (set rs i x) rs none) ∙ get_or-set_same rs i x empty_record there

  pub clear_route_refused : first_of (clear_route_checks rs i) ≢ 0 → cleared_route rs i ≡ rs
  clear_route_refused number = refused_nothing _ (set rs i empty_record) rs number

  pub route_emptied : first_of (clear_route_checks rs i) ≡ 0 → record_at (cleared_route rs i) i ≡ empty_record
  route_emptied none =
      let there : i < length rs = (place_taken i (length rs)).0 ((clear_route_decided rs i).0.0 none).1.0 in
      ap (λ (l : List Record). record_at l i) (taken_new _ (set rs i empty_record) rs none) ∙ get_or-set_same rs i empty_record empty_record there

  module _ (n : ℕ) (x : Record) where
    pub route_others : (j : ℕ) → j ≢ i → record_at (settled n (set rs i x) rs) j ≡ record_at rs j
    route_others j other = unchanged n (set rs i x) rs (λ (l : List Record). record_at l j) (get_or-set_other rs i j x empty_record other)

    pub route_length : length (settled n (set rs i x) rs) ≡ length rs
    route_length = unchanged n (set rs i x) rs (λ (l : List Record). length l) (length-set rs i x)

-- ---- no other place and no other part changes, whatever is written and whatever the answer
-- No other place of the same kind.
pub port_others : (b : Board) (n i : ℕ) (x : OwnedPort) (j : ℕ) → j ≢ i → owned_at (settled n (put_owned b i x) b) j ≡ owned_at b j
port_others b n i x j other = unchanged n (put_owned b i x) b (λ (y : Board). owned_at y j) (owned_left b i j other x)

-- "A port is written once" (page 02, W-208): one that is set up stays as it stands, whatever is written and whosever it is.
module _ (b : Board) (i : ℕ) (address : Address) (mask : Mask) (mtu mission : ℕ) where
  pub port_once : is_set_up (owned_at b i).port ≡ true → first_of (port_checks b i address mask mtu mission) ≢ 0
  port_once up none = true_false (sym up ∙ ((port_decided b i address mask mtu mission).0.0 none).1.1.1.1.1.0)

  pub port_stays : (j : ℕ) → is_set_up (owned_at b j).port ≡ true → owned_at (settled_port b i address mask mtu mission) j ≡ owned_at b j
  port_stays j up = cases (eqb j i) refl
    where
      here : j ≡ i → first_of (port_checks b i address mask mtu mission) ≢ 0
      here same = port_once (ap (λ (k : ℕ). is_set_up (owned_at b k).port) (sym same) ∙ up)

      cases : (t : Bool) → eqb j i ≡ t → owned_at (settled_port b i address mask mtu mission) j ≡ owned_at b j
      cases true e =
          ap (λ (y : Board). owned_at y j)
          (refused_nothing (first_of (port_checks b i address mask mtu mission)) (put_owned b i (new_port address mask mtu mission)) b
          (here (eqb-true j i e)))
      cases false e = port_others b (first_of (port_checks b i address mask mtu mission)) i (new_port address mask mtu mission) j (eqb-false j i e)

module _ (r : Relay) (n i : ℕ) where
  pub group_others : (x : Group) (j : ℕ) → j ≢ i → group_in (settled n (with_group r i x) r) j ≡ group_in r j
  group_others x j other = unchanged n (with_group r i x) r (λ (y : Relay). group_in y j) (group_left r i j other x)

  pub path_others : (x : PathPlace) (j : ℕ) → j ≢ i → path_in (settled n (with_path r i x) r) j ≡ path_in r j
  path_others x j other = unchanged n (with_path r i x) r (λ (y : Relay). path_in y j) (path_left r i j other x)

-- No other part: with the part that was written put back, all is as it was before.
abbrev pub back_ports : Board → Board → Board
back_ports b y = record { router = y.router; ports = b.ports; lifetime = y.lifetime; drop = y.drop }

abbrev pub back_groups : Relay → Relay → Relay
back_groups r y = with_mission y (all_groups y.mission r.mission.groups)

abbrev pub back_paths : Relay → Relay → Relay
back_paths r y = with_mission y (all_paths y.mission r.mission.paths)

module _ (b : Board) (n : ℕ) where
  pub router_apart : (x : ℕ) → put_router (settled n (put_router b x) b) b.router ≡ b
  router_apart x = unchanged n (put_router b x) b (λ (y : Board). put_router y b.router) refl

  pub drop_apart : (x : ℕ) → put_drop (settled n (put_drop b x) b) b.drop ≡ b
  drop_apart x = unchanged n (put_drop b x) b (λ (y : Board). put_drop y b.drop) refl

  pub port_apart : (i : ℕ) (x : OwnedPort) → back_ports b (settled n (put_owned b i x) b) ≡ b
  port_apart i x = unchanged n (put_owned b i x) b (back_ports b) refl

module _ (r : Relay) (n : ℕ) where
  pub group_apart : (i : ℕ) (x : Group) → back_groups r (settled n (with_group r i x) r) ≡ r
  group_apart i x = unchanged n (with_group r i x) r (back_groups r) refl

  pub path_apart : (i : ℕ) (x : PathPlace) → back_paths r (settled n (with_path r i x) r) ≡ r
  path_apart i x = unchanged n (with_path r i x) r (back_paths r) refl
