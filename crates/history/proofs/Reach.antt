-- Every state that a history reaches has good settings. The theorem is `reached`, at the end. Assumes nothing.
use Prim.Native.Nat.{ℕ, zero, suc, ◌<◌}
use mathlib.Core.Path.{◌≡◌, refl, sym, ap, ◌∙◌}
use mathlib.Core.Bool.{Bool, true, false, not, ◌&&◌}
use mathlib.Core.List.{List, [], ◌∷◌}
use lib.Bits.{bit_and}
use lib.Dec.{eqb, ltb}
use lib.ListN.{length, get_or, set, length-set, get_or-replicate}
use lib.Seq.{get_or-set_same, get_or-set_other}
use borrow.Author.Tests.{eqb-true, eqb-false, ltb-true}
use Rattle.checks.specs.Order.{first_of}
use Rattle.checks.proofs.Bools.{true_false, and_true, or_false, not-false, and_not_false, and_not}
use Rattle.checks.proofs.Laws.{either}
use Rattle.sets.specs.Sets.{in_set, only_port}
use Rattle.settings.specs.Sets.{is_ready, names_other, set_refused}
use Rattle.settings.proofs.Answers.{both_false}
use Rattle.settings.specs.Refusals.{port_class_refused, port_mask_refused, mtu_refused, group_class_refused, path_class_refused}
use Rattle.address.specs.declared.Address.{Address}
use Rattle.address.specs.declared.Mask.{Mask}
use Rattle.address.specs.declared.PathAddress.{PathAddress}
use Rattle.address.specs.declared.Slot.{Slot}
use Rattle.records.specs.Fresh.{fresh_owned, fresh_group, fresh_path}
use Rattle.records.specs.Owned.{is_mission}
use Rattle.records.specs.SetUp.{is_set_up}
use Rattle.records.specs.declared.OwnedPort.{OwnedPort}
use Rattle.records.specs.declared.Group.{Group}
use Rattle.records.specs.declared.PathPlace.{PathPlace}
use Rattle.state.specs.Relay.{Mission, Memory, Relay, route_in, group_at, path_at, queue_in, put_group, put_path, port_set_up}
use Rattle.state.specs.Seen.{Board, fresh_board, fresh_mission, fresh_memory, owned_at, put_owned}
use Rattle.listing.proofs.Counting.{seen_taken}
use Rattle.refusals.specs.Lists.{port_checks, group_checks, path_checks}
use Rattle.refusals.specs.Ready.{ready_set}
use Rattle.refusals.proofs.Chains.{decided}
use Rattle.adjust.specs.Settled.{new_port, new_group, new_path}
use Rattle.queue.specs.Queue.{take_of}
use Rattle.queue.specs.declared.Entry.{Entry}
use Rattle.std.proofs.Common.{Option, Some, None}
use Rattle.queue.specs.declared.Queue.{Queue}
use Rattle.taking.specs.Taking.{without, taken_relay}
use Rattle.judge.specs.declared.Ending.{Ending}
use Rattle.relay.specs.Outgoing.{entered_if, entered_all}
use Rattle.relay.specs.Received.{new_entry, received_relay}
use Rattle.answering.specs.Echoed.{as_ending}
use Rattle.routes.specs.Routes.{is_filled}
use Rattle.routes.specs.declared.Record.{Record}
use Rattle.history.specs.Seat.{Seat, fresh_seat, relay_in, relay_with, heard_by, replied_by}
use Rattle.history.specs.Calls.{
  Order,
  set_router,
  set_port,
  set_lifetime,
  set_drop,
  set_route,
  clear_route,
  orders,
  views,
  Setting,
  set_group,
  set_path,
  clear_group,
  clear_path,
  MissionCall,
  sets,
  hears,
  echoes,
  takes,
  sweeps,
  looks,
  Call,
  operator,
  own,
  order_checks,
  board_written,
  checks_of,
  written,
}
use Rattle.history.specs.Outcome.{next_mission, next, run_from, seat_after}
use Rattle.history.specs.Reach.{RouteGood, Reached}
use Rattle.floods.proofs.Swept.{swept_length}
use Rattle.history.proofs.Settled.{order_keeps, settle_keeps}
use Rattle.history.proofs.Remembered.{memory_so}
use Rattle.history.proofs.Ports.{ready_is, seen_stays}

-- ---- which ports are set up only grows
abbrev Grows : ℕ → ℕ → Type 0
Grows a b = (p : ℕ) → is_ready p a ≡ true → is_ready p b ≡ true

names_grows : (a b : ℕ) → Grows a b → (k s : ℕ) → names_other k s a ≡ false → names_other k s b ≡ false
unfolding names_other
names_grows a b g zero s h = refl
names_grows a b g (suc p) s h =
    let both = or_false (in_set p s && not (is_ready p a)) (names_other p s a) h in
    both_false _ _ (and_not (in_set p s) (is_ready p b) (λ e. g p (and_not_false (in_set p s) (is_ready p a) both.0 e))) (names_grows a b g p s both.1)

set_grows : (a b : ℕ) → Grows a b → (s : ℕ) → set_refused s a ≡ false → set_refused s b ≡ false
unfolding set_refused
set_grows a b g s h = names_grows a b g 32 s h

-- no call takes a port away that the mission sees
seat_grows : (seat : Seat) (c : Call) → Grows (ready_set (relay_in seat)) (ready_set (relay_in (next seat c)))
seat_grows seat c p h =
    let inside = ltb-true p 8 (and_true (ltb p 8) (in_set p (ready_set (relay_in seat))) h).0 in
    let up = sym (ready_is (relay_in seat) p inside) ∙ h in
    ready_is (relay_in (next seat c)) p inside ∙ ap is_set_up (seen_stays seat c p up) ∙ up

-- ---- what one part says, and how it is kept where ports only grow
abbrev PortGood : OwnedPort → Type 0
PortGood x = is_set_up x.port ≡ true
    → (port_class_refused x.port.address ≡ false)
    × ((port_mask_refused x.port.address x.port.mask ≡ false) × ((mtu_refused x.port.mtu ≡ false) × (is_mission x.mission ≡ true)))

abbrev GroupGood : ℕ → Group → Type 0
GroupGood ready x = not (eqb x.filled 0) ≡ true
    → (group_class_refused x.address ≡ false) × ((set_refused x.send ready ≡ false) × (set_refused x.subscribed ready ≡ false))

abbrev PathGood : ℕ → PathPlace → Type 0
PathGood ready x = not (eqb x.filled 0) ≡ true → (path_class_refused x.path ≡ false) × (set_refused x.send ready ≡ false)

group_kept : (a b : ℕ) → Grows a b → (x : Group) → GroupGood a x → GroupGood b x
group_kept a b g x h k = let z = h k in (z.0, (set_grows a b g x.send z.1.0, set_grows a b g x.subscribed z.1.1))

path_kept : (a b : ℕ) → Grows a b → (x : PathPlace) → PathGood a x → PathGood b x
path_kept a b g x h k = let z = h k in (z.0, set_grows a b g x.send z.1)

-- ---- a place written anew holds the record written, and the others what they held
module _ {A : Type 0} (P : A → Type 0) (d : A) (n : ℕ) where
  place_case : (l : List A) (i : ℕ) (x : A) → length l ≡ n → P x → ((j : ℕ) → j < n → P (get_or l j d)) → (j : ℕ) → j < n → (t : Bool) → eqb j i ≡ t → P (get_or (set l i x) j d)
  place_case l i x long new old j h true e =
      let same = eqb-true j i e in
      rw (ap (λ (k : ℕ). get_or (set l i x) k d) same ∙ get_or-set_same l i x d (rw (long, sym same) h)) new
  place_case l i x long new old j h false e = rw (get_or-set_other l i j x d (eqb-false j i e)) (old j h)

  place_written : (l : List A) (i : ℕ) (x : A) → length l ≡ n → P x → ((j : ℕ) → j < n → P (get_or l j d)) → (j : ℕ) → j < n → P (get_or (set l i x) j d)
  place_written l i x long new old j h = place_case l i x long new old j h (eqb j i) refl

-- ---- the board: how many ports there are, and that they are good
pub record BoardKept (b : Board) : Type 0 where
  pub eight : length b.ports ≡ 8
  pub good : (p : ℕ) → p < 8 → PortGood (owned_at b p)

port_kept : (b : Board) → BoardKept b → (p : ℕ) (a : Address) (m : Mask) (u n : ℕ) → first_of (port_checks b p a m u n) ≡ 0
    → BoardKept (put_owned b p (new_port a m u n))
port_kept b k p a m u n taken =
    let x = new_port a m u n in
    let none = (decided (port_checks b p a m u n) refl).0.0 taken in
    let new : PortGood x = λ z. (none.1.0, (none.1.1.0, (none.1.1.1.0, not-false (is_mission n) none.1.1.1.1.0))) in
    record {
      eight = length-set b.ports p x ∙ k.eight;
      good = place_written PortGood fresh_owned 8 b.ports p x k.eight new k.good;
    }

written_board : (b : Board) → BoardKept b → (o : Order) → first_of (order_checks b o) ≡ 0 → BoardKept (board_written b o)
written_board b k (set_router x) z = record { eight = k.eight; good = k.good }
written_board b k (set_port p a m u n) z = port_kept b k p a m u n z
written_board b k (set_lifetime x) z = record { eight = k.eight; good = k.good }
written_board b k (set_drop x) z = record { eight = k.eight; good = k.good }
written_board b k (set_route rs i prefix mask port availability capabilities n) z = k
written_board b k (clear_route rs i) z = k

next_board_lem : (seat : Seat) (c : Call) → BoardKept seat.board → BoardKept (next seat c).board
next_board_lem seat (operator (orders o)) k = order_keeps BoardKept seat.board o k (written_board seat.board k o)
next_board_lem seat (operator (views v)) k = k
next_board_lem seat (own c) k = k

-- ---- the mission's own: how many places there are, and that what stands there is good among these ports
pub record OwnKept (ready : ℕ) (m : Mission) : Type 0 where
  pub groups : length m.groups ≡ 16
  pub paths : length m.paths ≡ 16
  pub groups_good : (i : ℕ) → i < 16 → GroupGood ready (group_at m i)
  pub paths_good : (i : ℕ) → i < 16 → PathGood ready (path_at m i)

own_grows : (a b : ℕ) → Grows a b → (m : Mission) → OwnKept a m → OwnKept b m
own_grows a b g m k =
    record {
      groups = k.groups;
      paths = k.paths;
      groups_good = λ i h. group_kept a b g (group_at m i) (k.groups_good i h);
      paths_good = λ i h. path_kept a b g (path_at m i) (k.paths_good i h);
    }

module _ (ready : ℕ) (m : Mission) (k : OwnKept ready m) where
  group_written : (i : ℕ) (x : Group) → GroupGood ready x → OwnKept ready (put_group m i x)
  group_written i x new =
      record {
        groups = length-set m.groups i x ∙ k.groups;
        paths = k.paths;
        groups_good = place_written (GroupGood ready) fresh_group 16 m.groups i x k.groups new k.groups_good;
        paths_good = k.paths_good;
      }

  path_written : (i : ℕ) (x : PathPlace) → PathGood ready x → OwnKept ready (put_path m i x)
  path_written i x new =
      record {
        groups = k.groups;
        paths = length-set m.paths i x ∙ k.paths;
        groups_good = k.groups_good;
        paths_good = place_written (PathGood ready) fresh_path 16 m.paths i x k.paths new k.paths_good;
      }

-- what the tests showed of a record that was taken
module _ (r : Relay) where
  group_new : (i : ℕ) (a : Address) (send subscribed : ℕ) → first_of (group_checks r i a send subscribed) ≡ 0
      → GroupGood (ready_set r) (new_group a send subscribed)
  group_new i a send subscribed taken z =
      let none = (decided (group_checks r i a send subscribed) refl).0.0 taken in
      (none.1.1.1.0, (none.1.0, none.1.1.0))

  path_new : (i : ℕ) (p : PathAddress) (send here : ℕ) → first_of (path_checks r i p send here) ≡ 0 → PathGood (ready_set r) (new_path p send here)
  path_new i p send here taken z =
      let none = (decided (path_checks r i p send here) refl).0.0 taken in
      (none.1.1.0, none.1.0)

  written_own : OwnKept (ready_set r) r.mission → (s : Setting) → first_of (checks_of r s) ≡ 0 → OwnKept (ready_set r) (written r s).mission
  written_own k (set_group i a send subscribed) z =
      group_written (ready_set r) r.mission k i (new_group a send subscribed) (group_new i a send subscribed z)
  written_own k (set_path i p send here) z = path_written (ready_set r) r.mission k i (new_path p send here) (path_new i p send here z)
  written_own k (clear_group i) z = group_written (ready_set r) r.mission k i fresh_group (λ h. true_false (sym h))
  written_own k (clear_path i) z = path_written (ready_set r) r.mission k i fresh_path (λ h. true_false (sym h))

-- ---- datagrams leave the settings
abbrev pub settings_of : Mission → List Group × List PathPlace
settings_of m = (m.groups, m.paths)

entered_settings : (took : ℕ) (e : Entry) (n : ℕ) (r : Relay) → settings_of (entered_all r took e n).mission ≡ settings_of r.mission
unfolding entered_all entered_if
entered_settings took e zero r = refl
entered_settings took e (suc p) r =
    either (λ (s : Relay). settings_of s.mission ≡ settings_of r.mission) (eqb (bit_and took (only_port p)) 0)
    (entered_settings took e p r) (entered_settings took e p r)

pub received_settings : (r : Relay) (slot : Slot) (e : Ending) → settings_of (received_relay r slot e).mission ≡ settings_of r.mission
unfolding received_relay
received_settings r slot e = entered_settings e.ruling.took (new_entry slot e) 8 r

without_settings : (r : Relay) (port : ℕ) (q : Queue) (h : Option Entry) → settings_of (without r port q h).mission ≡ settings_of r.mission
without_settings r port q (Some e) = refl
without_settings r port q None = refl

pub taken_settings : (r : Relay) (port : ℕ) → settings_of (taken_relay r port).mission ≡ settings_of r.mission
unfolding taken_relay
taken_settings r port =
    either (λ (s : Relay). settings_of s.mission ≡ settings_of r.mission) (not (port_set_up r port)) refl
    (without_settings r port (take_of (queue_in r port)).queue (take_of (queue_in r port)).head)

by_settings : (ready : ℕ) (m n : Mission) → OwnKept ready m → settings_of n ≡ settings_of m → OwnKept ready n
by_settings ready m n k e =
    record {
      groups = ap (λ x. length x.0) e ∙ k.groups;
      paths = ap (λ x. length x.1) e ∙ k.paths;
      groups_good = λ i h. rw (ap (λ x. get_or x.0 i fresh_group) e) (k.groups_good i h);
      paths_good = λ i h. rw (ap (λ x. get_or x.1 i fresh_path) e) (k.paths_good i h);
    }

next_own : (seat : Seat) (c : MissionCall) → OwnKept (ready_set (relay_in seat)) seat.mission → OwnKept (ready_set (relay_in seat)) (next_mission seat c)
next_own seat (sets s) k =
    settle_keeps (λ (x : Relay). OwnKept (ready_set (relay_in seat)) x.mission) (relay_in seat) s k (written_own (relay_in seat) k s)
next_own seat (hears rs port slot second octets output) k =
    by_settings _ _ _ k (received_settings (relay_in seat) slot (heard_by seat rs port second octets (length output)))
next_own seat (echoes rs port slot octets output) k =
    by_settings _ _ _ k (received_settings (relay_in seat) slot (as_ending (replied_by seat rs port octets (length output))))
next_own seat (takes port) k = by_settings _ _ _ k (taken_settings (relay_in seat) port)
next_own seat (sweeps second) k = k
next_own seat (looks l) k = k

-- ---- no place for a pair comes or goes
next_pairs : (seat : Seat) (c : Call) → length seat.memory.pairs ≡ 64 → length (next seat c).memory.pairs ≡ 64
next_pairs seat c l =
    memory_so (λ (k : Memory). length k.pairs ≡ 64) seat l (λ second now. l) (λ second place q now keeping. length-set seat.memory.pairs place _ ∙ l)
    (λ second now. swept_length seat.board.lifetime second seat.memory ∙ l) c

-- ---- each call, and then all
pub record Kept (seat : Seat) : Type 0 where
  pub board : BoardKept seat.board
  pub mission : OwnKept (ready_set (relay_in seat)) seat.mission
  pub pairs : length seat.memory.pairs ≡ 64

pub one_kept : (seat : Seat) (c : Call) → Kept seat → Kept (next seat c)
one_kept seat (operator c) k =
    record {
      board = next_board_lem seat (operator c) k.board;
      mission = own_grows _ _ (seat_grows seat (operator c)) seat.mission k.mission;
      pairs = k.pairs;
    }
one_kept seat (own c) k = record { board = k.board; mission = next_own seat c k.mission; pairs = next_pairs seat (own c) k.pairs }

all_kept : (cs : List Call) (seat : Seat) → Kept seat → Kept (run_from seat cs)
all_kept [] seat k = k
all_kept (c ∷ cs) seat k = all_kept cs (next seat c) (one_kept seat c k)

pub fresh_kept : (m : ℕ) → Kept (fresh_seat m)
unfolding fresh_board fresh_mission fresh_memory
fresh_kept m =
    record {
      board =
          record {
            eight = refl;
            good =
                λ p h z.
                true_false (sym z ∙ ap (λ (x : OwnedPort). is_set_up x.port) (get_or-replicate {A = OwnedPort} 8 p fresh_owned fresh_owned h));
          };
      mission =
          record {
            groups = refl;
            paths = refl;
            groups_good =
                λ i h z. true_false (sym z ∙ ap (λ (x : Group). not (eqb x.filled 0)) (get_or-replicate {A = Group} 16 i fresh_group fresh_group h));
            paths_good =
                λ i h z. true_false (sym z ∙ ap (λ (x : PathPlace). not (eqb x.filled 0)) (get_or-replicate {A = PathPlace} 16 i fresh_path fresh_path h));
          };
      pairs = refl;
    }

pub kept_after : (m : ℕ) (cs : List Call) → Kept (seat_after m cs)
kept_after m cs = all_kept cs (fresh_seat m) (fresh_kept m)

-- whatever list is lent, a route that the mission sees is good
route_good : (seat : Seat) (rs : List Record) (i : ℕ) → is_filled (route_in (relay_with seat rs) i) ≡ true
    → RouteGood (ready_set (relay_in seat)) (route_in (relay_with seat rs) i)
route_good seat rs i h = let good = seen_taken seat.board rs seat.number i h in record { port = good.0; prefix = good.1; codes = good.2 }

-- After any history the settings are good: each record stands by the tests that took it, and each route that the mission sees passes its tests.
pub reached : (m : ℕ) (cs : List Call) → Reached (seat_after m cs)
reached m cs =
    let k = kept_after m cs in
    record {
      ports = k.board.good;
      routes = route_good (seat_after m cs);
      groups = k.mission.groups_good;
      paths = k.mission.paths_good;
      pairs = k.pairs;
    }
