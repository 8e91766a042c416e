-- In every state that a history reaches no two places hold the same entry: the same prefix and mask among the routes that the mission sees, whatever list
-- is lent; the same group or path. The theorem is `keys_unique`, at the end. Assumes nothing.
use Prim.Native.Nat.{ℕ, ◌<◌}
use mathlib.Core.Path.{◌≡◌, refl, sym, ap, ◌∙◌}
use mathlib.Core.Bool.{Bool, true, false, not, ◌&&◌}
use mathlib.Core.List.{List, [], ◌∷◌}
use lib.Dec.{eqb}
use lib.ListN.{length, get_or, set, get_or-replicate}
use lib.Seq.{get_or-set_same, get_or-set_other}
use borrow.Author.Tests.{eqb-true, eqb-false, eq-eqb, ne_eqb}
use Rattle.checks.specs.Order.{first_of}
use Rattle.checks.proofs.Bools.{true_false, refuted}
use Rattle.sets.specs.Sets.{any_below}
use Rattle.sets.proofs.Anywhere.{any_found}
use Rattle.address.specs.declared.Address.{Address}
use Rattle.address.specs.declared.PathAddress.{PathAddress}
use Rattle.records.specs.Fresh.{fresh_group, fresh_path}
use Rattle.records.specs.declared.Group.{Group}
use Rattle.records.specs.declared.PathPlace.{PathPlace}
use Rattle.state.specs.Relay.{Mission, Relay, group_in, path_in, put_group, put_path}
use Rattle.state.specs.Seen.{fresh_mission}
use Rattle.listing.proofs.Counting.{seen_distinct}
use Rattle.refusals.specs.Elsewhere.{other_group, other_path, group_elsewhere, path_elsewhere}
use Rattle.refusals.specs.Lists.{group_checks, path_checks}
use Rattle.refusals.proofs.Chains.{decided}
use Rattle.adjust.specs.Settled.{new_group, new_path}
use Rattle.answering.specs.Echoed.{as_ending}
use Rattle.history.specs.Seat.{Seat, fresh_seat, relay_in, heard_by, replied_by}
use Rattle.history.specs.Calls.{
  Setting,
  set_group,
  set_path,
  clear_group,
  clear_path,
  MissionCall,
  sets,
  hears,
  echoes,
  takes,
  sweeps,
  looks,
  Call,
  operator,
  own,
  checks_of,
  written,
}
use Rattle.history.specs.Outcome.{next_mission, next, run_from, seat_after}
use Rattle.history.specs.Reach.{same_group, same_path, Unique, KeysUnique}
use Rattle.history.proofs.Settled.{settle_keeps}
use Rattle.history.proofs.Reach.{OwnKept, Kept, settings_of, received_settings, taken_settings, one_kept, fresh_kept}

-- ---- the same either way round
eqb_case : (a b : ℕ) (t : Bool) → eqb a b ≡ t → eqb b a ≡ t
eqb_case a b true e = eq-eqb b a (sym (eqb-true a b e))
eqb_case a b false e = ne_eqb b a (λ z. eqb-false a b e (sym z))

eqb_sym : (a b : ℕ) → eqb b a ≡ eqb a b
eqb_sym a b = eqb_case a b (eqb a b) refl

swap : (f g : Bool) {s t : Bool} → s ≡ t → (f && (g && s)) ≡ (g && (f && t))
swap true true e = e
swap true false e = refl
swap false true e = refl
swap false false e = refl

group_sym : (x y : Group) → same_group y x ≡ same_group x y
group_sym x y = swap (not (eqb y.filled 0)) (not (eqb x.filled 0)) (eqb_sym x.address.0 y.address.0)

path_sym : (x y : PathPlace) → same_path y x ≡ same_path x y
path_sym x y = swap (not (eqb y.filled 0)) (not (eqb x.filled 0)) (eqb_sym x.path.0 y.path.0)

-- ---- a place written with what no other place holds
module _ {A : Type 0} (same : A → A → Bool) (symmetric : (x y : A) → same y x ≡ same x y) (d : A) (n : ℕ) where
  module _ (l : List A) (p : ℕ) (x : A) (long : length l ≡ n) (old : Unique same d n l)
      (new : (j : ℕ) → j < n → (j ≡ p → ⊥) → same (get_or l j d) x ≡ false) where
    there : (j : ℕ) → j < n → j ≡ p → get_or (set l p x) j d ≡ x
    there j h e = ap (λ (k : ℕ). get_or (set l p x) k d) e ∙ get_or-set_same l p x d (rw (long, sym e) h)

    apart : (j : ℕ) → (j ≡ p → ⊥) → get_or (set l p x) j d ≡ get_or l j d
    apart j e = get_or-set_other l p j x d e

    pair_case : (i j : ℕ) → i < n → j < n → (i ≡ j → ⊥) → (t u : Bool) → eqb i p ≡ t → eqb j p ≡ u
        → same (get_or (set l p x) i d) (get_or (set l p x) j d) ≡ false
    pair_case i j hi hj ne true true e f = absurd (ne (eqb-true i p e ∙ sym (eqb-true j p f)))
    pair_case i j hi hj ne true false e f =
        rw (there i hi (eqb-true i p e), apart j (eqb-false j p f)) (symmetric (get_or l j d) x ∙ new j hj (eqb-false j p f))
    pair_case i j hi hj ne false true e f = rw (apart i (eqb-false i p e), there j hj (eqb-true j p f)) (new i hi (eqb-false i p e))
    pair_case i j hi hj ne false false e f = rw (apart i (eqb-false i p e), apart j (eqb-false j p f)) (old i j hi hj ne)

    unique_written : Unique same d n (set l p x)
    unique_written i j hi hj ne = pair_case i j hi hj ne (eqb i p) (eqb j p) refl refl

-- ---- what 23 shows
none_of : (test : ℕ → Bool) (n : ℕ) → any_below test n ≡ false → (j : ℕ) → j < n → test j ≡ false
none_of test n h j l = refuted (test j) (λ t. true_false (sym (any_found test j n l t) ∙ h))

not_here : (t u : Bool) → t ≡ false → (not t && u) ≡ false → u ≡ false
not_here true u h e = true_false h
not_here false u h e = e

module _ (r : Relay) where
  group_new : (i : ℕ) (a : Address) (send subscribed : ℕ) → first_of (group_checks r i a send subscribed) ≡ 0
      → (j : ℕ) → j < 16 → (j ≡ i → ⊥) → same_group (group_in r j) (new_group a send subscribed) ≡ false
  unfolding group_elsewhere
  group_new i a send subscribed taken j h ne =
      not_here (eqb j i) (same_group (group_in r j) (new_group a send subscribed)) (ne_eqb j i ne) (none_of (other_group r.mission i a) 16 ((decided (group_checks r i a send subscribed) refl).0.0 taken).1.1.1.1.0 j h)

  path_new : (i : ℕ) (p : PathAddress) (send here : ℕ) → first_of (path_checks r i p send here) ≡ 0
      → (j : ℕ) → j < 16 → (j ≡ i → ⊥) → same_path (path_in r j) (new_path p send here) ≡ false
  unfolding path_elsewhere
  path_new i p send here taken j h ne =
      not_here (eqb j i) (same_path (path_in r j) (new_path p send here)) (ne_eqb j i ne) (none_of (other_path r.mission i p) 16 ((decided (path_checks r i p send here) refl).0.0 taken).1.1.1.1.0 j h)

-- an empty place holds nothing
empty_second : (f s : Bool) → (f && (false && s)) ≡ false
empty_second true s = refl
empty_second false s = refl

-- ---- each call, and then all
pub record OwnUnique (m : Mission) : Type 0 where
  pub groups : Unique same_group fresh_group 16 m.groups
  pub paths : Unique same_path fresh_path 16 m.paths

by_settings : (m n : Mission) → OwnUnique m → settings_of n ≡ settings_of m → OwnUnique n
by_settings m n u e = record { groups = rw (ap (λ x. x.0) e) u.groups; paths = rw (ap (λ x. x.1) e) u.paths }

module _ (ready : ℕ) (m : Mission) (k : OwnKept ready m) (u : OwnUnique m) where
  group_keys : (i : ℕ) (x : Group) → ((j : ℕ) → j < 16 → (j ≡ i → ⊥) → same_group (get_or m.groups j fresh_group) x ≡ false) → OwnUnique (put_group m i x)
  group_keys i x new =
      record {
        groups = unique_written same_group group_sym fresh_group 16 m.groups i x k.groups u.groups new;
        paths = u.paths;
      }

  path_keys : (i : ℕ) (x : PathPlace) → ((j : ℕ) → j < 16 → (j ≡ i → ⊥) → same_path (get_or m.paths j fresh_path) x ≡ false) → OwnUnique (put_path m i x)
  path_keys i x new =
      record {
        groups = u.groups;
        paths = unique_written same_path path_sym fresh_path 16 m.paths i x k.paths u.paths new;
      }

module _ (seat : Seat) (k : Kept seat) (u : OwnUnique seat.mission) where
  abbrev r : Relay
  r = relay_in seat

  taken_unique : (s : Setting) → first_of (checks_of r s) ≡ 0 → OwnUnique (written r s).mission
  taken_unique (set_group i a send subscribed) z =
      group_keys _ _ k.mission u i (new_group a send subscribed) (group_new r i a send subscribed z)
  taken_unique (set_path i p send here) z = path_keys _ _ k.mission u i (new_path p send here) (path_new r i p send here z)
  taken_unique (clear_group i) z =
      group_keys _ _ k.mission u i fresh_group
      (λ j h ne. empty_second (not (eqb (group_in r j).filled 0)) (eqb (group_in r j).address.0 0))
  taken_unique (clear_path i) z =
      path_keys _ _ k.mission u i fresh_path
      (λ j h ne. empty_second (not (eqb (path_in r j).filled 0)) (eqb (path_in r j).path.0 0))

  own_unique : (c : MissionCall) → OwnUnique (next_mission seat c)
  own_unique (sets s) = settle_keeps (λ (x : Relay). OwnUnique x.mission) r s u (taken_unique s)
  own_unique (hears rs port slot second octets output) =
      by_settings _ _ u (received_settings r slot (heard_by seat rs port second octets (length output)))
  own_unique (echoes rs port slot octets output) =
      by_settings _ _ u (received_settings r slot (as_ending (replied_by seat rs port octets (length output))))
  own_unique (takes port) = by_settings _ _ u (taken_settings r port)
  own_unique (sweeps second) = u
  own_unique (looks l) = u

  one_unique : (c : Call) → OwnUnique (next seat c).mission
  one_unique (operator c) = u
  one_unique (own c) = own_unique c

all_unique : (cs : List Call) (seat : Seat) → Kept seat → OwnUnique seat.mission → OwnUnique (run_from seat cs).mission
all_unique [] seat k u = u
all_unique (c ∷ cs) seat k u = all_unique cs (next seat c) (one_kept seat c k) (one_unique seat k u c)

fresh_unique : OwnUnique fresh_mission
unfolding fresh_mission
fresh_unique =
    record {
      groups = λ i j hi hj ne. rw (get_or-replicate {A = Group} 16 i fresh_group fresh_group hi) refl;
      paths = λ i j hi hj ne. rw (get_or-replicate {A = PathPlace} 16 i fresh_path fresh_path hi) refl;
    }

-- After any history no two places hold the same entry.
pub keys_unique : (m : ℕ) (cs : List Call) → KeysUnique (seat_after m cs)
keys_unique m cs =
    let seat = seat_after m cs in
    let u = all_unique cs (fresh_seat m) (fresh_kept m) fresh_unique in
    record {
      routes = λ rs i j hi hj ne. refuted _ (λ same. ne (seen_distinct seat.board rs seat.number i j same));
      groups = u.groups;
      paths = u.paths;
    }
