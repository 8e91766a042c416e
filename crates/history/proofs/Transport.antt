-- Demand 1, the last sentence, of two datagrams: an unknown transport number refuses local delivery alone. The theorem is `transport_alone`, and with it
-- `leaves_the_same`. Assumes nothing.
use Rattle.std.specs.Prelude.{Option, None}
use Prim.Native.Nat.{ℕ}
use mathlib.Core.Path.{◌≡◌, refl, ap, ap₂, ◌∙◌}
use mathlib.Core.Bool.{Bool, true, false, not}
use mathlib.Core.List.{List}
use mathlib.Core.Logic.{◌⊎◌, inl, inr}
use lib.Dec.{eqb}
use Rattle.checks.specs.Order.{pick, first_of}
use Rattle.sets.specs.Limits.{port_count}
use Rattle.address.specs.Class.{class_of}
use Rattle.address.specs.declared.Slot.{Slot}
use Rattle.header.specs.Build.{third_octet, second_octet, rest_octets, size_of}
use Rattle.header.specs.Read.{read_of}
use Rattle.header.specs.declared.Header.{Header}
use Rattle.checks.specs.Told.{Good}
use Rattle.meaning.specs.Arrival.{arrival_checks}
use Rattle.meaning.specs.Asked.{is_assigned, assigned_of}
use Rattle.meaning.specs.Names.{aim_of}
use Rattle.meaning.specs.declared.Aim.{Aim}
use Rattle.meaning.specs.declared.Aim.TheVariants.{Node, Path, Uncarried}
use Rattle.state.specs.Relay.{Relay}
use Rattle.lookup.specs.Lookup.{path_place}
use Rattle.lookup.specs.ForTarget.{place_for, way_for}
use Rattle.verdict.specs.Rule.{target_of, here_by, ours_by, wanted_here, local_of, copies_of, ruling_of}
use Rattle.verdict.specs.declared.Target.{Target}
use Rattle.verdict.specs.declared.Target.TheVariants as target
use Rattle.verdict.specs.declared.Place.{Place}
use Rattle.verdict.specs.declared.Way.{Way}
use Rattle.verdict.specs.declared.Case.{Case}
use Rattle.verdict.specs.declared.Local.{Local}
use Rattle.verdict.specs.declared.Local.TheVariants.{No, Delivered, Unknown}
use Rattle.verdict.specs.declared.Ruling.{Ruling}
use Rattle.verdict.specs.declared.Survey.{Survey}
use Rattle.verdict.specs.declared.Wish.{Wish}
use Rattle.verdict.specs.declared.Wish.TheVariants.{NotAsked, Refused, Wanted}
use Rattle.next_leg.specs.Leg.{rewrites, next_fields, next_length, legs_of}
use Rattle.meaning.specs.Flood.{pair_of}
use Rattle.floods.specs.Memory.{flood_of}
use Rattle.judge.specs.Ruling.{case_of, flood_for, leg_for, survey_for, ruled_by, rule_target, rule_aim, rule_of, legs_for}
use Rattle.judge.specs.declared.ruling.Arrival.{Arrival}
use Rattle.judge.specs.Ending.{refused_by, call_checks, ruled_ending, header_ending, arrival_at, ending_of}
use Rattle.judge.specs.declared.Ending.{Ending}
use Rattle.relay.specs.Outgoing.{entered_all}
use Rattle.relay.specs.Received.{received_relay, heard_memory}
use Rattle.routes.specs.declared.Record.{Record}
use Rattle.lent_state.specs.View.{too_long}
use Rattle.judge.specs.Remembered.{header_memory, memory_of}
use Rattle.history.specs.Seat.{Seat, relay_in, relay_with, heard_by, memory_by}
use Rattle.history.specs.Transport.{with_tpid, SameButTpid, local_by, SameButLocal}
use Rattle.history.proofs.Heard.{heard_is}
use Rattle.history.proofs.Onward.{onward_half, with_assigned, onward_free_of_tpid}

-- ---- one ruling
-- both halves are no, or each is what its TP-ID makes it
abbrev Halves : ℕ → ℕ → Local → Local → Type 0
Halves a b x y = ((x ≡ No) × (y ≡ No)) ⊎ ((x ≡ local_by a) × (y ≡ local_by b))

assigned_case : (t : Bool) → pick (eqb (pick t 1 0) 0) Unknown Delivered ≡ pick t Delivered Unknown
assigned_case true = refl
assigned_case false = refl

halves_case : (t : Bool) (a b : ℕ)
    → Halves a b (pick t No (pick (eqb (assigned_of a) 0) Unknown Delivered)) (pick t No (pick (eqb (assigned_of b) 0) Unknown Delivered))
halves_case true a b = inl (refl, refl)
halves_case false a b = inr (assigned_case (is_assigned a), assigned_case (is_assigned b))

pub ruling_local : (local : Local) (l : Wish) (full : ℕ) → (ruling_of local l full).local ≡ local
unfolding ruling_of copies_of
ruling_local local NotAsked full = refl
ruling_local local (Refused n) full = refl
ruling_local local (Wanted set) full = refl

abbrev Alike : ℕ → ℕ → Ruling → Ruling → Type 0
Alike a b x y = (onward_half x ≡ onward_half y) × Halves a b x.local y.local

module _ (a b : ℕ) where
  local_alike : (t : Target) (p : Option Place) (c : Case) → Halves a b (local_of t p (with_assigned c (assigned_of a))) (local_of t p (with_assigned c (assigned_of b)))
  unfolding local_of
  local_alike t p c = halves_case (not (wanted_here (ours_by t (here_by p)) c.intermediate)) a b

  ruled_alike : (t : Target) (p : Option Place) (w : Option Way) (c : Case) (s : Survey)
      → Alike a b (ruled_by t p w (with_assigned c (assigned_of a)) s) (ruled_by t p w (with_assigned c (assigned_of b)) s)
  unfolding ruled_by
  ruled_alike t p w c s =
      let x = with_assigned c (assigned_of a) in
      (onward_free_of_tpid t p w x (assigned_of b) s, rw (ruling_local (local_of t p x) _ s.full, ruling_local _ _ s.full) (local_alike t p c))

  aim_alike : (r : Relay) (x : Aim) (c : Case) (s : Survey)
      → Alike a b (rule_aim r x (with_assigned c (assigned_of a)) s) (rule_aim r x (with_assigned c (assigned_of b)) s)
  unfolding rule_target
  aim_alike r (Node d) c s =
      let t = target_of (class_of d.0) s in
      ruled_alike t (place_for r t d c.arrival) (way_for r t d) c s
  aim_alike r (Path x) c s = ruled_alike target.Path (path_place r x) None c s
  aim_alike r Uncarried c s = ruled_alike target.Route None None c s

  -- ---- the endings
  refused_alike : (n : ℕ) → SameButLocal a b (refused_by n) (refused_by n)
  refused_alike n =
      record {
        refusal = refl;
        onward = refl;
        granted = refl;
        took = refl;
        dropped = refl;
        precedence = refl;
        size = refl;
        legs = refl;
        local = inl (refl, refl);
      }

  else_alike : (t : Bool) (n : ℕ) (e f : Ending) → SameButLocal a b e f → SameButLocal a b (pick t e (refused_by n)) (pick t f (refused_by n))
  else_alike true n e f same = same
  else_alike false n e f same = refused_alike n

-- of a header, and of the same with another TP-ID
module _ (r : Relay) (at : Arrival) (h : Header) (b : ℕ) where
  ruled_ending_alike : SameButLocal h.fields.tpid b (ruled_ending r at h) (ruled_ending r at (with_tpid b h))
  unfolding rule_of legs_for flood_of pair_of legs_of next_length rewrites next_fields size_of second_octet third_octet rest_octets
  ruled_ending_alike =
      let x = aim_of at.address.0 h.fields.addresses in
      let alike = aim_alike h.fields.tpid b r x (case_of r.router at.set h.fields (flood_for r at x h)) (survey_for r at x h) in
      record {
        refusal = refl;
        onward = ap (λ x. x.0) alike.0;
        granted = ap (λ x. x.1.0) alike.0;
        took = ap (λ x. x.1.1.0) alike.0;
        dropped = ap (λ x. x.1.1.1) alike.0;
        precedence = refl;
        size = refl;
        legs = ap (λ (took : ℕ). legs_of took (survey_for r at x h).domain (leg_for r at x h)) (ap (λ y. y.1.1.0) alike.0);
        local = alike.1;
      }

  header_alike : SameButLocal h.fields.tpid b (header_ending r at h) (header_ending r at (with_tpid b h))
  unfolding header_ending
  header_alike =
      let n = first_of (arrival_checks at.address h.fields) in
      else_alike h.fields.tpid b (eqb n 0) n (ruled_ending r at h) (ruled_ending r at (with_tpid b h)) ruled_ending_alike

module _ (port second : ℕ) (s t : List ℕ) (room : ℕ) (h k : Header) (hs : read_of s ≡ Good h) (kt : read_of t ≡ Good k) (same : SameButTpid h k) where
  page_alike : (r : Relay) → SameButLocal h.fields.tpid k.fields.tpid (ending_of r port second s room) (ending_of r port second t room)
  unfolding ending_of
  page_alike r =
      let n = first_of (call_checks r port second room) in
      let at = arrival_at r port in
      rw (hs, kt ∙ ap Good same)
      (else_alike h.fields.tpid k.fields.tpid (eqb n 0) n (header_ending r at h) (header_ending r at (with_tpid k.fields.tpid h))
      (header_alike r at h k.fields.tpid))

  module _ (seat : Seat) (rs : List Record) where
    long_or_not : (t : Bool) (e f : Ending) → SameButLocal h.fields.tpid k.fields.tpid e f
        → SameButLocal h.fields.tpid k.fields.tpid (pick t (refused_by 21) e) (pick t (refused_by 21) f)
    long_or_not true e f alike = refused_alike h.fields.tpid k.fields.tpid 21
    long_or_not false e f alike = alike

    -- Two datagrams whose headers differ in the TP-ID alone end alike but for the local half.
    pub transport_alone : SameButLocal h.fields.tpid k.fields.tpid (heard_by seat rs port second s room) (heard_by seat rs port second t room)
    transport_alone =
        rw (heard_is seat rs port second s room (too_long rs) refl, heard_is seat rs port second t room (too_long rs) refl)
        (long_or_not (too_long rs) _ _ (page_alike (relay_with seat rs)))

    -- What is remembered of both is the same, ..
    pub remembers_the_same : memory_by seat rs port second s room ≡ memory_by seat rs port second t room
    unfolding heard_memory memory_of header_memory flood_of pair_of
    remembers_the_same = rw (hs, kt ∙ ap Good same)

    -- .. and they leave the same: the entries of both go to the same ports and have the same precedence.
    pub leaves_the_same : (slot : Slot)
        → received_relay (relay_in seat) slot (heard_by seat rs port second s room) ≡ received_relay (relay_in seat) slot (heard_by seat rs port second t room)
    unfolding received_relay
    leaves_the_same slot =
        ap₂ (λ (took precedence : ℕ). entered_all (relay_in seat) took (record { slot = slot; precedence = precedence }) port_count)
        transport_alone.took transport_alone.precedence
