-- Where a reply is made, what is asked of the list has the mission's number and the set of its ports that are set up. Assumes nothing.
use Rattle.std.specs.Prelude.{Option}
use Prim.Native.Nat.{ℕ}
use mathlib.Core.Path.{◌≡◌, refl, sym, subst, subst⁻¹}
use mathlib.Core.Logic.{◌≢◌}
use mathlib.Core.Bool.{Bool, true, false, not, ◌&&◌}
use mathlib.Core.List.{List}
use lib.Dec.{eqb}
use borrow.Author.Tests.{eq-eqb}
use Rattle.checks.specs.Order.{pick, first_of}
use Rattle.checks.proofs.Bools.{true_false, and_true}
use Rattle.header.specs.Build.{source_flag}
use Rattle.header.specs.Onward.{found_of, Found}
use Rattle.header.specs.declared.Addresses.{Addresses}
use Rattle.header.specs.declared.Addresses.TheVariants.{BasicPath, ExtendedPath, BasicEndSystem, ExtendedEndSystem, Ipv6}
use Rattle.header.specs.declared.Header.{Header}
use Rattle.header.specs.declared.Renewal.{Renewal}
use Rattle.checks.specs.Told.{Good, Refused}
use Rattle.meaning.specs.Names.{filled_in, aim_of}
use Rattle.meaning.specs.Arrival.{arrival_checks}
use Rattle.meaning.specs.Flood.{is_flooded}
use Rattle.next_leg.specs.Leg.{is_absent}
use Rattle.state.specs.Relay.{Relay, ready_of}
use Rattle.verdict.specs.Rule.{local_of}
use Rattle.verdict.specs.declared.Survey.{Survey}
use Rattle.verdict.specs.declared.Way.{Way}
use Rattle.judge.specs.Ending.{arrival_at}
use Rattle.judge.specs.Asked.{address_in, refused_asked, else_asked, node_asked, path_asked, aim_asked, carried_asked, octets_asked}
use Rattle.judge.specs.declared.ruling.Arrival.{Arrival}
use Rattle.judge.specs.declared.Asked.{Asked}
use Rattle.judge.proofs.Searching.{Asks, named_ready}
use Rattle.replies.specs.Request.{is_delivered, scmp, asks_in_header, is_to_many}
use Rattle.replies.specs.Reply.{is_asked}
use Rattle.replies.specs.Replied.{destination_survey, answering_of, replied_to}
use Rattle.replies.specs.declared.Answering.{Answering}
use Rattle.replies.proofs.Made.{was_made}

-- ---- a header with a source asks the search of its mission
abbrev Sourced : Asked → Type 0
Sourced a = not (eqb (source_flag a.header.fields.addresses) 0) ≡ true

third : (a b c d : Bool) → (a && (b && (c && d))) ≡ true → c ≡ true
third a b c d h = (and_true c d (and_true b (c && d) (and_true a (b && (c && d)) h).1).1).0

fourth : (a b c d e : Bool) → (a && (b && (c && (d && e)))) ≡ true → d ≡ true
fourth a b c d e h = third b c d e (and_true a (b && (c && (d && e))) h).1

has_source_lem : (dropping : ℕ) (a : Asked) (s : Survey) → is_asked dropping a s ≡ true → Sourced a
unfolding is_asked asks_in_header
has_source_lem dropping a s h =
    let f = a.header.fields in
    third (eqb f.tpid scmp) (not (is_flooded f)) (not (eqb (source_flag f.addresses) 0)) (not (is_absent f.hops))
    (fourth (eqb a.refusal 0) (eqb dropping 0) (is_delivered (local_of a.target a.place a.case)) (asks_in_header f)
    (not (is_to_many s (record { 0 = address_in a.destination }))) h)

module _ (r : Relay) (number : ℕ) where
  else_asks : (n : ℕ) (a : Asked) → (Sourced a → Asks r number a) → Sourced (else_asked n a) → Asks r number (else_asked n a)
  else_asks n a k h = by_number (eqb n 0) h
    where
      by_number : (t : Bool) → Sourced (pick t a (refused_asked n)) → Asks r number (pick t a (refused_asked n))
      by_number true e = k e
      by_number false e = true_false (sym e)

  -- a path has no source, and IPv6 is not carried
  module _ (at : Arrival) (h : Header) (c : Renewal) (port : ℕ) where
    no_path : (v : Addresses) → source_flag v ≡ 0 → h.fields.addresses ≡ v → not (eqb (source_flag h.fields.addresses) 0) ≡ true → ⊥
    no_path v zero e sourced =
        true_false (sym (subst (λ (n : ℕ). not (eqb n 0) ≡ true) zero (subst (λ (x : Addresses). not (eqb (source_flag x) 0) ≡ true) e sourced)))

    aim_asks : (v : Addresses) → h.fields.addresses ≡ v → Sourced (aim_asked r number at h c (aim_of port v))
        → Asks r number (aim_asked r number at h c (aim_of port v))
    unfolding aim_asked node_asked path_asked aim_of
    aim_asks (BasicPath z) e s = absurd (no_path (BasicPath z) refl e s)
    aim_asks (ExtendedPath p) e s = absurd (no_path (ExtendedPath p) refl e s)
    aim_asks (BasicEndSystem z from) e s = (refl, named_ready r.ports (record { 0 = filled_in port z }))
    aim_asks (ExtendedEndSystem d from) e s = (refl, named_ready r.ports d)
    aim_asks (Ipv6 d from) e s = true_false (sym s)

  octets_asks : (at : Arrival) (x : Found) → Sourced (octets_asked r number at x) → Asks r number (octets_asked r number at x)
  unfolding carried_asked
  octets_asks at (Good (h, c)) s =
      else_asks (first_of (arrival_checks at.address h.fields)) (aim_asked r number at h c (aim_of at.address.0 h.fields.addresses))
      (aim_asks at h c at.address.0 h.fields.addresses refl) s
  octets_asks at (Refused n) s = true_false (sym s)

  -- ---- and so does the reply to it
  abbrev pub Searches : Answering → Type 0
  Searches a = (a.made ≡ 1) × ((a.number ≡ number) × (a.ready ≡ ready_of r.ports))

  pub searches : (dropping port : ℕ) (octets : List ℕ) (room : ℕ) → (answering_of r number dropping port octets room).made ≢ 0
      → Searches (answering_of r number dropping port octets room)
  searches dropping port octets room some =
      let w = was_made r number dropping port octets room some in
      let a = octets_asked r number (arrival_at r port) (found_of octets) in
      let asks = octets_asks (arrival_at r port) (found_of octets) (has_source_lem dropping a (destination_survey r a) w.is_asked) in
      subst⁻¹ Searches w.is (refl, asks)

-- ---- where no reply is made, nothing is asked
pub none_same : (r t : Relay) (a : Answering) (w v : Option Way) (room : ℕ) → a.made ≡ 0 → replied_to r a w room ≡ replied_to t a v room
unfolding replied_to
none_same r t a w v room none = simp (eq-eqb a.made 0 none)
