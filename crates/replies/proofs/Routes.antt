-- No route is read but by the search: what is known before it, and what becomes of the reply by the way that it found, are the same with any routes. Assumes
-- nothing.
use Rattle.std.specs.Prelude.{Option, Some, None}
use Prim.Native.Nat.{ℕ}
use mathlib.Core.Path.{◌≡◌, refl, ap}
use mathlib.Core.List.{List}
use lib.Dec.{eqb}
use Rattle.checks.specs.Order.{pick, first_of}
use Rattle.address.specs.declared.Address.{Address}
use Rattle.header.specs.Onward.{found_of, Found}
use Rattle.header.specs.declared.Header.{Header}
use Rattle.header.specs.declared.Renewal.{Renewal}
use Rattle.checks.specs.Told.{Good, Refused}
use Rattle.meaning.specs.Names.{aim_of}
use Rattle.meaning.specs.Arrival.{arrival_checks}
use Rattle.meaning.specs.declared.Aim.{Aim}
use Rattle.meaning.specs.declared.Aim.TheVariants as aim
use Rattle.routes.specs.declared.Route.{Route}
use Rattle.state.specs.Relay.{Relay, all_routes, port_in}
use Rattle.survey.specs.Survey.{named_of, survey_within}
use Rattle.lookup.specs.Lookup.{group_place, path_place}
use Rattle.lookup.specs.ForTarget.{place_for}
use Rattle.verdict.specs.declared.Place.{Place}
use Rattle.verdict.specs.declared.Target.{Target}
use Rattle.verdict.specs.declared.Target.TheVariants as target
use Rattle.verdict.specs.declared.Way.{Way}
use Rattle.judge.specs.Ruling.{target_asked}
use Rattle.judge.specs.Ending.{arrival_at}
use Rattle.judge.specs.Asked.{else_asked, header_asked, node_asked, path_asked, aim_asked, carried_asked, octets_asked}
use Rattle.judge.specs.declared.ruling.Arrival.{Arrival}
use Rattle.judge.specs.declared.Asked.{Asked}
use Rattle.replies.specs.Reply.{no_answer}
use Rattle.replies.specs.Replied.{call_checks, heard_answer, answering_of, no_reply, replied_via, replied_to}
use Rattle.replies.specs.declared.Answering.{Answering}
use Rattle.replies.specs.declared.sending.Replied.{Replied}

module _ (r : Relay) (rs : List Route) where
  abbrev full : Relay
  full = all_routes r rs

  -- ---- before the search
  place_same : (t : Target) (a : Address) (arrival : ℕ) → place_for full t a arrival ≡ place_for r t a arrival
  unfolding group_place
  place_same target.Here a arrival = refl
  place_same target.Broadcast a arrival = refl
  place_same target.Group a arrival = refl
  place_same target.Path a arrival = refl
  place_same target.Route a arrival = refl

  aim_same : (number : ℕ) (at : Arrival) (h : Header) (c : Renewal) (x : Aim) → aim_asked full number at h c x ≡ aim_asked r number at h c x
  unfolding aim_asked node_asked path_asked path_place
  aim_same number at h c (aim.Node a) =
      ap (λ (p : Option Place). header_asked r number at h c (aim.Node a) (target_asked r a) p (named_of r.ports a).ready) (place_same (target_asked r a) a at.set)
  aim_same number at h c (aim.Path p) = refl
  aim_same number at h c aim.Uncarried = refl

  pub asked_routes : (number : ℕ) (at : Arrival) (x : Found) → octets_asked full number at x ≡ octets_asked r number at x
  unfolding carried_asked
  asked_routes number at (Good (h, c)) =
      ap (else_asked (first_of (arrival_checks at.address h.fields))) (aim_same number at h c (aim_of at.address.0 h.fields.addresses))
  asked_routes number at (Refused n) = refl

  pub answering_routes : (number dropping port : ℕ) (octets : List ℕ) (room : ℕ)
      → answering_of full number dropping port octets room ≡ answering_of r number dropping port octets room
  unfolding answering_of call_checks
  answering_routes number dropping port octets room =
      ap
      (λ (a : Asked). pick (eqb (first_of (call_checks r port room)) 0) (heard_answer r dropping a (port_in r port).mtu octets) (no_answer (first_of (call_checks r port room))))
      (asked_routes number (arrival_at r port) (found_of octets))

  -- ---- after it
  pub replied_routes : (a : Answering) (w : Option Way) (room : ℕ) → replied_via full a w room ≡ replied_via r a w room
  unfolding survey_within
  replied_routes a None room = refl
  replied_routes a (Some way) room = refl

  pub ended_routes : (a : Answering) (w : Option Way) (room : ℕ) → replied_to full a w room ≡ replied_to r a w room
  unfolding replied_to
  ended_routes a w room = ap (λ (e : Replied). pick (eqb a.made 0) (no_reply a.refusal) e) (replied_routes a w room)
