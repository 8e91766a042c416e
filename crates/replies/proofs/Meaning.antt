-- What the addresses of a reply name: its destination is the system that the request named as its source, and its source the system that the request named as its
-- destination, where that is a port of ours, else the arrival port. So at the arrival port, and on the wire (page 02, W-214). Assumes nothing.
use native.Mathlib.Omega.{arith}
use Prim.Native.Nat.{ℕ, ◌%◌}
use mathlib.Core.Path.{◌≡◌, refl, sym, ap, ◌∙◌}
use mathlib.Core.Logic.{◌≢◌}
use mathlib.Core.Bool.{Bool, true, false}
use mathlib.Core.List.{List}
use Rattle.std.proofs.Common.{Option, Some}
use Rattle.checks.specs.Order.{pick}
use Rattle.checks.proofs.Bools.{true_false}
use Rattle.address.specs.declared.Address.{Address}
use Rattle.header.specs.Build.{source_flag}
use Rattle.header.specs.declared.Addresses.{Addresses}
use Rattle.header.specs.declared.Addresses.TheVariants.{BasicPath, ExtendedPath, BasicEndSystem, ExtendedEndSystem, Ipv6}
use Rattle.header.specs.declared.Renewal.{Renewal}
use Rattle.networks.specs.Networks.{domain_of}
use Rattle.meaning.specs.Names.{filled_in, aim_of, origin_of, is_bound}
use Rattle.meaning.specs.Flood.{source_in}
use Rattle.meaning.specs.declared.Aim.{Aim}
use Rattle.meaning.specs.declared.Aim.TheVariants as aim
use Rattle.next_leg.specs.Leg.{next_fields}
use Rattle.next_leg.proofs.Names.{same_aim, same_origin}
use Rattle.state.specs.Relay.{Relay, port_in}
use Rattle.survey.specs.Survey.{named_of}
use Rattle.judge.specs.Ending.{arrival_at}
use Rattle.judge.specs.Asked.{node_asked}
use Rattle.judge.specs.declared.Asked.{Asked}
use Rattle.replies.specs.Request.{is_owned}
use Rattle.replies.specs.Reply.{reply_addresses, reply_fields, made_of}
use Rattle.replies.specs.Replied.{answering_of, destination_survey, wire_fields}
use Rattle.replies.specs.declared.Answering.{Answering}
use Rattle.replies.proofs.Made.{was_made}
use Rattle.replies.proofs.Requested.{Requested, requested_asked}

-- ---- addresses turned round, at the arrival port
-- the arrival port's own address, filled in from its last octet
filled_own : (at : Address) → filled_in at.0 (at.0 % 256) ≡ at.0
filled_own at = omega arith

-- what is not carried is no node
abbrev node_in : Aim → Address
node_in (aim.Node a) = a
node_in (aim.Path p) = record { 0 = 0 }
node_in aim.Uncarried = record { 0 = 0 }

abbrev is_node : Aim → Bool
is_node (aim.Node a) = true
is_node (aim.Path p) = false
is_node aim.Uncarried = false

uncarried : {X : Type 0} (d : Address) → aim.Uncarried ≡ aim.Node d → X
uncarried d h = true_false (sym (ap is_node h))

-- a request that has a source, and names a node
module _ (at : Address) where
  turned_aim : (own : Bool) (a : Addresses) → source_flag a ≡ 1 → (d : Address) → aim_of at.0 a ≡ aim.Node d
      → (s : Address) × ((origin_of at.0 a ≡ Some s) × (aim_of at.0 (reply_addresses at own a) ≡ aim.Node s))
  unfolding aim_of origin_of
  turned_aim own (BasicPath z) source d e = absurd (omega (arith, source))
  turned_aim own (ExtendedPath p) source d e = absurd (omega (arith, source))
  turned_aim own (BasicEndSystem x y) source d e = (_, (refl, refl))
  turned_aim own (ExtendedEndSystem x y) source d e = (_, (refl, refl))
  turned_aim own (Ipv6 x y) source d e = uncarried d e

  turned_origin : (own : Bool) (a : Addresses) → source_flag a ≡ 1 → (d : Address) → aim_of at.0 a ≡ aim.Node d
      → origin_of at.0 (reply_addresses at own a) ≡ Some (pick own d at)
  unfolding aim_of origin_of
  turned_origin own (BasicPath z) source d e = absurd (omega (arith, source))
  turned_origin own (ExtendedPath p) source d e = absurd (omega (arith, source))
  turned_origin true (BasicEndSystem x y) source d e = ap Some (ap node_in e)
  turned_origin false (BasicEndSystem x y) source d e = ap (λ (n : ℕ). Some (record { 0 = n })) (filled_own at)
  turned_origin true (ExtendedEndSystem x y) source d e = ap Some (ap node_in e)
  turned_origin false (ExtendedEndSystem x y) source d e = refl
  turned_origin own (Ipv6 x y) source d e = uncarried d e

-- they are never a path
turned_free : (at : Address) (own : Bool) (a : Addresses) → source_flag a ≡ 1 → is_bound (reply_addresses at own a) ≡ 0
turned_free at own (BasicPath z) source = absurd (omega (arith, source))
turned_free at own (ExtendedPath p) source = refl
turned_free at own (BasicEndSystem x y) source = refl
turned_free at own (ExtendedEndSystem x y) source = refl
turned_free at own (Ipv6 x y) source = refl

-- ---- a reply that is made
module _ (r : Relay) (number dropping port : ℕ) (octets : List ℕ) (room : ℕ) where
  abbrev answer : Answering
  answer = answering_of r number dropping port octets room

  abbrev at : Address
  at = (port_in r port).address

  -- the system that it comes from: the request's destination, where a port has it, else the arrival port
  abbrev pub sender : Address → Address
  sender d = pick (is_owned (named_of r.ports d)) d at

  pub record Means (y : Requested r port octets) : Type 0 where
    pub source : Address
    pub named : origin_of at.0 y.header.fields.addresses ≡ Some source
    pub to : aim_of at.0 answer.fields.addresses ≡ aim.Node source
    pub from : origin_of at.0 answer.fields.addresses ≡ Some (sender y.destination)
    pub routed : answer.destination ≡ source
    pub arrival : answer.arrival ≡ at
    pub free : is_bound answer.fields.addresses ≡ 0

  module _ (some : answer.made ≢ 0) (y : Requested r port octets) where
    -- it is made of the request's header, for the node that it is aimed at
    pub made_of_lem : (identifier : ℕ) × ((sequence : ℕ) × ((n : Renewal)
        × (answer ≡ made_of (node_asked r number (arrival_at r port) y.header n y.destination) (named_of r.ports y.destination) (port_in r port).mtu identifier sequence)))
    unfolding node_asked
    made_of_lem =
        let w = was_made r number dropping port octets room some in
        let x = requested_asked r number dropping port octets room y in
        (w.identifier, (w.sequence, (x.0, w.is ∙ ap (λ (a : Asked). made_of a (destination_survey r a) (port_in r port).mtu w.identifier w.sequence) x.1)))

    pub reply_meaning : Means y
    unfolding node_asked reply_fields
    reply_meaning =
        let is = made_of_lem.1.1.1 in
        let addresses = y.header.fields.addresses in
        let own = is_owned (named_of r.ports y.destination) in
        let t = turned_aim at own addresses y.source y.destination y.aimed in
        record {
          source = t.0;
          named = t.1.0;
          to = ap (λ (x : Answering). aim_of at.0 x.fields.addresses) is ∙ t.1.1;
          from = ap (λ (x : Answering). origin_of at.0 x.fields.addresses) is ∙ turned_origin at own addresses y.source y.destination y.aimed;
          routed = ap (λ (x : Answering). x.destination) is ∙ ap (λ (o : Option Address). record { 0 = source_in o }) t.1.0;
          arrival = ap (λ (x : Answering). x.arrival) is;
          free = ap (λ (x : Answering). is_bound x.fields.addresses) is ∙ turned_free at own addresses y.source;
        }

    -- on the wire it says the same, at a port of the arrival port's domain and, widened, at any other
    module _ (out : Address) (code : ℕ) (far : Bool) (home : far ≡ false → domain_of out ≡ domain_of at) where
      pub wire_to : aim_of out.0 (wire_fields far at.0 code answer.fields).addresses ≡ aim.Node reply_meaning.source
      unfolding wire_fields next_fields
      wire_to = same_aim out.0 at.0 code far answer.fields home (λ b. absurd (omega (arith, b, reply_meaning.free))) ∙ reply_meaning.to

      pub wire_from : origin_of out.0 (wire_fields far at.0 code answer.fields).addresses ≡ Some (sender y.destination)
      unfolding wire_fields next_fields
      wire_from = same_origin out.0 at.0 code far answer.fields home (λ b. absurd (omega (arith, b, reply_meaning.free))) ∙ reply_meaning.from
