-- What receiving gathers of the ports in one walk, as the table's tests of a port's number. Assumes nothing.
use native.Mathlib.Omega.{arith}
use Prim.Native.Nat.{ℕ, ◌/◌, ◌^◌, ◌<◌}
use mathlib.Core.Path.{◌≡◌, refl, sym, ap, ap₂, ◌∙◌}
use mathlib.Core.Bool.{Bool, true, false, not, ◌&&◌, ◌||◌, and-true, or-false}
use lib.Dec.{eqb}
use borrow.Author.Tests.{lt-ltb}
use Rattle.checks.specs.Order.{pick}
use Rattle.sets.specs.Sets.{in_set, only_port}
use Rattle.sets.proofs.Loops.{port_set_below}
use Rattle.address.specs.Octets.{dotted}
use Rattle.address.specs.Class.{between, family_of}
use Rattle.address.specs.declared.Address.{Address}
use Rattle.address.specs.declared.Family.{Family}
use Rattle.address.specs.declared.Family.TheVariants as family
use Rattle.networks.specs.Networks.{in_net10, subnet_broadcast, broadcast_in, class_broadcast}
use Rattle.meaning.specs.declared.Aim.{Aim}
use Rattle.meaning.specs.declared.Aim.TheVariants.{Node, Path, Uncarried}
use Rattle.records.specs.SetUp.{is_set_up}
use Rattle.records.specs.declared.Port.{Port}
use Rattle.state.specs.Relay.{Relay, port_in, queue_in, among_ports, port_set_up}
use Rattle.survey.specs.Survey.{broadcast_is, own_broadcast, is_addressed, is_broadcast, in_domain, is_fitting, is_full, ports_below, survey_below, survey_of}
use Rattle.survey.specs.declared.Sought.{Sought}
use Rattle.verdict.specs.Rule.{except_by}
use Rattle.verdict.specs.declared.Survey.{Survey}
use Rattle.judge.specs.Ruling.{destination_asked}
use Rattle.page.specs.Table.{Ports, some_port, destination_is, equals_port, ends_net, broadcast_of, broadcast_of_ours, other_ports, has_room}
use Rattle.survey.proofs.Bits.{in_except, in_gathered}
use Rattle.page.proofs.Sets.{empty_is, only_is}

-- ---- a broadcast of ours

-- by the family of the port's first octet
abbrev is_scps : Family → Bool
is_scps (family.Net hosts) = false
is_scps family.Scps = true
is_scps family.Multicast = false
is_scps family.Invalid = false

in_family : (f : Family) (own : ℕ) (d : Address)
    → broadcast_is (broadcast_in f own) d ≡ (ends_net f own d.0 || (is_scps f && eqb (dotted 10 255 255 255) d.0))
unfolding broadcast_in
in_family (family.Net hosts) own d = sym (or-false _)
in_family family.Scps own d = refl
in_family family.Multicast own d = refl
in_family family.Invalid own d = refl

-- the first octet 10 is the SCPS family's alone
scps_ten : (first : ℕ) → is_scps (family_of first) ≡ eqb first 10
unfolding family_of
scps_ten first = by (eqb first 10) (between 1 126 first) (between 128 191 first) (between 192 223 first) (between 224 239 first)
  where
    by : (t a b c d : Bool)
        → is_scps (pick t family.Scps (pick a (family.Net (2 ^ 24)) (pick b (family.Net (2 ^ 16)) (pick c (family.Net (2 ^ 8)) (pick d family.Multicast family.Invalid))))) ≡ t
    by true a b c d = refl
    by false true b c d = refl
    by false false true c d = refl
    by false false false true d = refl
    by false false false false true = refl
    by false false false false false = refl

or_swap : (s e t : Bool) → (s || (e || t)) ≡ (e || s || t)
or_swap true true t = refl
or_swap true false t = refl
or_swap false true t = refl
or_swap false false t = refl

pub broadcast_is_lem : (own : Port) (d : Address) → own_broadcast own d ≡ broadcast_of own d
unfolding own_broadcast broadcast_of class_broadcast
broadcast_is_lem own d =
    let v = own.address.0 in
    let subnet = eqb (subnet_broadcast own.address own.mask).0 d.0 in
    let net = ends_net (family_of (v / 2 ^ 24)) v d.0 in
    let all = eqb (dotted 10 255 255 255) d.0 in
    ap (λ (t : Bool). subnet || t) (in_family (family_of (v / 2 ^ 24)) v d ∙ ap (λ (t : Bool). net || (t && all)) (scps_ten (v / 2 ^ 24)))
    ∙ or_swap subnet net (in_net10 own.address && all)

-- ---- the sets
module _ (r : Relay) where
  set_up_is : (p : ℕ) → p < 8 → is_set_up (port_in r p) ≡ port_set_up r p
  unfolding among_ports
  set_up_is p l = simp (lt-ltb p 8 l)

  pub gathered : (test : Ports) (p : ℕ) → p < 8 → in_set p (ports_below r test 8) ≡ (port_set_up r p && test p)
  gathered test p l = in_gathered (λ (i : ℕ). is_set_up (port_in r i) && test i) p 8 l ∙ ap (λ (t : Bool). t && test p) (set_up_is p l)

  pub small : (test : Ports) → ports_below r test 8 < 256
  small test = port_set_below (λ (i : ℕ). is_set_up (port_in r i) && test i) 8

  -- none is gathered exactly where no port that is set up passes
  gathered_none : (test test' : Ports) → ((p : ℕ) → test p ≡ test' p)
      → eqb (ports_below r test 8) 0 ≡ not (some_port (λ (p : ℕ). port_set_up r p && test' p))
  gathered_none test test' same =
      empty_is (ports_below r test 8) (λ (p : ℕ). port_set_up r p && test' p) (small test) λ p l.
      gathered test p l ∙ ap (λ (t : Bool). port_set_up r p && t) (same p)

  addressed_is : (x : Aim) (own : Address) → is_addressed own (destination_asked x) ≡ destination_is x (λ a. eqb own.0 a.0)
  addressed_is (Node a) own = refl
  addressed_is (Path x) own = refl
  addressed_is Uncarried own = refl

  ours_is : (x : Aim) (own : Port) → is_broadcast own (destination_asked x) ≡ destination_is x (broadcast_of own)
  ours_is (Node a) own = broadcast_is_lem own a
  ours_is (Path x) own = refl
  ours_is Uncarried own = refl

  module _ (x : Aim) (q : Sought) where
    abbrev survey : Survey
    survey = survey_of r (destination_asked x) q

    -- "the destination equals any port's address"
    pub addressed_none : eqb survey.addressed 0 ≡ not (equals_port r x)
    unfolding survey_below equals_port
    addressed_none = gathered_none _ _ (λ p. addressed_is x (port_in r p).address)

    -- "is a broadcast of ours"
    pub broadcast_none : eqb survey.broadcast 0 ≡ not (broadcast_of_ours r x)
    unfolding survey_below broadcast_of_ours
    broadcast_none = gathered_none _ _ (λ p. ours_is x (port_in r p))

    module _ (p : ℕ) (l : p < 8) where
      pub ready_in : in_set p survey.ready ≡ port_set_up r p
      unfolding survey_below
      ready_in = gathered (λ (i : ℕ). true) p l ∙ and-true (port_set_up r p)

      pub domain_in : in_set p survey.domain ≡ (port_set_up r p && in_domain (port_in r p) q)
      unfolding survey_below
      domain_in = gathered (λ (i : ℕ). in_domain (port_in r i) q) p l

      pub fitting_in : in_set p survey.fitting ≡ (port_set_up r p && is_fitting (port_in r p) q)
      unfolding survey_below
      fitting_in = gathered (λ (i : ℕ). is_fitting (port_in r i) q) p l

      pub full_in : in_set p survey.full ≡ (port_set_up r p && not (has_room r p))
      unfolding survey_below
      full_in = gathered (λ (i : ℕ). is_full (queue_in r i).count) p l

      -- "all other set-up ports"
      pub others_in : (at : ℕ) → in_set p (except_by survey.ready (only_port at)) ≡ other_ports r at p
      others_in at = in_except p _ (only_port at) ∙ ap₂ (λ (s t : Bool). s && not t) ready_in (only_is p at l)

    pub domain_small : survey.domain < 256
    unfolding survey_below
    domain_small = small (λ (i : ℕ). in_domain (port_in r i) q)

    pub fitting_small : survey.fitting < 256
    unfolding survey_below
    fitting_small = small (λ (i : ℕ). is_fitting (port_in r i) q)

    ready_small : survey.ready < 256
    unfolding survey_below
    ready_small = small (λ (i : ℕ). true)

    -- "if there are none"
    pub others_none : (at : ℕ) → eqb (except_by survey.ready (only_port at)) 0 ≡ not (some_port (other_ports r at))
    others_none at = empty_is _ (other_ports r at) (omega (arith, ready_small)) (λ p l. others_in p l at)
