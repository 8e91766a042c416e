-- Where a route is sought, what is asked has the mission's number and the set of its ports that are set up: what a search of the list asks for.
-- Assumes nothing.
use Prim.Native.Nat.{ℕ, zero, suc, ◌+◌, ◌^◌}
use mathlib.Core.Path.{◌≡◌, refl, sym, ap₂}
use mathlib.Core.Bool.{Bool, true, false, ◌&&◌}
use mathlib.Core.List.{List}
use lib.Dec.{eqb}
use lib.ListN.{get_or}
use Rattle.checks.specs.Order.{pick, first_of}
use Rattle.checks.proofs.Bools.{true_false}
use Rattle.header.specs.Onward.{found_of, Found}
use Rattle.header.specs.declared.Header.{Header}
use Rattle.header.specs.declared.Renewal.{Renewal}
use Rattle.checks.specs.Told.{Good, Refused}
use Rattle.meaning.specs.Names.{aim_of}
use Rattle.meaning.specs.Arrival.{arrival_checks}
use Rattle.meaning.specs.declared.Aim.{Aim}
use Rattle.meaning.specs.declared.Aim.TheVariants as aim
use Rattle.address.specs.declared.Address.{Address}
use Rattle.records.specs.Fresh.{fresh_port}
use Rattle.records.specs.SetUp.{is_set_up}
use Rattle.records.specs.declared.Port.{Port}
use Rattle.sets.specs.Sets.{port_set}
use Rattle.state.specs.Relay.{Relay, ready_of}
use Rattle.verdict.specs.declared.Flood.{Flood}
use Rattle.verdict.specs.declared.Flood.TheVariants.{Plain, Unsent, Full, New}
use Rattle.verdict.specs.declared.Target.TheVariants as target
use Rattle.floods.specs.Memory.{flood_of}
use Rattle.survey.specs.Survey.{named_below, named_of}
use Rattle.judge.specs.Ending.{call_checks, arrival_at}
use Rattle.judge.specs.Asked.{searched_in, unless_flood, refused_asked, else_asked, node_asked, path_asked, aim_asked, carried_asked, octets_asked, datagram_asked}
use Rattle.judge.specs.declared.ruling.Arrival.{Arrival}
use Rattle.judge.specs.declared.Asked.{Asked}

-- ---- the ports set up
and_true : (t : Bool) → (t && true) ≡ t
and_true true = refl
and_true false = refl

all_ready : (ports : List Port) (n : ℕ)
    → port_set (λ (p : ℕ). is_set_up (get_or ports p fresh_port) && true) n ≡ port_set (λ (p : ℕ). is_set_up (get_or ports p fresh_port)) n
all_ready ports zero = refl
all_ready ports (suc n) =
    ap₂ (λ (s : ℕ) (t : Bool). s + pick t (2 ^ n) 0) (all_ready ports n) (and_true (is_set_up (get_or ports n fresh_port)))

pub named_ready : (ports : List Port) (a : Address) → (named_of ports a).ready ≡ ready_of ports
unfolding named_below ready_of
named_ready ports a = all_ready ports 8

-- whatever the pairs say, nothing is sought where nothing would be
none_sought : (f : Flood) → unless_flood f false ≡ true → ⊥
none_sought Plain e = true_false (sym e)
none_sought Unsent e = true_false (sym e)
none_sought Full e = true_false (sym e)
none_sought (New place) e = true_false (sym e)

-- ---- what is asked
module _ (r : Relay) (number : ℕ) where
  abbrev pub Asks : Asked → Type 0
  Asks a = (a.number ≡ number) × (a.ready ≡ ready_of r.ports)

  -- a refusal seeks nothing
  refused_asks : (n : ℕ) → searched_in (refused_asked n) ≡ true → Asks (refused_asked n)
  refused_asks n h = by_number (eqb n 0) h
    where
      by_number : (t : Bool) {X : Type 0} → (t && false) ≡ true → X
      by_number true e = true_false (sym e)
      by_number false e = true_false (sym e)

  else_asks : (n : ℕ) (a : Asked) → (searched_in a ≡ true → Asks a) → searched_in (else_asked n a) ≡ true → Asks (else_asked n a)
  else_asks n a k h = by_number (eqb n 0) h
    where
      by_number : (t : Bool) → searched_in (pick t a (refused_asked n)) ≡ true → Asks (pick t a (refused_asked n))
      by_number true e = k e
      by_number false e = refused_asks n e

  aim_asks : (at : Arrival) (h : Header) (c : Renewal) (x : Aim) → searched_in (aim_asked r number at h c x) ≡ true → Asks (aim_asked r number at h c x)
  unfolding aim_asked node_asked path_asked
  aim_asks at h c (aim.Node a) e = (refl, named_ready r.ports a)
  aim_asks at h c (aim.Path p) e = absurd (none_sought (flood_of r.router target.Path r.memory at.address.0 h.fields) e)
  aim_asks at h c aim.Uncarried e = refused_asks 6 e

  header_asks : (at : Arrival) (h : Header) (c : Renewal) → searched_in (carried_asked r number at h c) ≡ true → Asks (carried_asked r number at h c)
  unfolding carried_asked
  header_asks at h c e =
      let x = aim_of at.address.0 h.fields.addresses in
      else_asks (first_of (arrival_checks at.address h.fields)) (aim_asked r number at h c x) (aim_asks at h c x) e

  octets_asks : (at : Arrival) (x : Found) → searched_in (octets_asked r number at x) ≡ true → Asks (octets_asked r number at x)
  octets_asks at (Good (h, c)) e = header_asks at h c e
  octets_asks at (Refused n) e = refused_asks n e

  pub search_asks : (port second : ℕ) (octets : List ℕ) (room : ℕ)
      → searched_in (datagram_asked r number port second octets room) ≡ true → Asks (datagram_asked r number port second octets room)
  unfolding datagram_asked
  search_asks port second octets room e =
      else_asks (first_of (call_checks r port second room)) (octets_asked r number (arrival_at r port) (found_of octets))
      (octets_asks (arrival_at r port) (found_of octets)) e
