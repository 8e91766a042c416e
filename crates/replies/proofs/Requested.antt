-- What the laws here need of the request that a reply was made to: its header, which is carried and has a source, and the node that it is aimed at. That is
-- not all that is asked of it: which requests are answered, and no others, `RequestAnswered` of crate page says, in the page's words. Assumes nothing.
use native.Mathlib.Omega.{arith}
use Prim.Native.Nat.{ℕ}
use mathlib.Core.Path.{◌≡◌, refl, sym, ap, subst, ◌∙◌}
use mathlib.Core.Bool.{Bool, true, false, not}
use mathlib.Core.List.{List}
use lib.Dec.{eqb}
use borrow.Author.Tests.{eqb-true, eq-eqb}
use Rattle.checks.specs.Order.{pick, first_of}
use Rattle.checks.proofs.Bools.{true_false, and_true}
use Rattle.checks.proofs.Laws.{zero_none}
use Rattle.address.specs.declared.Address.{Address}
use Rattle.header.specs.Read.{read_of, Read}
use Rattle.header.specs.Build.{source_flag}
use Rattle.header.specs.Onward.{found_of, Found}
use Rattle.header.specs.declared.Addresses.{Addresses}
use Rattle.header.specs.declared.Addresses.TheVariants.{BasicPath, ExtendedPath, BasicEndSystem, ExtendedEndSystem, Ipv6}
use Rattle.header.specs.declared.Fields.{Fields}
use Rattle.header.specs.declared.Header.{Header}
use Rattle.checks.specs.Told.{Good, Refused}
use Rattle.header.specs.declared.Renewal.{Renewal}
use Rattle.header.proofs.FoundLaws.{found_good, found_refused}
use Rattle.header.proofs.Refusals.{never_zero}
use Rattle.meaning.specs.Arrival.{arrival_checks}
use Rattle.meaning.specs.Flood.{is_flooded}
use Rattle.meaning.specs.Names.{aim_of, bad_aim}
use Rattle.meaning.specs.declared.Aim.TheVariants as aim
use Rattle.state.specs.Relay.{Relay, port_in}
use Rattle.verdict.specs.Rule.{local_of}
use Rattle.judge.specs.Ending.{arrival_at}
use Rattle.judge.specs.Asked.{refused_asked, else_asked, node_asked, aim_asked, carried_asked, octets_asked}
use Rattle.judge.specs.declared.ruling.Arrival.{Arrival}
use Rattle.judge.specs.declared.Asked.{Asked}
use Rattle.judge.proofs.Took.{octets_read}
use Rattle.replies.specs.Request.{is_delivered, scmp, asks_in_header}
use Rattle.replies.specs.Reply.{is_asked}
use Rattle.replies.specs.Replied.{destination_survey}
use Rattle.replies.proofs.Answered.{asked_free}
use Rattle.replies.proofs.Made.{WasMade}

-- octets that came in by this port
pub record Requested (r : Relay) (port : ℕ) (octets : List ℕ) : Type 0 where
  -- they read as a datagram, and page 01's steps 4 to 6 do not refuse it
  pub header : Header
  pub reads : read_of octets ≡ Good header
  pub carried : first_of (arrival_checks (port_in r port).address header.fields) ≡ 0
  -- it has a source, and names a node
  pub source : source_flag header.fields.addresses ≡ 1
  pub destination : Address
  pub aimed : aim_of (port_in r port).address.0 header.fields.addresses ≡ aim.Node destination

-- ---- what is read
abbrev header_in : Header → Read → Header
header_in d (Good h) = h
header_in d (Refused n) = d

abbrev is_good : Read → Bool
is_good (Good h) = true
is_good (Refused n) = false

-- a header with a source that is not refused is aimed at a node
node_aimed : (port : ℕ) (a : Addresses) → source_flag a ≡ 1 → bad_aim (aim_of port a) ≡ false → (d : Address) × (aim_of port a ≡ aim.Node d)
unfolding aim_of
node_aimed port (BasicPath z) source good = absurd (omega (arith, source))
node_aimed port (ExtendedPath p) source good = absurd (omega (arith, source))
node_aimed port (BasicEndSystem d s) source good = (_, refl)
node_aimed port (ExtendedEndSystem d s) source good = (_, refl)
node_aimed port (Ipv6 d s) source good = true_false good

source_one : (a : Addresses) → not (eqb (source_flag a) 0) ≡ true → source_flag a ≡ 1
source_one (BasicPath z) h = true_false (sym h)
source_one (ExtendedPath p) h = true_false (sym h)
source_one (BasicEndSystem d s) h = refl
source_one (ExtendedEndSystem d s) h = refl
source_one (Ipv6 d s) h = refl

asks_sourced : (f : Fields) → asks_in_header f ≡ true → source_flag f.addresses ≡ 1
unfolding asks_in_header
asks_sourced f h =
    let a = and_true (eqb f.tpid scmp) _ h in
    let b = and_true (not (is_flooded f)) _ a.1 in
    source_one f.addresses (and_true (not (eqb (source_flag f.addresses) 0)) _ b.1).0

module _ (r : Relay) (number dropping port : ℕ) (octets : List ℕ) (room : ℕ) where
  abbrev at : Arrival
  at = arrival_at r port

  abbrev all : Asked
  all = octets_asked r number at (found_of octets)

  -- ---- a reply that is made was asked for
  refused_some : (n : ℕ) (a : Asked) → (else_asked n a).refusal ≡ 0 → n ≡ 0
  refused_some n a k = by (eqb n 0) refl k
    where
      by : (t : Bool) → eqb n 0 ≡ t → (pick t a (refused_asked n)).refusal ≡ 0 → n ≡ 0
      by true e j = eqb-true n 0 e
      by false e j = j

  good_header : (h : Header) (n : Renewal) → (carried_asked r number at h n).refusal ≡ 0 → first_of (arrival_checks at.address h.fields) ≡ 0
  unfolding carried_asked
  good_header h n k =
      refused_some (first_of (arrival_checks at.address h.fields)) (aim_asked r number at h n (aim_of at.address.0 h.fields.addresses)) k

  source_told : is_asked dropping all (destination_survey r all) ≡ true → source_flag all.header.fields.addresses ≡ 1
  unfolding is_asked
  source_told asks =
      let free = and_true (eqb all.refusal 0) _ asks in
      let on = and_true (eqb dropping 0) _ free.1 in
      let local = and_true (is_delivered (local_of all.target all.place all.case)) _ on.1 in
      asks_sourced all.header.fields (and_true (asks_in_header all.header.fields) _ local.1).0

  module _ (w : WasMade r number dropping port octets room) where
    zero : all.refusal ≡ 0
    zero = asked_free dropping all (destination_survey r all) w.is_asked

    by_found : (x : Found) → found_of octets ≡ x → Requested r port octets
    by_found (Good (h, n)) e =
        let cs = arrival_checks at.address h.fields in
        let good = good_header h n (ap (λ (x : Found). (octets_asked r number at x).refusal) (sym e) ∙ zero) in
        let read = octets_read r number at octets (found_of octets) refl zero in
        let same : all.header ≡ h = ap (header_in h) (sym read.read ∙ (found_good octets h n e).0) in
        let sourced = subst (λ (x : Header). source_flag x.fields.addresses ≡ 1) same (source_told w.is_asked) in
        let none = zero_none cs ((λ z. omega arith), ((λ z. omega arith), ((λ z. omega arith), ((λ z. omega arith), ((λ z. omega arith), tt))))) good in
        let d = node_aimed at.address.0 h.fields.addresses sourced none.1.1.0 in
        record { header = h; reads = (found_good octets h n e).0; carried = good; source = sourced; destination = d.0; aimed = d.1 }
    by_found (Refused m) e =
        absurd (never_zero octets (found_refused octets m e ∙ ap Refused (ap (λ (x : Found). (octets_asked r number at x).refusal) (sym e) ∙ zero)))

    pub made_requested : Requested r port octets
    made_requested = by_found (found_of octets) refl

  -- ---- what is then asked
  module _ (y : Requested r port octets) where
    by_read : (x : Found) → found_of octets ≡ x → (n : Renewal) × (found_of octets ≡ Good (y.header, n))
    by_read (Good (h, n)) e = (n, e ∙ ap (λ (k : Header). Good (k, n)) (ap (header_in h) (sym (found_good octets h n e).0 ∙ y.reads)))
    by_read (Refused m) e = true_false (sym (ap is_good (sym (found_refused octets m e) ∙ y.reads)))

    pub requested_asked : (n : Renewal) × (all ≡ node_asked r number at y.header n y.destination)
    unfolding carried_asked aim_asked
    requested_asked =
        let h = y.header in
        let x = by_read (found_of octets) refl in
        let cs = arrival_checks at.address h.fields in
        let aims = aim_of at.address.0 h.fields.addresses in (
          x.0,
          ap (octets_asked r number at) x.1
              ∙ ap (λ (t : Bool). pick t (aim_asked r number at h x.0 aims) (refused_asked (first_of cs))) (eq-eqb (first_of cs) 0 y.carried)
              ∙ ap (aim_asked r number at h x.0) y.aimed,
        )
