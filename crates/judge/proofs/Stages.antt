-- The stages before the search, over plain variables. Assumes nothing.
use Rattle.std.specs.Prelude.{Option}
use native.Mathlib.Omega.{arith}
use Prim.Native.Nat.{ℕ, ◌≤◌, ◌<◌}
use mathlib.Core.Path.{◌≡◌, refl, sym, ap, ◌∙◌}
use mathlib.Core.Bool.{Bool, true, false, not}
use mathlib.Core.List.{List, [], ◌∷◌}
use lib.ListN.{get_or}
use borrow.Author.Tests.{eq-eqb, ne_eqb, lt-ltb, le-ltb}
use lib.Dec.{eqb}
use Rattle.std.proofs.Common.{Option}
use Rattle.checks.specs.Order.{pick, check_of, first_of}
use Rattle.checks.specs.declared.Check.TheVariants.{Passed, Failed}
use Rattle.checks.specs.declared.Check.{Check}
use Rattle.checks.proofs.Laws.{passed_false, failed_true}
use Rattle.checks.proofs.Steps.{holds_here, holds_not, fails_here, passes, none_left}
use Rattle.sets.specs.Sets.{only_port}
use Rattle.address.specs.Class.{class_of, class_number}
use Rattle.address.specs.Path.{path_form, path_number}
use Rattle.address.specs.declared.Address.{Address}
use Rattle.address.specs.declared.PathAddress.{PathAddress}
use Rattle.address.specs.declared.Class.{Class}
use Rattle.address.specs.declared.Class.TheVariants.{Invalid, Unicast, Multicast, NetBroadcast, DomainBroadcast, ScpsBroadcast, LimitedBroadcast}
use Rattle.address.specs.declared.PathForm.{PathForm}
use Rattle.address.specs.declared.PathForm.TheVariants as form
use Rattle.header.specs.Onward.{found_of}
use Rattle.header.specs.declared.Renewal.{Renewal}
use Rattle.header.specs.declared.Header.{Header}
use Rattle.meaning.specs.Names.{aim_of, origin_of, not_carried, no_domain, bad_class, bad_path, bad_aim, bad_source}
use Rattle.meaning.specs.Flood.{unmarked}
use Rattle.meaning.specs.Arrival.{arrival_checks}
use Rattle.meaning.specs.Asked.{precedence_asked}
use Rattle.meaning.specs.declared.Aim.{Aim}
use Rattle.meaning.specs.declared.Aim.TheVariants as aim
use Rattle.records.specs.Fresh.{fresh_port}
use Rattle.records.specs.declared.Port.{Port}
use Rattle.state.specs.Relay.{Relay, among_ports}
use Rattle.state.specs.Seen.{Board, State, ports_seen, seated}
use Rattle.survey.specs.Survey.{named_of}
use Rattle.lookup.specs.Lookup.{path_place}
use Rattle.lookup.specs.ForTarget.{place_for}
use Rattle.verdict.specs.Rule.{target_of}
use Rattle.floods.specs.Memory.{flood_of}
use Rattle.verdict.specs.declared.Target.{Target}
use Rattle.verdict.specs.declared.Target.TheVariants as target
use Rattle.verdict.specs.declared.Place.{Place}
use Rattle.verdict.specs.declared.Flood.{Flood}
use Rattle.verdict.specs.declared.Case.{Case}
use Rattle.verdict.specs.declared.Survey.{Survey}
use Rattle.judge.specs.Ruling.{case_of, destination_asked}
use Rattle.judge.specs.Ending.{output_room, call_checks}
use Rattle.judge.specs.Asked.{refused_asked, else_asked, header_asked, node_asked, path_asked, aim_asked, refused_looked, node_looked, path_looked, aim_looked, carried_asked, octets_asked, datagram_asked}
use Rattle.judge.specs.declared.ruling.Arrival.{Arrival}
use Rattle.judge.specs.declared.Looked.{Looked}
use Rattle.judge.specs.declared.Asked.{Asked}

-- ---- by a number, or by what follows
pub by_number : {n : ℕ} {e : Asked} (m : ℕ) (rest : Asked) → n ≡ m → (n ≡ 0 → ⊥) → e ≡ refused_asked n → e ≡ else_asked m rest
by_number m rest same h is = rw (← same) (simp (ne_eqb _ 0 h) is)

pub by_rest : {n : ℕ} {e : Asked} (m : ℕ) (rest : Asked) → n ≡ m → n ≡ 0 → e ≡ rest → e ≡ else_asked m rest
by_rest m rest same h is = rw (← same) (simp (eq-eqb _ 0 h) is)

-- ---- an end system's address or a group's
class_bad : (c : Class) → (c ≡ Invalid → ⊥) → eqb (class_number c) 0 ≡ false
class_bad Invalid other = absurd (other refl)
class_bad Unicast other = refl
class_bad Multicast other = refl
class_bad NetBroadcast other = refl
class_bad DomainBroadcast other = refl
class_bad ScpsBroadcast other = refl
class_bad LimitedBroadcast other = refl

module _ (a : Address) {class : Class} (is : class ≡ class_of a.0) where
  pub node_refused : {e : Looked} (rest : Looked) → class ≡ Invalid → e ≡ refused_looked 6 → e ≡ pick (bad_class a.0) (refused_looked 6) rest
  node_refused rest h told = rw (sym is ∙ h) told

  pub node_looked_lem : (b : Board) (s : State) (arrival : ℕ) {m : ℕ} {v : Survey} {t : Target} {p : Option Place}
      → (class ≡ Invalid → ⊥)
      → m ≡ s.number
      → v ≡ named_of (ports_seen m b) a
      → t ≡ target_of class v
      → p ≡ place_for (seated b s) t a arrival
      → ◌≡◌ {A = Looked} (record { refusal = 0; target = t; place = p; ready = v.ready })
      (pick (bad_class a.0) (refused_looked 6) (node_looked (seated b s) arrival a))
  unfolding node_looked
  node_looked_lem b s arrival some e1 e2 e3 e4 = rw (class_bad (class_of a.0) (λ e. some (is ∙ e))) cc

-- ---- a path
form_bad : (f : PathForm) → (f ≡ form.Invalid → ⊥) → eqb (path_number f) 0 ≡ false
form_bad form.Invalid other = absurd (other refl)
form_bad form.Valid other = refl

module _ (p : PathAddress) {found : PathForm} (is : found ≡ path_form p.0) where
  pub path_refused : {e : Looked} (rest : Looked) → found ≡ form.Invalid → e ≡ refused_looked 6 → e ≡ pick (bad_path p.0) (refused_looked 6) rest
  path_refused rest h told = rw (sym is ∙ h) told

  pub path_looked_lem : (r : Relay) {x : Option Place} → (found ≡ form.Invalid → ⊥) → x ≡ path_place r p
      → ◌≡◌ {A = Looked} (record { refusal = 0; target = target.Path; place = x; ready = 0 }) (pick (bad_path p.0) (refused_looked 6) (path_looked r p))
  unfolding path_looked
  path_looked_lem r some e = rw (form_bad (path_form p.0) (λ e. some (is ∙ e))) cc

-- what was looked up is no refusal
node_free : (r : Relay) (arrival : ℕ) (a : Address) → (node_looked r arrival a).refusal ≡ 0
unfolding node_looked
node_free r arrival a = refl

path_free : (r : Relay) (p : PathAddress) → (path_looked r p).refusal ≡ 0
unfolding path_looked
path_free r p = refl

-- ---- what was looked up, with the header
module _ (r : Relay) (number : ℕ) (at : Arrival) (h : Header) (k : Renewal) where
  abbrev asked_with : Aim → Looked → Asked
  asked_with x l = else_asked l.refusal (header_asked r number at h k x l.target l.place l.ready)

  -- what a flood lacks, after what its destination is refused by
  abbrev lacking : Bool → ℕ
  lacking bad = pick bad 6 (pick (unmarked h.fields) 28 0)

  pub looked_asked : unmarked h.fields ≡ false → (x : Aim) → asked_with x (aim_looked r at.set x) ≡ else_asked (lacking (bad_aim x)) (aim_asked r number at h k x)
  unfolding aim_asked node_asked path_asked node_looked path_looked
  looked_asked marked (aim.Node a) = by_class_lem (bad_class a.0)
    where
      by_class_lem : (bad : Bool) → asked_with (aim.Node a) (pick bad (refused_looked 6) (node_looked r at.set a)) ≡ else_asked (lacking bad) (node_asked r number at h k a)
      by_class_lem true = refl
      by_class_lem false = rw marked
  looked_asked marked (aim.Path p) = by_form (bad_path p.0)
    where
      by_form : (bad : Bool) → asked_with (aim.Path p) (pick bad (refused_looked 6) (path_looked r p)) ≡ else_asked (lacking bad) (path_asked r number at h k p)
      by_form true = refl
      by_form false = rw marked
  looked_asked marked aim.Uncarried = refl

  pub good_refused : (x : Aim) {l : Looked} {e : Asked} → l ≡ aim_looked r at.set x → (l.refusal ≡ 0 → ⊥) → e ≡ refused_asked l.refusal
      → e ≡ else_asked (lacking (bad_aim x)) (aim_asked r number at h k x)
  good_refused x {l} {e} el some told = by_aim x (λ z. some (ap (λ (y : Looked). y.refusal) el ∙ z)) (told ∙ ap (λ (y : Looked). refused_asked y.refusal) el)
    where
      by_bad : (bad : Bool) (found : Looked) (rest : Asked) → found.refusal ≡ 0 → ((pick bad (refused_looked 6) found).refusal ≡ 0 → ⊥)
          → e ≡ refused_asked (pick bad (refused_looked 6) found).refusal → e ≡ else_asked (lacking bad) rest
      by_bad true found rest zero z is = is
      by_bad false found rest zero z is = absurd (z zero)

      by_aim : (y : Aim) → ((aim_looked r at.set y).refusal ≡ 0 → ⊥) → e ≡ refused_asked (aim_looked r at.set y).refusal
          → e ≡ else_asked (lacking (bad_aim y)) (aim_asked r number at h k y)
      by_aim (aim.Node a) z is = by_bad (bad_class a.0) (node_looked r at.set a) _ (node_free r at.set a) z is
      by_aim (aim.Path p) z is = by_bad (bad_path p.0) (path_looked r p) _ (path_free r p) z is
      by_aim aim.Uncarried z is = is

  -- the destination is good, and a flood lacks its source or its timestamp
  pub good_unmarked : (x : Aim) {l : Looked} {e : Asked} → l ≡ aim_looked r at.set x → l.refusal ≡ 0 → unmarked h.fields ≡ true → e ≡ refused_asked 28
      → e ≡ else_asked (lacking (bad_aim x)) (aim_asked r number at h k x)
  good_unmarked x {l} {e} el none lacks told = by_aim x (sym (ap (λ (y : Looked). y.refusal) el) ∙ none)
    where
      by_bad : (bad : Bool) (found : Looked) (rest : Asked) → (pick bad (refused_looked 6) found).refusal ≡ 0 → e ≡ else_asked (lacking bad) rest
      by_bad true found rest z = absurd (omega (arith, z))
      by_bad false found rest z = rw lacks told

      by_aim : (y : Aim) → (aim_looked r at.set y).refusal ≡ 0 → e ≡ else_asked (lacking (bad_aim y)) (aim_asked r number at h k y)
      by_aim (aim.Node a) z = by_bad (bad_class a.0) (node_looked r at.set a) _ z
      by_aim (aim.Path p) z = by_bad (bad_path p.0) (path_looked r p) _ z
      by_aim aim.Uncarried z = absurd (omega (arith, z))

  pub good_asked : (x : Aim) {l : Looked} {router m : ℕ} {f : Flood} {c : Case} {d : Option Address} {precedence : ℕ}
      → l ≡ aim_looked r at.set x
      → l.refusal ≡ 0
      → unmarked h.fields ≡ false
      → router ≡ r.router
      → f ≡ flood_of router l.target r.memory at.address.0 h.fields
      → c ≡ case_of router at.set h.fields f
      → d ≡ destination_asked x
      → m ≡ number
      → precedence ≡ precedence_asked h.fields.qos
      → ◌≡◌ {A = Asked}
      (record { refusal = 0; target = l.target; place = l.place; case = c; ready = l.ready; destination = d; number = m; precedence = precedence; arrival = at.address; header = h; renewal = k })
      (else_asked (lacking (bad_aim x)) (aim_asked r number at h k x))
  good_asked x {l} {router} {m} {f} {c} {d} {precedence} el none marked e1 e0 e2 e3 e4 e5 =
      let e : Asked = record { refusal = 0; target = l.target; place = l.place; case = c; ready = l.ready; destination = d; number = m; precedence = precedence; arrival = at.address; header = h; renewal = k } in
      let is : e ≡ asked_with x l = simp (eq-eqb l.refusal 0 none) cc in
      is ∙ ap (asked_with x) el ∙ looked_asked marked x

-- ---- a good header: 6 is given for either address
either_6 : (t u v : Bool) → u ≡ true → 6 ≡ first_of ((t, 6) ∷ (u, 6) ∷ (v, 28) ∷ [])
unfolding first_of
either_6 true u v h = refl
either_6 false u v h = rw h

-- and then 28
first_6 : (t u v : Bool) → u ≡ false → pick t 6 (pick v 28 0) ≡ first_of ((t, 6) ∷ (u, 6) ∷ (v, 28) ∷ [])
unfolding first_of
first_6 true u v h = refl
first_6 false u v h = rw h

source_told : (at : Arrival) (h : Header) {o : Option Address} {c : Check} → o ≡ origin_of at.address.0 h.fields.addresses → c ≡ check_of (bad_source o)
    → c ≡ check_of (bad_source (origin_of at.address.0 h.fields.addresses))
source_told at h from told = told ∙ ap (λ (x : Option Address). check_of (bad_source x)) from

module _ (r : Relay) (number : ℕ) (at : Arrival) (h : Header) (k : Renewal) {e : Asked} where
  pub header_refused : {n : ℕ} → n ≡ first_of (arrival_checks at.address h.fields) → (n ≡ 0 → ⊥) → e ≡ refused_asked n → e ≡ carried_asked r number at h k
  unfolding carried_asked
  header_refused is some told = by_number _ _ is some told

  module _ {carried domain : Check} (told : carried ≡ check_of (not_carried h.fields)) (carries : carried ≡ Passed)
      (told' : domain ≡ check_of (no_domain at.address h.fields.addresses)) (has : domain ≡ Passed)
      {o : Option Address} {origin : Check} (from : o ≡ origin_of at.address.0 h.fields.addresses) (told'' : origin ≡ check_of (bad_source o)) where
    pub source_refused : origin ≡ Failed → e ≡ refused_asked 6 → e ≡ carried_asked r number at h k
    source_refused fails is =
        header_refused (passes _ _ _ told carries (passes _ _ _ told' has (either_6 _ _ _ (failed_true _ (sym (source_told at h from told'') ∙ fails))))) (λ z. omega arith) is

    pub header_aimed : origin ≡ Passed → {x : Aim} → x ≡ aim_of at.address.0 h.fields.addresses
        → e ≡ else_asked (pick (bad_aim x) 6 (pick (unmarked h.fields) 28 0)) (aim_asked r number at h k x) → e ≡ carried_asked r number at h k
    unfolding carried_asked
    header_aimed passed aimed is =
        is
        ∙ ap (λ (z : Aim). else_asked (pick (bad_aim z) 6 (pick (unmarked h.fields) 28 0)) (aim_asked r number at h k z)) aimed
        ∙ ap (λ (n : ℕ). else_asked n (aim_asked r number at h k (aim_of at.address.0 h.fields.addresses)))
        (passes _ _ _ told carries (passes _ _ _ told' has (first_6 _ _ _ (passed_false _ (sym (source_told at h from told'') ∙ passed)))))

-- ---- the whole
-- the port, by the mission's number
pub port_told : (b : Board) (port : ℕ) {n m : ℕ} {c : Check}
    → n ≡ m → c ≡ check_of (not (among_ports (ports_seen n b) port)) → c ≡ check_of (not (among_ports (ports_seen m b) port))
port_told b port e is = is ∙ ap (λ (k : ℕ). check_of (not (among_ports (ports_seen k b) port))) e

pub port_seen : (b : Board) (port : ℕ) {n m : ℕ} {p : Port} → n ≡ m → p ≡ get_or (ports_seen n b) port fresh_port → p ≡ get_or (ports_seen m b) port fresh_port
port_seen b port e is = is ∙ ap (λ (k : ℕ). get_or (ports_seen k b) port fresh_port) e

module _ (r : Relay) (number port second : ℕ) (octets : List ℕ) (room : ℕ) {e : Asked} {c : Check} (told : c ≡ check_of (not (among_ports r.ports port))) where
  pub no_port_lem : c ≡ Failed → e ≡ refused_asked 16 → e ≡ datagram_asked r number port second octets room
  unfolding datagram_asked call_checks
  no_port_lem fails is = by_number _ _ (fails_here _ _ _ told fails) (λ z. omega arith) is

  module _ (ready : c ≡ Passed) where
    pub no_room : room < output_room → e ≡ refused_asked 17 → e ≡ datagram_asked r number port second octets room
    unfolding datagram_asked call_checks
    no_room short is = by_number _ _ (passes _ _ _ told ready (holds_here _ _ _ (lt-ltb room output_room short))) (λ z. omega arith) is

    -- a second under the last accepted one
    pub past_second : {last : ℕ} → output_room ≤ room → last ≡ r.memory.last → second < last → e ≡ refused_asked 29
        → e ≡ datagram_asked r number port second octets room
    unfolding datagram_asked call_checks
    past_second enough same early is =
        by_number _ _
        (passes _ _ _ told ready (holds_not _ _ _ (le-ltb room output_room enough) (holds_here _ _ _ (lt-ltb second r.memory.last (rw (← same) early)))))
        (λ z. omega arith) is

    pub judged :
        {p : Port} {set last : ℕ}
        → output_room ≤ room
        → last ≡ r.memory.last
        → last ≤ second
        → p ≡ get_or r.ports port fresh_port
        → set ≡ only_port port
        → e ≡ octets_asked r number (record { set = set; address = p.address }) (found_of octets)
        → e ≡ datagram_asked r number port second octets room
    unfolding datagram_asked call_checks
    judged enough kept late same only is =
        by_rest _ _
        (passes _ _ _ told ready
        (holds_not _ _ _ (le-ltb room output_room enough) (holds_not _ _ _ (le-ltb second r.memory.last (rw (← kept) late)) none_left))) refl
        (is ∙ ap (λ (at : Arrival). octets_asked r number at (found_of octets)) cc)
