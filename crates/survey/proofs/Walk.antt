-- One turn of a walk over the ports: the survey of the first i ports, with port i seen too, is that of the first i + 1. Assumes nothing.
use native.Mathlib.Omega.{arith}
use native.Mathlib.Numerals.{add-one}
use native.Mathlib.Nat.{add-zero}
use Prim.Native.Nat.{ℕ, ◌+◌, ◌/◌, ◌%◌, ◌^◌, ◌≤◌, ◌<◌}
use mathlib.Core.Path.{◌≡◌, refl, sym, ap, ◌∙◌}
use mathlib.Core.Bool.{Bool, true, false, ◌&&◌}
use mathlib.Core.List.{List}
use lib.Dec.{eqb}
use lib.ListN.{get_or}
use lib.Pow.{pow_mono}
use borrow.Author.Tests.{eq-eqb, ne_eqb, lt-ltb}
use Rattle.checks.specs.Order.{pick}
use Rattle.sets.specs.Sets.{in_set, port_set, only_port}
use Rattle.sets.proofs.Loops.{port_set_below}
use Rattle.address.specs.declared.Address.{Address}
use Rattle.address.specs.Class.{between, family_of}
use Rattle.address.specs.Octets.{dotted}
use Rattle.address.specs.declared.Family.{Family}
use Rattle.address.specs.declared.Family.TheVariants.{Net, Scps, Multicast, Invalid}
use Rattle.networks.specs.Networks.{domain_of, last_of, subnet_broadcast, broadcast_in, class_broadcast}
use Rattle.records.specs.Fresh.{fresh_port}
use Rattle.records.specs.declared.Port.{Port}
use Rattle.state.specs.Relay.{Relay, port_in, queue_in}
use Rattle.state.specs.Seen.{Board, ports_seen}
use Rattle.verdict.specs.declared.Survey.{Survey}
use Rattle.survey.specs.declared.Sought.{Sought}
use Rattle.survey.specs.Survey.{broadcast_is, own_broadcast, fits_port, size_at, is_full, Roomy, joined_by, with_named, named_below, named_of, with_wanted, survey_within, wanted_of}

-- ---- a broadcast of ours
pub own_subnet : (p : Port) (a x : Address) → x ≡ subnet_broadcast p.address p.mask → x.0 ≡ a.0 → true ≡ own_broadcast p a
unfolding own_broadcast
own_subnet p a x e h = rw (← e) (simp (eq-eqb x.0 a.0 h))

pub own_class :
    (p : Port) (a x : Address) (t : Bool)
    → x ≡ subnet_broadcast p.address p.mask
    → (x.0 ≡ a.0 → ⊥)
    → t ≡ broadcast_is (class_broadcast p.address) a
    → t ≡ own_broadcast p a
unfolding own_broadcast
own_class p a x t e h b = rw (← e) (simp (ne_eqb x.0 a.0 h) b)

-- the broadcast of a class network ends with 255
module _ (a : Address) (other : a.0 % 256 ≡ 255 → ⊥) where
  abbrev Not : ℕ → Family → Type 0
  Not v f = broadcast_is (broadcast_in f v) a ≡ false

  by_test : (v : ℕ) (t : Bool) (f g : Family) → Not v f → Not v g → Not v (pick t f g)
  by_test v true f g p q = p
  by_test v false f g p q = q

  in_net : (v k : ℕ) → last_of v k % 256 ≡ 255 → Not v (Net k)
  unfolding broadcast_in
  in_net v k ends = ne_eqb (last_of v k) a.0 (λ e. other (ap (λ (n : ℕ). n % 256) (sym e) ∙ ends))

  in_scps : (v : ℕ) → Not v Scps
  unfolding broadcast_in
  in_scps v = ne_eqb (dotted 10 255 255 255) a.0 (λ e. other (ap (λ (n : ℕ). n % 256) (sym e) ∙ refl))

  in_none : (v : ℕ) (t : Bool) → Not v (pick t Multicast Invalid)
  unfolding broadcast_in
  in_none v t = by_test v t Multicast Invalid refl refl

  no_class_broadcast : (x : Address) → broadcast_is (class_broadcast x) a ≡ false
  unfolding class_broadcast family_of
  no_class_broadcast x =
      let v = x.0 in
      let first = v / 2 ^ 24 in
      by_test v (eqb first 10) Scps _ (in_scps v)
      (by_test v (between 1 126 first) (Net (2 ^ 24)) _ (in_net v (2 ^ 24) (omega arith))
      (by_test v (between 128 191 first) (Net (2 ^ 16)) _ (in_net v (2 ^ 16) (omega arith))
      (by_test v (between 192 223 first) (Net (2 ^ 8)) _ (in_net v (2 ^ 8) (omega arith)) (in_none v (between 224 239 first)))))

  pub no_broadcast : (p : Port) (x : Address) → x ≡ subnet_broadcast p.address p.mask → (x.0 ≡ a.0 → ⊥) → false ≡ own_broadcast p a
  no_broadcast p x e h = own_class p a x false e h (sym (no_class_broadcast p.address))

-- ---- one port more
module _ (s : Survey) (port : ℕ) (p : Port) (a : Address) where
  -- a port that is not set up is in no set
  pub named_not : p.ready ≡ 0 → s ≡ with_named s port p a
  unfolding with_named
  named_not h = sym (simp (eq-eqb p.ready 0 h, add-zero))

  pub named_all :
      (p.ready ≡ 0 → ⊥)
      → {x y z : ℕ} {broadcast : Bool}
      → x ≡ joined_by s.ready true port
      → y ≡ joined_by s.addressed (eqb p.address.0 a.0) port
      → broadcast ≡ own_broadcast p a
      → z ≡ joined_by s.broadcast broadcast port
      → ◌≡◌ {A = Survey}
      (record { ready = x; addressed = y; broadcast = z; domain = s.domain; fitting = s.fitting; full = s.full })
      (with_named s port p a)
  unfolding with_named
  named_all h ex ey tz ez = simp (ne_eqb p.ready 0 h, ex, ey, ez, tz)

module _ (s : Survey) (port : ℕ) (p : Port) (waiting : ℕ) (q : Sought) where
  pub wanted_not : p.ready ≡ 0 → s ≡ with_wanted s port true p waiting q
  unfolding with_wanted
  wanted_not h = sym (simp (eq-eqb p.ready 0 h, add-zero))

  pub wanted_all :
      (p.ready ≡ 0 → ⊥)
      → {d e f domain size : ℕ} {fitting : Bool}
      → domain ≡ domain_of p.address
      → d ≡ joined_by s.domain (eqb domain q.domain) port
      → size ≡ size_at (eqb domain q.domain) q
      → fitting ≡ fits_port p.mtu size
      → e ≡ joined_by s.fitting fitting port
      → f ≡ joined_by s.full (is_full waiting) port
      → ◌≡◌ {A = Survey}
      (record { ready = s.ready; addressed = s.addressed; broadcast = s.broadcast; domain = d; fitting = e; full = f })
      (with_wanted s port true p waiting q)
  unfolding with_wanted
  wanted_all h td ed es et ee ef =
      let fits = et ∙ ap (fits_port p.mtu) (es ∙ ap (λ (n : ℕ). size_at (eqb n q.domain) q) td) in
      simp (ne_eqb p.ready 0 h, ed, td, ee, fits, ef)

pub and_false : (t : Bool) → (t && false) ≡ false
and_false true = refl
and_false false = refl

-- a port that is not wanted is in no set
pub unwanted : (s : Survey) (port : ℕ) (i set : ℕ) (p : Port) (waiting : ℕ) (q : Sought)
    → (set / 2 ^ i % 2 ≡ 1 → ⊥) → s ≡ with_wanted s port (in_set i set) p waiting q
unfolding with_wanted
unwanted s port i set p waiting q h = sym (simp (ne_eqb (set / 2 ^ i % 2) 1 h, and_false, add-zero))

pub wanted_in : (s : Survey) (i set : ℕ) (p : Port) (waiting : ℕ) (q : Sought) {port : ℕ} {out : Survey} {x : Port} {n : ℕ}
    → set / 2 ^ i % 2 ≡ 1
    → port ≡ 2 ^ i
    → x ≡ p
    → n ≡ waiting
    → out ≡ with_wanted s port true x n q
    → out ≡ with_wanted s (2 ^ i) (in_set i set) p waiting q
wanted_in s i set p waiting q h e ex en eo = rw (eq-eqb (set / 2 ^ i % 2) 1 h) cc

-- the port that a mission sees, its number told
pub seen_numbered : (b : Board) (i : ℕ) {n m : ℕ} {x : Port} → n ≡ m → x ≡ get_or (ports_seen n b) i fresh_port → x ≡ get_or (ports_seen m b) i fresh_port
seen_numbered b i e is = is ∙ ap (λ (k : ℕ). get_or (ports_seen k b) i fresh_port) e

-- ---- one turn
below_128 : (n i : ℕ) → i < 8 → n < 2 ^ i → n < 128
below_128 n i h b = omega (arith, pow_mono {i = i} {j = 7} (omega arith))

pub small : (i : ℕ) (test : ℕ → Bool) → i < 8 → port_set test i < 128
small i test h = below_128 (port_set test i) i h (port_set_below test i)

-- the set of port i
pub port_set_lem : (i port : ℕ) → i < 8 → port ≡ only_port i → port ≡ 2 ^ i
port_set_lem i port h e = e ∙ simp (lt-ltb i 8 h)

pub port_room : (i : ℕ) {port : ℕ} → i < 8 → port ≡ only_port i → port ≤ 128
port_room i h p = rw (port_set_lem i _ h p) (pow_mono {i = i} {j = 7} (omega arith))

module _ (ports : List Port) (a : Address) where
  room_named : (i : ℕ) → i < 8 → Roomy (named_below ports a i)
  unfolding named_below
  room_named i h = (small i _ h, (small i _ h, (small i _ h, (omega arith, (omega arith, omega arith)))))

  pub roomy_named : (s : Survey) (i : ℕ) {port : ℕ} → i < 8 → s ≡ named_below ports a i → port ≡ only_port i → Roomy s × (port ≤ 128)
  roomy_named s i h e p = (rw e (room_named i h), port_room i h p)

  one_named : (i : ℕ) → with_named (named_below ports a i) (2 ^ i) (get_or ports i fresh_port) a ≡ named_below ports a (i + 1)
  unfolding named_below with_named
  one_named i = sym (ap (named_below ports a) (add-one i))

  pub turn_named :
      (i : ℕ) {s : Survey} {port : ℕ} {p : Port}
      → i < 8
      → s ≡ named_below ports a i
      → port ≡ only_port i
      → p ≡ get_or ports i fresh_port
      → with_named s port p a ≡ named_below ports a (i + 1)
  turn_named i h es ep e = simp (es, port_set_lem i _ h ep, e) (one_named i)

  pub all_named : (s : Survey) (i : ℕ) → 8 ≤ i → (i ≤ 8) × (s ≡ named_below ports a i) → s ≡ named_of ports a
  all_named s i h e = e.1 ∙ ap (named_below ports a) (let z : i ≡ 8 = omega (arith, e.0) in z)

module _ (r : Relay) (set : ℕ) (q : Sought) where
  room_wanted : (i : ℕ) → i < 8 → Roomy (survey_within r set q i)
  unfolding survey_within
  room_wanted i h = (omega arith, (omega arith, (omega arith, (small i _ h, (small i _ h, small i _ h)))))

  pub roomy_wanted : (s : Survey) (i : ℕ) → i < 8 → s ≡ survey_within r set q i → Roomy s
  roomy_wanted s i h e = rw e (room_wanted i h)

  pub turn_wanted :
      (i : ℕ) {s : Survey}
      → s ≡ survey_within r set q i
      → with_wanted s (2 ^ i) (in_set i set) (port_in r i) (queue_in r i).count q ≡ survey_within r set q (i + 1)
  unfolding survey_within with_wanted
  turn_wanted i es = rw es (sym (ap (survey_within r set q) (add-one i)))

  pub all_wanted : (s : Survey) (i : ℕ) → 8 ≤ i → (i ≤ 8) × (s ≡ survey_within r set q i) → s ≡ wanted_of r set q
  all_wanted s i h e = e.1 ∙ ap (survey_within r set q) (let z : i ≡ 8 = omega (arith, e.0) in z)
