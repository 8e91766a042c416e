-- The names of the ports: one turn of gathering them, what comparing with them says, and that an address without a mark is none of them. Assumes nothing.
use native.Mathlib.Omega.{arith}
use native.Mathlib.Nat.{mod-eq_of_lt, mod-lt, zero-lt-suc, eq-or-lt_of_le, le_of_suc-le-suc}
use native.Mathlib.Numerals.{add-one}
use Prim.Native.Nat.{ℕ, zero, suc, ◌+◌, ◌*◌, ◌/◌, ◌%◌, ◌^◌, ◌<◌, ◌≤◌, max}
use mathlib.Core.Path.{◌≡◌, refl, sym, ap, ap₂, subst, ◌∙◌}
use mathlib.Core.Bool.{Bool, true, false, ◌&&◌, ◌||◌}
use mathlib.Core.List.{List}
use mathlib.Core.Logic.{⊎_elim}
use lib.Bits.{bit_and, bit_or}
use lib.Dec.{eqb}
use lib.ListN.{get_or, set, length, replicate, length-set}
use lib.Pow.{pow-lt}
use lib.Seq.{get_or-set_same, get_or-set_other}
use borrow.Author.Tests.{ne_eqb}
use Rattle.std.proofs.Common.{Option, Some, None}
use Rattle.checks.proofs.Bools.{true_false, or_false}
use Rattle.address.specs.declared.Address.{Address}
use Rattle.sets.specs.Sets.{in_set, port_set, only_port}
use Rattle.sets.proofs.Loops.{port_set_next}
use Rattle.sets.proofs.Members.{in_gathered}
use Rattle.networks.specs.Networks.{subnet_broadcast, class_broadcast}
use Rattle.networks.proofs.Bits.{bit, bit_small, or_bit}
use Rattle.records.specs.Fresh.{fresh_port}
use Rattle.records.specs.SetUp.{is_set_up}
use Rattle.records.specs.declared.Port.{Port}
use Rattle.verdict.specs.declared.Survey.{Survey}
use Rattle.survey.specs.Survey.{broadcast_is, own_broadcast, set_up_and, joined_by, named_below, named_of}
use Rattle.survey.specs.Names.{no_names, broadcast_or, own_name, subnet_name, class_name, mark_of, marked_by, marks_below, NamesBelow, NamesFor, has_own, has_broadcast, compared_of}
use Rattle.survey.specs.declared.names.Names.{Names}
use Rattle.survey.proofs.Walk.{and_false, small, port_set_lem, port_room}
use Rattle.survey.proofs.Bits.{power_has}
use Rattle.survey.proofs.Within.{same_sets, within}

-- names of ports that were not looked at say nothing, and so nothing wrong
neither : {A : Type 0} (n : ℕ) → n ≡ 0 → n ≡ 1 → A
neither n z o = absurd (omega arith)

pub unlooked : (ports : List Port) (k : Names) → k ≡ no_names → NamesFor ports k
unlooked ports k e h = neither k.looked (ap (λ (x : Names). x.looked) e) h

-- ---- one turn of gathering
pub shifted : (n : ℕ) → 1 * 2 ^ (n % 64) % 2 ^ 64 ≡ mark_of n
shifted n = mod-eq_of_lt (omega (arith, pow-lt {i = n % 64} {j = 64} (mod-lt n (zero-lt-suc 63)))) ∙ omega arith

-- one port more in a set
module _ (test : ℕ → Bool) (i : ℕ) {s port : ℕ} (h : i < 8) (es : s ≡ port_set test i) (ep : port ≡ only_port i) where
  pub room_for_port : (s < 128) × (port ≤ 128)
  room_for_port = (rw es (small i test h), port_room i h ep)

  pub turn_set : {t : Bool} {out : ℕ} → t ≡ test i → out ≡ joined_by s t port → out ≡ port_set test (i + 1)
  turn_set et eo = eo ∙ simp (es, et, port_set_lem i port h ep) (sym (port_set_next test i))

-- a list that holds what a function says of the first i holds it of one more
entered : (f : ℕ → ℕ) (l : List ℕ) (i x : ℕ) → i < length l → x ≡ f i → ((p : ℕ) → p < i → get_or l p 0 ≡ f p)
    → (p : ℕ) → p < i + 1 → get_or (set l i x) p 0 ≡ f p
entered f l i x h e held p b =
    ⊎_elim
    (λ (s : p ≡ i). ap (λ (j : ℕ). get_or (set l i x) j 0) s ∙ get_or-set_same l i x 0 h ∙ e ∙ ap f (sym s))
    (λ (o : p < i). get_or-set_other l i p x 0 (λ s. omega arith) ∙ held p o)
    (eq-or-lt_of_le (let z : p ≤ i = omega arith in z))

and_yes : (t : Bool) → t ≡ (t && true)
and_yes true = refl
and_yes false = refl

-- the names of the first i ports, in lists of eight
abbrev pub Gathered : List Port → ℕ → Names → Type 0
Gathered ports i k = (length k.own ≡ 8) × ((length k.subnet ≡ 8) × ((length k.class ≡ 8) × NamesBelow ports i k))

module _ (ports : List Port) (i : ℕ) (k : Names) where
  pub turn_names : {ready port marks class : ℕ} {p : Port} {subnet : Address} {broadcast : Option Address}
      → i < 8
      → Gathered ports i k
      → p ≡ get_or ports i fresh_port
      → subnet ≡ subnet_broadcast p.address p.mask
      → broadcast ≡ class_broadcast p.address
      → class ≡ broadcast_or broadcast subnet.0
      → port ≡ only_port i
      → ready ≡ joined_by k.ready (is_set_up p) port
      → marks ≡ marked_by k.marks p.address.0 subnet.0 class
      → Gathered ports (i + 1)
      (record {
        looked = k.looked;
        ready = ready;
        marks = marks;
        own = set k.own i p.address.0;
        subnet = set k.subnet i subnet.0;
        class = set k.class i class;
      })
  turn_names {ready} {port} {marks} {class} {p} {subnet} {broadcast} h (lo, (ls, (lc, held))) ep es eb ec eo er em =
      let own_is : p.address.0 ≡ own_name (get_or ports i fresh_port) = ap own_name ep in
      let subnet-is : subnet.0 ≡ subnet_name (get_or ports i fresh_port) = ap (λ (x : Address). x.0) es ∙ ap subnet_name ep in
      let class_is : class ≡ class_name (get_or ports i fresh_port) =
      ec ∙ ap₂ broadcast_or (eb ∙ ap (λ (x : Port). class_broadcast x.address) ep) subnet-is in (
        length-set k.own i _ ∙ lo,
        (
          length-set k.subnet i _ ∙ ls,
          (
            length-set k.class i _ ∙ lc,
            record {
              ready = turn_set (set_up_and ports (λ (x : Port). true)) i h held.ready eo (ap is_set_up ep ∙ and_yes _) er;
              marks = em ∙ simp (held.marks, own_is, subnet-is, class_is) (sym (ap (marks_below ports) (add-one i)));
              own = entered (λ (q : ℕ). own_name (get_or ports q fresh_port)) k.own i p.address.0 (omega arith) own_is held.own;
              subnet = entered (λ (q : ℕ). subnet_name (get_or ports q fresh_port)) k.subnet i subnet.0 (omega arith) subnet-is held.subnet;
              class = entered (λ (q : ℕ). class_name (get_or ports q fresh_port)) k.class i class (omega arith) class_is held.class;
            },
          ),
        ),
      )

-- before the first turn, and after the last
pub no_port_yet : (ports : List Port) → Gathered ports 0 (record { looked = 1; ready = 0; marks = 0; own = replicate 8 0; subnet = replicate 8 0; class = replicate 8 0 })
no_port_yet ports = (
  refl,
  (
    refl,
    (
      refl,
      record { ready = refl; marks = refl; own = λ p h. absurd (omega arith); subnet = λ p h. absurd (omega arith); class = λ p h. absurd (omega arith) },
    ),
  ),
)

pub all_ports_lem : (ports : List Port) (k : Names) (i : ℕ) → 8 ≤ i → (i ≤ 8) × Gathered ports i k → NamesBelow ports 8 k
all_ports_lem ports k i h e = subst (λ (n : ℕ). NamesBelow ports n k) (let z : i ≡ 8 = omega (arith, e.0) in z) e.1.1.1.1

-- ---- the marks
either_bit : (a b : ℕ) → a < 2 → b < 2 → eqb (max a b) 1 ≡ (eqb a 1 || eqb b 1)
either_bit zero zero h k = refl
either_bit zero (suc zero) h k = refl
either_bit zero (suc (suc b)) h k = absurd (omega arith)
either_bit (suc zero) zero h k = refl
either_bit (suc zero) (suc zero) h k = refl
either_bit (suc zero) (suc (suc b)) h k = absurd (omega arith)
either_bit (suc (suc a)) b h k = absurd (omega arith)

in_or : (p g f : ℕ) → in_set p (bit_or g f) ≡ (in_set p g || in_set p f)
in_or p g f = rw (or_bit p g f) (either_bit (bit p g) (bit p f) (bit_small p g) (bit_small p f))

-- what is in neither of two sets
apart : (b g f : ℕ) → in_set b (bit_or g f) ≡ false → (in_set b g ≡ false) × (in_set b f ≡ false)
apart b g f h = or_false (in_set b g) (in_set b f) (sym (in_or b g f) ∙ h)

-- a name has its mark
no_name : (n a : ℕ) → in_set (a % 64) (mark_of n) ≡ false → eqb n a ≡ false
no_name n a h = ne_eqb n a (λ e. true_false (sym (power_has (a % 64)) ∙ ap (λ (x : ℕ). in_set (a % 64) (mark_of x)) (sym e) ∙ h))

-- none of a port's names has the mark
abbrev Unmarked : ℕ → Port → Type 0
Unmarked b x = (in_set b (mark_of (own_name x)) ≡ false) × ((in_set b (mark_of (subnet_name x)) ≡ false) × (in_set b (mark_of (class_name x)) ≡ false))

none_marked : (ports : List Port) (b n : ℕ) → in_set b (marks_below ports n) ≡ false → (p : ℕ) → p < n → Unmarked b (get_or ports p fresh_port)
none_marked ports b zero h p l = absurd (omega arith)
none_marked ports b (suc m) h p l =
    let class = apart b _ _ h in
    let subnet = apart b _ _ class.0 in
    let own = apart b _ _ subnet.0 in
    ⊎_elim
    (λ (e : p ≡ m). rw e (own.1, (subnet.1, class.1)))
    (λ (o : p < m). none_marked ports b m own.0 p o)
    (eq-or-lt_of_le (le_of_suc-le-suc l))

-- ---- what comparing says
-- the broadcast that stands in for none adds no name
stood_in : (b : Option Address) (s : ℕ) (a : Address) → (eqb s a.0 || eqb (broadcast_or b s) a.0) ≡ (eqb s a.0 || broadcast_is b a)
stood_in (Some x) s a = refl
stood_in None s a = both_ways (eqb s a.0)
  where
    both_ways : (t : Bool) → (t || t) ≡ (t || false)
    both_ways true = refl
    both_ways false = refl

pub all_compared : (k : Names) (a : Address) (i : ℕ) {x y : ℕ} → 8 ≤ i → (i ≤ 8) × ((x ≡ port_set (has_own k a) i) × (y ≡ port_set (has_broadcast k a) i))
    → ◌≡◌ {A = Survey}
    (record { ready = k.ready; addressed = bit_and k.ready x; broadcast = bit_and k.ready y; domain = 0; fitting = 0; full = 0 })
    (compared_of k a)
unfolding compared_of
all_compared k a i h (l, (ex, ey)) = let z : i ≡ 8 = omega arith in simp (ex, ey, z)

module _ (ports : List Port) (k : Names) (names : NamesBelow ports 8 k) (a : Address) where
  abbrev here : ℕ → Port
  here p = get_or ports p fresh_port

  -- of the ports that a test holds at, those that are set up
  set_up_lem : (test : ℕ → Bool) (ask : Port → Bool) → ((p : ℕ) → p < 8 → test p ≡ ask (here p)) → bit_and k.ready (port_set test 8) ≡ port_set (set_up_and ports ask) 8
  set_up_lem test ask e =
      within k.ready test 8
      ∙ same_sets _ _ 8
      (λ p h.
      ap₂ ◌&&◌
      (ap (in_set p) names.ready ∙ in_gathered (set_up_and ports (λ (x : Port). true)) p 8 h ∙ sym (and_yes (is_set_up (here p))))
      (e p h))

  broadcast_same : (p : ℕ) → p < 8 → has_broadcast k a p ≡ own_broadcast (here p) a
  unfolding own_broadcast
  broadcast_same p h = rw (names.subnet p h, names.class p h) (stood_in (class_broadcast (here p).address) (subnet_name (here p)) a)

  -- the three sets are the survey
  three_sets : {x y z : ℕ}
      → x ≡ k.ready
      → y ≡ port_set (set_up_and ports (λ (p : Port). eqb p.address.0 a.0)) 8
      → z ≡ port_set (set_up_and ports (λ (p : Port). own_broadcast p a)) 8
      → ◌≡◌ {A = Survey} (record { ready = x; addressed = y; broadcast = z; domain = 0; fitting = 0; full = 0 }) (named_of ports a)
  unfolding named_below
  three_sets ex ey ez = simp (ex, ey, ez, names.ready)

  compared_is : compared_of k a ≡ named_of ports a
  unfolding compared_of
  compared_is =
      three_sets refl
      (set_up_lem (has_own k a) (λ (x : Port). eqb x.address.0 a.0) (λ p h. ap (λ (n : ℕ). eqb n a.0) (names.own p h)))
      (set_up_lem (has_broadcast k a) (λ (x : Port). own_broadcast x a) broadcast_same)

  pub compared_named : {out : Survey} → out ≡ compared_of k a → out ≡ named_of ports a
  compared_named e = e ∙ compared_is

  -- ---- an address without a mark is no name
  module _ (unmarked : in_set (a.0 % 64) k.marks ≡ false) where
    no_marks : (p : ℕ) → p < 8 → Unmarked (a.0 % 64) (here p)
    no_marks = none_marked ports (a.0 % 64) 8 (sym (ap (in_set (a.0 % 64)) names.marks) ∙ unmarked)

    nobody : (ask : Port → Bool) → ((p : ℕ) → p < 8 → ask (here p) ≡ false) → 0 ≡ port_set (set_up_and ports ask) 8
    nobody ask e = sym (same_sets (set_up_and ports ask) (λ (p : ℕ). false) 8 (λ p h. ap (λ (t : Bool). is_set_up (here p) && t) (e p h) ∙ and_false (is_set_up (here p))))

    no_broadcast_here : (p : ℕ) → p < 8 → own_broadcast (here p) a ≡ false
    unfolding own_broadcast
    no_broadcast_here p h =
        let u = no_marks p h in
        sym (stood_in (class_broadcast (here p).address) (subnet_name (here p)) a)
        ∙ ap₂ ◌||◌ (no_name (subnet_name (here p)) a.0 u.1.0) (no_name (class_name (here p)) a.0 u.1.1)

    unmarked_named : ◌≡◌ {A = Survey} (record { ready = k.ready; addressed = 0; broadcast = 0; domain = 0; fitting = 0; full = 0 }) (named_of ports a)
    unmarked_named =
        three_sets refl
        (nobody (λ (x : Port). eqb x.address.0 a.0) (λ p h. no_name (own_name (here p)) a.0 (no_marks p h).0))
        (nobody (λ (x : Port). own_broadcast x a) no_broadcast_here)

  pub nobody_named : (k.marks / 2 ^ (a.0 % 64) % 2 ≡ 1 → ⊥)
      → ◌≡◌ {A = Survey} (record { ready = k.ready; addressed = 0; broadcast = 0; domain = 0; fitting = 0; full = 0 }) (named_of ports a)
  nobody_named h = unmarked_named (ne_eqb (k.marks / 2 ^ (a.0 % 64) % 2) 1 h)
