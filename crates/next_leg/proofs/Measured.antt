-- Both lengths of a datagram by one measure, over plain variables: the header for another domain has other addresses than the one for the arrival
-- port's, and is otherwise the same. Assumes nothing.
use native.Mathlib.Omega.{arith}
use Prim.Native.Nat.{ℕ, ◌+◌, ◌*◌, ◌-◌, ◌≤◌, ◌<◌}
use mathlib.Core.Path.{◌≡◌, refl, sym, ap, ◌∙◌}
use mathlib.Core.Bool.{Bool, true, false, not, ◌&&◌, ◌||◌}
use lib.Dec.{eqb}
use borrow.Author.Tests.{ne_eqb}
use Rattle.checks.specs.Order.{pick}
use Rattle.checks.proofs.Bools.{true_false}
use Rattle.address.specs.declared.Address.{Address}
use Rattle.header.specs.Limits.{length_limit}
use Rattle.header.specs.Build.{present, source_flag, second_octet, third_octet, size_of}
use Rattle.header.specs.declared.Addresses.{Addresses}
use Rattle.header.specs.declared.Addresses.TheVariants.{BasicPath, ExtendedPath, BasicEndSystem, ExtendedEndSystem, Ipv6}
use Rattle.header.specs.declared.Fields.{Fields}
use Rattle.header.specs.declared.Header.{Header}
use Rattle.builder.proofs.measure.Laws.{rest_measured}
use Rattle.verdict.specs.Rule.{except_by}
use Rattle.next_leg.specs.declared.Leg.{Leg}
use Rattle.next_leg.specs.declared.Lengths.{Lengths}
use Rattle.next_leg.specs.Leg.{adds, is_narrow, widened, widening, widens, rewrites, hops_next, checksum_next, next_fields, next_length, next_lengths, Sound, rewritten_among, rewritten_octets, length_for}

-- ---- what widening adds
present_some : (n : ℕ) → (n ≡ 0 → ⊥) → present n ≡ 1
present_some n h = simp (ne_eqb n 0 h)

-- a header that names its source has a second control octet
second_present : (f : Fields) → source_flag f.addresses ≡ 1 → present (second_octet f) ≡ 1
unfolding second_octet
second_present f h = present_some (second_octet f) (λ z. omega (arith, h, z))

module _ (arrival code : ℕ) (f : Fields) where
  abbrev with_addresses : Addresses → Fields
  with_addresses a =
      record {
        tpid = f.tpid;
        addresses = a;
        qos = f.qos;
        hops = hops_next code f.hops;
        stamp = f.stamp;
        expanded = f.expanded;
        checksum = checksum_next code f.checksum;
        intermediate = f.intermediate;
      }

  ends_wider : (d s : ℕ) (x y : Address) → size_of (with_addresses (ExtendedEndSystem x y)) ≡ size_of (with_addresses (BasicEndSystem d s)) + 6
  unfolding size_of third_octet
  ends_wider d s x y =
      let wide = with_addresses (ExtendedEndSystem x y) in
      let narrow = with_addresses (BasicEndSystem d s) in
      omega (
        arith,
        second_present wide refl,
        second_present narrow refl,
        rest_measured wide refl refl refl refl refl,
        rest_measured narrow refl refl refl refl refl,
      )

  by_addresses : (a : Addresses) → size_of (with_addresses (widened arrival a)) ≡ size_of (with_addresses a) + widening a
  by_addresses (BasicPath z) = omega arith
  by_addresses (ExtendedPath p) = omega arith
  by_addresses (BasicEndSystem d s) = ends_wider d s _ _
  by_addresses (ExtendedEndSystem d s) = omega arith
  by_addresses (Ipv6 d s) = omega arith

  pub wider_by : size_of (next_fields true arrival code f) ≡ size_of (next_fields false arrival code f) + widening f.addresses
  unfolding next_fields
  wider_by = by_addresses f.addresses

-- ---- where it is rewritten
or_so : (t u : Bool) → u ≡ true → (t || u) ≡ true
or_so true u h = refl
or_so false u h = h

adds_rewrites : (far : Bool) (code : ℕ) (f : Fields) → adds code f ≡ true → rewrites far code f ≡ true
unfolding rewrites
adds_rewrites far code f h = or_so (widens far f.addresses) (adds code f) h

near_kept : (code : ℕ) (f : Fields) → adds code f ≡ false → rewrites false code f ≡ false
unfolding rewrites
near_kept code f h = h

length_rewritten : (far : Bool) (arrival code : ℕ) (h : Header) → rewrites far code h.fields ≡ true
    → next_length far arrival code h ≡ size_of (next_fields far arrival code h.fields) + (h.length - h.size)
unfolding next_length
length_rewritten far arrival code h e = rw e

length_as_it_came : (far : Bool) (arrival code : ℕ) (h : Header) → rewrites far code h.fields ≡ false → next_length far arrival code h ≡ h.length
unfolding next_length
length_as_it_came far arrival code h e = rw e

-- ---- both lengths
lengths_same : {near far near' far' : ℕ} → near ≡ near' → far ≡ far'
    → ◌≡◌ {A = Lengths} (record { near = near; far = far }) (record { near = near'; far = far' })
lengths_same en ef = cc

module _ (l : Leg) (s : Sound l.header) {far : ℕ} (ef : far ≡ next_length true l.arrival.0 l.code l.header) (few : far < 2 * length_limit)
    {t : Bool} (et : t ≡ adds l.code l.header.fields) where
  pub near_built : t ≡ true → {w : ℕ} → w ≡ widening l.header.fields.addresses
      → (w ≤ far) × (far - w ≡ next_length false l.arrival.0 l.code l.header)
  near_built ht ew =
      let h = l.header in
      let added = sym et ∙ ht in
      let e1 = length_rewritten true l.arrival.0 l.code h (adds_rewrites true l.code h.fields added) in
      let e2 = length_rewritten false l.arrival.0 l.code h (adds_rewrites false l.code h.fields added) in
      let e3 = wider_by l.arrival.0 l.code h.fields in
      (omega (arith, e1, e3, ef, ew), omega (arith, e1, e2, e3, ef, ew))

  pub lengths_built : t ≡ true → {w : ℕ} → w ≡ widening l.header.fields.addresses
      → ◌≡◌ {A = Lengths} (record { near = far - w; far = far }) (next_lengths l) × ((far - w < 2 * length_limit) × (far < 2 * length_limit))
  lengths_built ht ew = (lengths_same (near_built ht ew).1 ef, (omega (arith, few), few))

  pub lengths_kept : t ≡ false
      → ◌≡◌ {A = Lengths} (record { near = l.header.length; far = far }) (next_lengths l)
      × ((l.header.length < 2 * length_limit) × (far < 2 * length_limit))
  lengths_kept ht =
      (lengths_same (sym (length_as_it_came false _ _ _ (near_kept l.code l.header.fields (sym et ∙ ht)))) ef, (omega (arith, s.short), few))

-- ---- the rewritten header, by the length with it
length_either : (near : Bool) (arrival code : ℕ) (h : Header)
    → pick near (next_length false arrival code h) (next_length true arrival code h) ≡ next_length (not near) arrival code h
length_either true arrival code h = refl
length_either false arrival code h = refl

-- ports that are told to have it have a header that is rewritten
pub among_rewrites : (took domain : ℕ) (l : Leg) {far rewritten : ℕ} → far ≡ except_by took domain
    → rewritten ≡ rewritten_among took far l.code l.header.fields → eqb rewritten 0 ≡ false
    → rewrites (not (eqb far 0)) l.code l.header.fields ≡ true
unfolding rewrites
among_rewrites took domain l {far} {rewritten} ef e h = by_tests (adds l.code l.header.fields) (is_narrow l.header.fields.addresses) e
  where
    by_tests : (added narrow : Bool) → rewritten ≡ pick added took (pick narrow far 0) → ((not (eqb far 0) && narrow) || added) ≡ true
    by_tests true narrow e = or_so (not (eqb far 0) && narrow) true refl
    by_tests false true e = rw (sym (ap (λ (x : ℕ). eqb x 0) e) ∙ h)
    by_tests false false e = true_false (sym (ap (λ (x : ℕ). eqb x 0) e) ∙ h)

pub octets_some : (rewritten far : ℕ) (l : Leg) {q : Lengths} {n : ℕ} → (rewritten ≡ 0 → ⊥)
    → (eqb rewritten 0 ≡ false → rewrites (not (eqb far 0)) l.code l.header.fields ≡ true)
    → q ≡ next_lengths l → n ≡ length_for far q
    → (l.header.length - l.header.size ≤ n) × (n - (l.header.length - l.header.size) ≡ rewritten_octets rewritten far l)
octets_some rewritten far l some changed eq en =
    let h = l.header in
    let not_None = ne_eqb rewritten 0 some in
    let is =
    en ∙ ap (length_for far) eq ∙ length_either (eqb far 0) l.arrival.0 l.code h
    ∙ length_rewritten (not (eqb far 0)) l.arrival.0 l.code h (changed not_None)
    in
    (omega (arith, is), simp not_None (omega (arith, is)))
