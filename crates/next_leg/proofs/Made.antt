-- What the functions answer, over plain variables. Assumes nothing.
use native.Mathlib.Omega.{arith}
use Prim.Native.Nat.{ℕ, ◌+◌, ◌*◌, ◌-◌, ◌≤◌, ◌<◌}
use mathlib.Core.Path.{◌≡◌, sym, ap, ◌∙◌}
use mathlib.Core.Bool.{Bool, true, false, ◌&&◌, ◌||◌}
use mathlib.Core.List.{List}
use lib.ListN.{length}
use borrow.Author.Tests.{eq-eqb, ne_eqb}
use Rattle.std.specs.Prelude.{Option}
use Rattle.checks.specs.Order.{pick}
use Rattle.octets.specs.Octets.{fronted}
use Rattle.header.specs.Limits.{longest_header, length_limit}
use Rattle.header.specs.Read.{header_of}
use Rattle.header.specs.Build.{size_of, header_octets, second_octet, third_octet}
use Rattle.header.specs.Onward.{header_sent_on}
use Rattle.header.specs.declared.Addresses.{Addresses}
use Rattle.header.specs.declared.Addresses.TheVariants.{BasicEndSystem, ExtendedEndSystem}
use Rattle.header.specs.declared.Fields.{Fields}
use Rattle.header.specs.declared.Header.{Header}
use Rattle.header.specs.Form.{places_of}
use Rattle.header.proofs.Pieces.{present_le}
use Rattle.header.proofs.BuiltLaws.{header_length}
use Rattle.header.proofs.SentOn.{sent_length}
use Rattle.builder.proofs.Laws.{rest_le}
use Rattle.meaning.specs.Names.{filled_in}
use Rattle.verdict.specs.Rule.{except_by}
use Rattle.next_leg.specs.declared.Leg.{Leg}
use Rattle.next_leg.specs.declared.Legs.{Legs}
use Rattle.next_leg.specs.Leg.{asks_checksum, adds, widened, widens, rewrites, hops_next, checksum_next, addresses_next, next_fields, next_length, next_header, Sound, no_legs, rewritten_among, rewritten_octets, legs_of}

-- ---- a test that another decides
pub both_so : {t u : Bool} (v w : Bool) → t ≡ v → t ≡ true → u ≡ w → u ≡ (v && w)
both_so v w e h is = is ∙ ap (λ (x : Bool). x && w) (sym h ∙ e)

pub one_not : {t : Bool} (v w : Bool) → t ≡ v → t ≡ false → false ≡ (v && w)
one_not v w e h = ap (λ (x : Bool). x && w) (sym h ∙ e)

pub one_so : {t : Bool} (v w : Bool) → t ≡ v → t ≡ true → true ≡ (v || w)
one_so v w e h = ap (λ (x : Bool). x || w) (sym h ∙ e)

pub other_so : {t u : Bool} (v w : Bool) → t ≡ v → t ≡ false → u ≡ w → u ≡ (v || w)
other_so v w e h is = is ∙ ap (λ (x : Bool). x || w) (sym h ∙ e)

pub rewrites_first : (far : Bool) (code : ℕ) (f : Fields) {t : Bool} → t ≡ widens far f.addresses → t ≡ true → true ≡ rewrites far code f
unfolding rewrites
rewrites_first far code f e h = one_so (widens far f.addresses) (adds code f) e h

pub rewrites_second : (far : Bool) (code : ℕ) (f : Fields) {t u : Bool} → t ≡ widens far f.addresses → t ≡ false → u ≡ adds code f → u ≡ rewrites far code f
unfolding rewrites
rewrites_second far code f e h is = other_so (widens far f.addresses) (adds code f) e h is

-- ---- addresses that stay, and those that are widened
pub as_they_are : (arrival : ℕ) {a : Addresses} (v : Addresses) → a ≡ v → widened arrival v ≡ v → v ≡ widened arrival a
as_they_are arrival v e same = sym (ap (widened arrival) e ∙ same)

pub widened_both : (arrival : ℕ) {a : Addresses} (d s : ℕ) {x y : ℕ} → a ≡ BasicEndSystem d s → x ≡ filled_in arrival d → y ≡ filled_in arrival s
    → ExtendedEndSystem (record { 0 = x }) (record { 0 = y }) ≡ widened arrival a
widened_both arrival d s e ex ey = rw e cc

-- ---- the fields
pub fields_made : (far : Bool) (arrival code : ℕ) (f : Fields) {a : Addresses} {h : Option ℕ} {c : ℕ}
    → a ≡ addresses_next far arrival f.addresses → h ≡ hops_next code f.hops → c ≡ checksum_next code f.checksum
    → ◌≡◌ {A = Fields}
    (record { tpid = f.tpid; addresses = a; qos = f.qos; hops = h; stamp = f.stamp; expanded = f.expanded; checksum = c; intermediate = f.intermediate })
    (next_fields far arrival code f)
unfolding next_fields
fields_made far arrival code f ea eh ec = cc

-- a checksum is there or not, before and after
pub checksum_case : (t : Bool) (on : ℕ) → on < 2 → pick t 1 on < 2
checksum_case true on h = omega arith
checksum_case false on h = h

-- they are as narrow as those that came
pub next_small : (far : Bool) (arrival code : ℕ) (h : Header) {f : Fields} → Sound h → f ≡ next_fields far arrival code h.fields
    → (f.tpid < 16) × ((f.checksum < 2) × (f.intermediate < 2))
unfolding next_fields
next_small far arrival code h s e =
    rw e (s.tpid, (checksum_case (asks_checksum code) h.fields.checksum s.checksum, s.intermediate))

-- a header has 50 octets at the most
pub small_size : (f : Fields) → f.checksum < 2 → size_of f ≤ longest_header
unfolding size_of
small_size f h = omega (arith, rest_le f, present_le (second_octet f), present_le (third_octet f))

-- ---- the length
module _ (far : Bool) (arrival code : ℕ) (h : Header) (s : Sound h) {t : Bool} (et : t ≡ rewrites far code h.fields) where
  pub length_kept : t ≡ false → (h.length ≡ next_length far arrival code h) × (h.length < 2 * length_limit)
  unfolding next_length
  length_kept ht = (rw (← et, ht), omega (arith, s.short))

  pub length_made : t ≡ true → {f : Fields} {n : ℕ} → f ≡ next_fields far arrival code h.fields → n ≡ size_of f
      → (n + (h.length - h.size) ≡ next_length far arrival code h) × (n + (h.length - h.size) < 2 * length_limit)
  unfolding next_length
  length_made ht {f} {n} ef en =
      let small = next_small far arrival code h s ef in
      let few = small_size f small.1.0 in
      (rw (← et, ht, ← ef, ← en), omega (arith, few, en, s.short))

-- ---- the header
module _ (far : Bool) (arrival code : ℕ) (h : Header) (octets lent : List ℕ) (is : h ≡ header_of octets) {t : Bool} (et : t ≡ rewrites far code h.fields) {out : List ℕ} where
  pub header_kept : t ≡ false → (places_of octets).size ≤ length octets → {n : ℕ} → n ≡ (places_of octets).size → out ≡ fronted (header_sent_on octets) lent
      → (n ≡ length (next_header far arrival code octets)) × (out ≡ fronted (next_header far arrival code octets) lent)
  unfolding next_header
  header_kept ht inside en e = rw (← is, ← et, ht) (en ∙ sym (sent_length octets inside), e)

  pub header_made : t ≡ true → {f : Fields} → f ≡ next_fields far arrival code h.fields → f.checksum < 2 → {n : ℕ} → n ≡ size_of f
      → out ≡ fronted (header_octets f (h.length - h.size)) lent
      → (n ≡ length (next_header far arrival code octets)) × (out ≡ fronted (next_header far arrival code octets) lent)
  unfolding next_header
  header_made ht {f} ef small en e = rw (← is, ← et, ht, ← ef) (en ∙ sym (header_length f (h.length - h.size) small), e)

-- ---- the copies
pub octets_none : (rewritten far : ℕ) (l : Leg) → rewritten ≡ 0 → 0 ≡ rewritten_octets rewritten far l
octets_none rewritten far l h = simp (eq-eqb rewritten 0 h)

pub legs_none : (took domain : ℕ) (l : Leg) → took ≡ 0 → {x : Legs} → x ≡ no_legs → x ≡ legs_of took domain l
unfolding legs_of
legs_none took domain l h e = simp (eq-eqb took 0 h) e

pub legs_made : (took domain : ℕ) (l : Leg) → (took ≡ 0 → ⊥) → {far rewritten n : ℕ}
    → far ≡ except_by took domain → rewritten ≡ rewritten_among took far l.code l.header.fields → n ≡ rewritten_octets rewritten far l
    → ◌≡◌ {A = Legs} (record { arrival = l.arrival; code = l.code; far = far; rewritten = rewritten; octets = n }) (legs_of took domain l)
unfolding legs_of
legs_made took domain l h ef er en = simp (ne_eqb took 0 h) cc
