-- Numbers and fields are each other's inverse: `fields_from` and `numbers_of` lead back to where one started, so numbers are refused exactly
-- where no fields have them. Shown of each element by the values of its flags, or by its variants. Assumes nothing.
use native.Mathlib.Omega.{arith}
use native.Mathlib.Nat.{mod-eq_of_lt}
use Prim.Native.Nat.{ℕ, zero, suc, ◌%◌, ◌^◌, ◌<◌}
use mathlib.Core.Path.{◌≡◌, refl, sym, ◌∙◌}
use mathlib.Core.Bool.{Bool, true, false, not, ◌&&◌, ◌||◌}
use lib.Dec.{eqb, leb}
use borrow.Author.Tests.{eqb-true, leb-false, lt-leb}
use Rattle.std.specs.Prelude.{Option, Some, None}
use Rattle.checks.specs.Order.{pick}
use Rattle.checks.proofs.Bools.{true_false, or_false, not-false}
use Rattle.header.specs.Build.{source_flag, extended_flag, ipv6_flag, qos_flag, octet_flag, format_of}
use Rattle.header.specs.Range.{AddressesFit, OctetFits, QosTyped, StampTyped, Typed}
use Rattle.header.specs.declared.Addresses.{Addresses}
use Rattle.header.specs.declared.Addresses.TheVariants.{BasicPath, ExtendedPath, BasicEndSystem, ExtendedEndSystem, Ipv6}
use Rattle.header.specs.declared.Qos.{Qos}
use Rattle.header.specs.declared.Timestamp.{Timestamp}
use Rattle.header.specs.declared.Timestamp.TheVariants as stamp
use Rattle.header.specs.declared.Fields.{Fields}
use Rattle.numbers.specs.Numbers.{narrow, destination_number, source_number, precedence_number, routing_number, program_number, octet_number, time_number, pfield_number, numbers_of}
use Rattle.numbers.specs.declared.Wide.{Wide}
use Rattle.numbers.specs.declared.Numbers.{Numbers}
use Rattle.numbers.specs.Fields.{addresses_from, qos_from, octet_from, stamp_from, fields_from}
use Rattle.numbers.specs.Out.{wide_out, any_over, address_flags_out, address_widths_out, octet_out, qos_out, stamp_out, octets_out, elements_out, numbers_out}

-- ---- from numbers to fields and back

-- a flag, by the test of it that `addresses_from` makes
flag : (x : ℕ) → x < 2 → x ≡ pick (eqb x 1) 1 0
flag zero h = refl
flag (suc zero) h = refl
flag (suc (suc x)) h = absurd (omega arith)

wide_is : (w : Wide) (low : ℕ) → w.high ≡ 0 → w.low ≡ low → w ≡ narrow low
wide_is w low h l = rw (← l, ← h)

narrow_back : (m : ℕ) (w : Wide) → wide_out m w ≡ false → w ≡ narrow (w.low % m)
narrow_back m w h =
    let p = or_false (not (eqb w.high 0)) (leb m w.low) h in
    wide_is w (w.low % m) (eqb-true w.high 0 (not-false (eqb w.high 0) p.0)) (sym (mod-eq_of_lt (leb-false m w.low p.1)))

absent_back : (w : Wide) → wide_out 1 w ≡ false → w ≡ narrow 0
absent_back w h = narrow_back 1 w h ∙ rw (let z : w.low % 1 ≡ 0 = omega arith in z)

-- the addresses have these numbers
record AddressesBack (n : Numbers) (a : Addresses) : Type 0 where
  destination : n.destination ≡ destination_number a
  source : n.source ≡ source_number a
  sourced : n.sourced ≡ source_flag a
  extended : n.extended ≡ extended_flag a
  ipv6 : n.ipv6 ≡ ipv6_flag a

module _ (n : Numbers) (six : (eqb n.ipv6 1 && (eqb n.extended 1 || eqb n.sourced 0)) ≡ false) (widths : address_widths_out n ≡ false) where
  addresses_case : (i e s : Bool) → n.ipv6 ≡ pick i 1 0 → n.extended ≡ pick e 1 0 → n.sourced ≡ pick s 1 0 → AddressesBack n (addresses_from n)
  unfolding addresses_from address_widths_out
  addresses_case true true s is-i is-e is-s = true_false (rw (is-i, is-e) at six)
  addresses_case true false false is-i is-e is-s = true_false (rw (is-i, is-e, is-s) at six)
  addresses_case true false true is-i is-e is-s =
      rw (is-i, is-e, is-s) (record { destination = refl; source = refl; sourced = refl; extended = refl; ipv6 = refl })
  addresses_case false true true is-i is-e is-s =
      let w = or_false (wide_out (256 ^ 4) n.destination) (wide_out (256 ^ 4) n.source) (rw (is-i, is-e, is-s) at widths) in
      rw (is-i, is-e, is-s)
      (record { destination = narrow_back (256 ^ 4) _ w.0; source = narrow_back (256 ^ 4) _ w.1; sourced = refl; extended = refl; ipv6 = refl })
  addresses_case false true false is-i is-e is-s =
      let w = or_false (wide_out (256 ^ 4) n.destination) (wide_out 1 n.source) (rw (is-i, is-e, is-s) at widths) in
      rw (is-i, is-e, is-s)
      (record { destination = narrow_back (256 ^ 4) _ w.0; source = absent_back _ w.1; sourced = refl; extended = refl; ipv6 = refl })
  addresses_case false false true is-i is-e is-s =
      let w = or_false (wide_out 256 n.destination) (wide_out 256 n.source) (rw (is-i, is-e, is-s) at widths) in
      rw (is-i, is-e, is-s)
      (record { destination = narrow_back 256 _ w.0; source = narrow_back 256 _ w.1; sourced = refl; extended = refl; ipv6 = refl })
  addresses_case false false false is-i is-e is-s =
      let w = or_false (wide_out 256 n.destination) (wide_out 1 n.source) (rw (is-i, is-e, is-s) at widths) in
      rw (is-i, is-e, is-s)
      (record { destination = narrow_back 256 _ w.0; source = absent_back _ w.1; sourced = refl; extended = refl; ipv6 = refl })

all_under : (m x y z : ℕ) → any_over m x y z ≡ false → (x < m) × (y < m) × (z < m)
unfolding any_over
all_under m x y z h =
    let p = or_false (leb m x) _ h in
    let q = or_false (leb m y) (leb m z) p.1 in
    (leb-false m x p.0, leb-false m y q.0, leb-false m z q.1)

addresses_back : (n : Numbers) → address_flags_out n ≡ false → address_widths_out n ≡ false → AddressesBack n (addresses_from n)
unfolding address_flags_out
addresses_back n h widths =
    let p = or_false (any_over 2 n.sourced n.extended n.ipv6) _ h in
    let under = all_under 2 n.sourced n.extended n.ipv6 p.0 in
    addresses_case n p.1 widths (eqb n.ipv6 1) (eqb n.extended 1) (eqb n.sourced 1) (flag n.ipv6 under.2)
    (flag n.extended under.1)
    (flag n.sourced under.0)

octet_in : (on v : ℕ) → octet_out on v ≡ false → (on < 2) × (v < pick (eqb on 0) 1 256)
unfolding octet_out
octet_in on v h =
    let p = or_false (leb 2 on) _ h in
    (leb-false 2 on p.0, leb-false _ v p.1)

octet_back : (on v : ℕ) → octet_out on v ≡ false → (on ≡ octet_flag (octet_from on v)) × (v ≡ octet_number (octet_from on v))
unfolding octet_from
octet_back zero v h = (refl, omega (arith, (octet_in 0 v h).1))
octet_back (suc zero) v h = (refl, sym (mod-eq_of_lt (octet_in 1 v h).1))
octet_back (suc (suc on)) v h = absurd (omega (arith, (octet_in (suc (suc on)) v h).0))

-- basic QOS has these numbers
record QosBack (n : Numbers) (q : Option Qos) : Type 0 where
  qualified : n.qualified ≡ qos_flag q
  precedence : n.precedence ≡ precedence_number q
  routing : n.routing ≡ routing_number q
  program : n.program ≡ program_number q

qos_case : (n : Numbers) (on m : ℕ) → n.qualified ≡ on → on < 2 → pick (eqb on 0) 1 256 ≡ m → n.precedence < m → n.routing < m → n.program < m
    → QosBack n (qos_from n)
unfolding qos_from
qos_case n zero m e h l a b c = rw e (record { qualified = refl; precedence = omega arith; routing = omega arith; program = omega arith })
qos_case n (suc zero) m e h l a b c =
    rw e
    (record { qualified = refl; precedence = sym (mod-eq_of_lt (rw (← l) at a)); routing = sym (mod-eq_of_lt (rw (← l) at b)); program = sym (mod-eq_of_lt (rw (← l) at c)) })
qos_case n (suc (suc on)) m e h l a b c = absurd (omega arith)

qos_back : (n : Numbers) → qos_out n ≡ false → QosBack n (qos_from n)
qos_back n h =
    let p = or_false (octet_out n.qualified n.precedence) _ h in
    let q = or_false (octet_out n.qualified n.routing) _ p.1 in
    let precedence = octet_in n.qualified n.precedence p.0 in
    let routing = octet_in n.qualified n.routing q.0 in
    let program = octet_in n.qualified n.program q.1 in
    qos_case n n.qualified _ refl precedence.0 refl precedence.1 routing.1 program.1

-- the timestamp has these numbers
record StampBack (n : Numbers) (t : Option Timestamp) : Type 0 where
  time : n.time ≡ time_number t
  format : n.format ≡ format_of t
  pfield : n.pfield ≡ pfield_number t

stamp_back : (n : Numbers) (format : ℕ) → n.format ≡ format → stamp_out n ≡ false → StampBack n (stamp_from n)
unfolding stamp_out stamp_from
stamp_back n zero e h =
    let p = or_false (leb 1 n.pfield) (not (eqb n.time 0)) (rw e at h) in
    let none = leb-false 1 n.pfield p.0 in
    rw e (record { time = eqb-true n.time 0 (not-false (eqb n.time 0) p.1); format = refl; pfield = omega arith })
stamp_back n (suc zero) e h =
    let none = leb-false 1 n.pfield (or_false (leb 1 n.pfield) false (rw e at h)).0 in
    rw e (record { time = refl; format = refl; pfield = omega arith })
stamp_back n (suc (suc zero)) e h =
    let octet = leb-false 256 n.pfield (or_false (leb 256 n.pfield) false (rw e at h)).0 in
    rw e (record { time = refl; format = refl; pfield = sym (mod-eq_of_lt octet) })
stamp_back n (suc (suc (suc zero))) e h =
    let none = leb-false 1 n.pfield (or_false (leb 1 n.pfield) false (rw e at h)).0 in
    rw e (record { time = refl; format = refl; pfield = omega arith })
stamp_back n (suc (suc (suc (suc format)))) e h =
    let few = leb-false 4 n.format (or_false (leb 4 n.format) _ h).0 in
    absurd (omega arith)

-- numbers that are not refused are those of the fields that they stand for
pub numbers_back : (n : Numbers) → numbers_out n ≡ false → numbers_of (fields_from n) ≡ n
unfolding numbers_out elements_out numbers_of fields_from
numbers_back n h =
    let p = or_false (octets_out n) _ h in
    let q = or_false (address_flags_out n) _ p.1 in
    let r = or_false (address_widths_out n) (elements_out n) q.1 in
    let s = or_false (qos_out n) _ r.1 in
    let t = or_false (octet_out n.counted n.hops) _ s.1 in
    let u = or_false (octet_out n.expands n.expanded) (stamp_out n) t.1 in
    let under = all_under 256 n.tpid n.checksum n.intermediate p.0 in
    let addresses = addresses_back n q.0 r.0 in
    let qos = qos_back n s.0 in
    let hops = octet_back n.counted n.hops t.0 in
    let expanded = octet_back n.expands n.expanded u.0 in
    let stamp = stamp_back n n.format refl u.1 in
    let tpid = mod-eq_of_lt under.0 in
    let checksum = mod-eq_of_lt under.1 in
    let intermediate = mod-eq_of_lt under.2 in
    rw
    (← addresses.destination, ← addresses.source, ← addresses.sourced, ← addresses.extended, ← addresses.ipv6, ← qos.qualified, ← qos.precedence, ← qos.routing, ← qos.program, ← hops.0, ← hops.1, ← stamp.time, ← stamp.format, ← stamp.pfield, ← expanded.0, ← expanded.1, tpid, checksum, intermediate)

-- ---- from fields to numbers and back

addresses_there : (f : Fields) (a : Addresses) → f.addresses ≡ a → AddressesFit a
    → (address_flags_out (numbers_of f) ≡ false) × ((address_widths_out (numbers_of f) ≡ false) × (addresses_from (numbers_of f) ≡ a))
unfolding numbers_of any_over address_flags_out address_widths_out addresses_from
addresses_there f (BasicPath d) e t = rw e (refl, (simp (lt-leb 256 d t), rw (mod-eq_of_lt t)))
addresses_there f (ExtendedPath p) e t = rw e (refl, (simp (lt-leb (256 ^ 4) p.0 t), rw (mod-eq_of_lt t)))
addresses_there f (BasicEndSystem d s) e t =
    rw e (refl, (simp (lt-leb 256 d t.0, lt-leb 256 s t.1), rw (mod-eq_of_lt t.0, mod-eq_of_lt t.1)))
addresses_there f (ExtendedEndSystem d s) e t =
    rw e (refl, (simp (lt-leb (256 ^ 4) d.0 t.0, lt-leb (256 ^ 4) s.0 t.1), rw (mod-eq_of_lt t.0, mod-eq_of_lt t.1)))
addresses_there f (Ipv6 d s) e t = rw e (refl, (refl, refl))

octet_there : (o : Option ℕ) → OctetFits o → (octet_out (octet_flag o) (octet_number o) ≡ false) × (octet_from (octet_flag o) (octet_number o) ≡ o)
unfolding octet_out octet_from
octet_there None t = (refl, refl)
octet_there (Some v) t = (lt-leb 256 v t, rw (mod-eq_of_lt t))

qos_there : (f : Fields) (q : Option Qos) → f.qos ≡ q → QosTyped q → (qos_out (numbers_of f) ≡ false) × (qos_from (numbers_of f) ≡ q)
unfolding numbers_of octet_out qos_from
qos_there f None e t = rw e (refl, refl)
qos_there f (Some q) e t =
    rw e
    (simp (lt-leb 256 q.precedence t.0, lt-leb 256 q.routing t.1.0, lt-leb 256 q.program t.1.1), rw (mod-eq_of_lt t.0, mod-eq_of_lt t.1.0, mod-eq_of_lt t.1.1))

stamp_there : (f : Fields) (m : Option Timestamp) → f.stamp ≡ m → StampTyped m → (stamp_out (numbers_of f) ≡ false) × (stamp_from (numbers_of f) ≡ m)
unfolding numbers_of stamp_out stamp_from
stamp_there f None e t = rw e (refl, refl)
stamp_there f (Some (stamp.Implicit v)) e t = rw e (refl, refl)
stamp_there f (Some (stamp.Explicit p v)) e t = rw e (simp (lt-leb 256 p t.0), rw (mod-eq_of_lt t.0))
stamp_there f (Some (stamp.Binary v)) e t = rw e (refl, refl)

-- the numbers of fields are never refused, and stand for these fields
pub fields_back : (f : Fields) → Typed f → (numbers_out (numbers_of f) ≡ false) × (fields_from (numbers_of f) ≡ f)
unfolding numbers_out any_over elements_out numbers_of fields_from
fields_back f t =
    let addresses = addresses_there f f.addresses refl t.addresses in
    let qos = qos_there f f.qos refl t.qos in
    let hops = octet_there f.hops t.hops in
    let stamp = stamp_there f f.stamp refl t.stamp in
    let expanded = octet_there f.expanded t.expanded in
    let tpid = lt-leb 256 f.tpid t.tpid in
    let checksum = lt-leb 256 f.checksum t.checksum in
    let intermediate = lt-leb 256 f.intermediate t.intermediate in (
      simp (tpid, checksum, intermediate, addresses.0, addresses.1.0, qos.0, hops.0, expanded.0, stamp.0),
      rw (addresses.1.1, qos.1, hops.1, stamp.1, expanded.1, mod-eq_of_lt t.tpid, mod-eq_of_lt t.checksum, mod-eq_of_lt t.intermediate),
    )

-- numbers that are refused are those of no fields
pub out_exactly : (n : Numbers) → numbers_out n ≡ true → (f : Fields) → Typed f → numbers_of f ≡ n → ⊥
out_exactly n h f t e = true_false (sym h ∙ rw e at (fields_back f t).0)
