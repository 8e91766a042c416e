-- The copy reads back as the fields that came, with the changes that `next_fields` states and no others, and its length field is header plus data: page 02,
-- W-214. So for a header of the built form, and for one that keeps the form in which it came. Assumes nothing.
use native.Mathlib.Omega.{arith}
use Prim.Native.Nat.{ℕ, ◌+◌, ◌-◌, ◌^◌, ◌≤◌, ◌<◌}
use mathlib.Core.Path.{◌≡◌, refl}
use mathlib.Core.List.{List, ◌++◌}
use mathlib.Core.Bool.{Bool, true, false, ◌&&◌}
use lib.Dec.{eqb}
use lib.ListN.{get_or, length, drop, length-drop}
use borrow.Author.Tests.{eqb-false}
use Rattle.std.specs.Prelude.{Option, Some, None}
use Rattle.checks.specs.Order.{pick}
use Rattle.checks.proofs.Bools.{true_false, or_false}
use Rattle.checks.proofs.Laws.{either}
use Rattle.header.specs.Limits.{length_limit}
use Rattle.header.specs.Form.{control_of}
use Rattle.header.specs.Read.{header_of, read_of}
use Rattle.header.specs.Build.{size_of}
use Rattle.header.specs.Shortest.{Shortest, UnusedZero}
use Rattle.header.specs.Onward.{one_less, with_hops}
use Rattle.header.specs.Range.{AddressesFit, OctetFits, InRange}
use Rattle.header.specs.declared.Addresses.{Addresses}
use Rattle.header.specs.declared.Addresses.TheVariants.{BasicPath, ExtendedPath, BasicEndSystem, ExtendedEndSystem, Ipv6}
use Rattle.header.specs.declared.Fields.{Fields}
use Rattle.header.specs.declared.Header.{Header}
use Rattle.checks.specs.Told.{Good}
use Rattle.header.proofs.Passed.{passed}
use Rattle.header.proofs.Answers.{read_in_range, read_bounds}
use Rattle.header.proofs.BuiltLaws.{header_length, header_small}
use Rattle.header.proofs.Trip.{read_formed}
use Rattle.header.proofs.Shortest.{formed_shortest}
use Rattle.header.proofs.SentOn.{sent_small, sent_size, read_sent_on}
use Rattle.meaning.specs.Names.{filled_in}
use Rattle.next_leg.specs.Leg.{asks_hops, asks_checksum, adds_hops, adds_checksum, adds, is_narrow, widened, widens, rewrites, hops_next, checksum_next, next_fields, data_of, next_size, next_length, next_header}
use Rattle.next_leg.proofs.Made.{checksum_case}

-- ---- what is built anew is in range

filled_fits : (arrival z : ℕ) → arrival < 2 ^ 32 → z < 256 → filled_in arrival z < 256 ^ 4
filled_fits arrival z a h = omega arith

pub widened_fits : (arrival : ℕ) (a : Addresses) → arrival < 2 ^ 32 → AddressesFit a → AddressesFit (widened arrival a)
widened_fits arrival (BasicPath z) h fits = fits
widened_fits arrival (ExtendedPath p) h fits = fits
widened_fits arrival (BasicEndSystem d s) h fits = (filled_fits arrival d h fits.0, filled_fits arrival s h fits.1)
widened_fits arrival (ExtendedEndSystem d s) h fits = fits
widened_fits arrival (Ipv6 d s) h fits = fits

hops_fit : (code : ℕ) (h : Option ℕ) → OctetFits h → OctetFits (hops_next code h)
hops_fit code None fits = either OctetFits (asks_hops code) (omega arith) tt
hops_fit code (Some v) fits = omega arith

next_in_range : (far : Bool) (arrival code : ℕ) (f : Fields) → arrival < 2 ^ 32 → InRange f → InRange (next_fields far arrival code f)
unfolding next_fields
next_in_range far arrival code f h r =
    record {
      tpid = r.tpid;
      addresses = either AddressesFit far (widened_fits arrival f.addresses h r.addresses) r.addresses;
      qos = r.qos;
      hops = hops_fit code f.hops r.hops;
      stamp = r.stamp;
      expanded = r.expanded;
      checksum = checksum_case (asks_checksum code) f.checksum r.checksum;
      intermediate = r.intermediate;
    }

-- ---- where nothing is widened and nothing added, the hop count is one less and all else as it came

wide_kept : (arrival : ℕ) (a : Addresses) → is_narrow a ≡ false → widened arrival a ≡ a
wide_kept arrival (BasicPath z) e = refl
wide_kept arrival (ExtendedPath p) e = refl
wide_kept arrival (BasicEndSystem d s) e = true_false e
wide_kept arrival (ExtendedEndSystem d s) e = refl
wide_kept arrival (Ipv6 d s) e = refl

-- what is not both asked and lacking stays, since what is not lacking is the same
same_kept : {A : Type 0} (asked lacking : Bool) {a b : A} → (asked && lacking) ≡ false → (lacking ≡ false → a ≡ b) → pick asked a b ≡ b
same_kept true lacking e same = same e
same_kept false lacking e same = refl

hops_kept : (code : ℕ) (h : Option ℕ) → adds_hops code h ≡ false → hops_next code h ≡ one_less h
hops_kept code None e = same_kept (asks_hops code) true e true_false
hops_kept code (Some v) e = refl

checksum_kept : (code on : ℕ) → on < 2 → adds_checksum code on ≡ false → checksum_next code on ≡ on
checksum_kept code on fits e = same_kept (asks_checksum code) (eqb on 0) e (λ z. omega (arith, eqb-false on 0 z))

fields_kept : (far : Bool) (arrival code : ℕ) (h : Header) → h.fields.checksum < 2 → rewrites far code h.fields ≡ false
    → next_fields far arrival code h.fields ≡ (with_hops (one_less h.fields.hops) h).fields
unfolding rewrites next_fields
fields_kept far arrival code h fits e =
    let f = h.fields in
    let apart = or_false (widens far f.addresses) (adds code f) e in
    let none = or_false (adds_hops code f.hops) (adds_checksum code f.checksum) apart.1 in
    rw
    (same_kept far (is_narrow f.addresses) apart.0 (wide_kept arrival f.addresses), hops_kept code f.hops none.0, checksum_kept code f.checksum fits none.1)

-- ---- the laws

parts_case : (t : Bool) (n size len : ℕ) → size ≤ len → pick t (n + (len - size)) len ≡ pick t n size + (len - size)
parts_case true n size len fits = refl
parts_case false n size len fits = omega arith

-- the copy's length field is its header plus the data
pub next_length_parts : (far : Bool) (arrival code : ℕ) (h : Header) → h.size ≤ h.length → next_length far arrival code h ≡ next_size far arrival code h + data_of h
unfolding next_length next_size
next_length_parts far arrival code h fits =
    parts_case (rewrites far code h.fields) (size_of (next_fields far arrival code h.fields)) h.size h.length fits

-- each octet of its header is below 256
pub next_small_octets : (far : Bool) (arrival code : ℕ) (s : List ℕ) → ((i : ℕ) → get_or s i 0 < 256) → (i : ℕ) → get_or (next_header far arrival code s) i 0 < 256
unfolding next_header
next_small_octets far arrival code s small =
    either (λ (l : List ℕ). (i : ℕ) → get_or l i 0 < 256) (rewrites far code (header_of s).fields) (header_small _ _) (sent_small s small)

module _ (far : Bool) (arrival code : ℕ) (s : List ℕ) (h : Header) (small : (i : ℕ) → get_or s i 0 < 256) where
  length_case : (t : Bool) → rewrites far code h.fields ≡ t → read_of s ≡ Good h → length (next_header far arrival code s) ≡ next_size far arrival code h
  unfolding next_header next_size next_fields
  length_case true is e =
      rw (← (passed s h e).is, is)
      (header_length (next_fields far arrival code h.fields) (data_of h) (checksum_case (asks_checksum code) h.fields.checksum (read_in_range s h small e).checksum))
  length_case false is e = rw (← (passed s h e).is, is) (sent_size s h small e)

  -- it has the octets that its size says
  pub next_header_length : read_of s ≡ Good h → length (next_header far arrival code s) ≡ next_size far arrival code h
  next_header_length = length_case _ refl

  read_case : (t : Bool) → rewrites far code h.fields ≡ t → arrival < 2 ^ 32 → read_of s ≡ Good h → next_length far arrival code h < length_limit
      → read_of (next_header far arrival code s ++ drop h.size s)
      ≡ Good (record { fields = next_fields far arrival code h.fields; length = next_length far arrival code h; size = next_size far arrival code h })
  unfolding next_header next_size next_length
  read_case true is here e short =
      let range = next_in_range far arrival code h.fields here (read_in_range s h small e) in
      let bounds = read_bounds s h small e in
      rw (← (passed s h e).is, is) (read_formed (next_fields far arrival code h.fields) (data_of h) (drop h.size s) range (rw is at short) (simp length-drop (omega arith)))
  read_case false is here e short = rw (← (passed s h e).is, is, fields_kept far arrival code h (read_in_range s h small e).checksum is) (read_sent_on s h small e)

  -- the copy, header and data, is read as the next fields, with their length and size
  pub read_next : arrival < 2 ^ 32 → read_of s ≡ Good h → next_length far arrival code h < length_limit
      → read_of (next_header far arrival code s ++ drop h.size s)
      ≡ Good (record { fields = next_fields far arrival code h.fields; length = next_length far arrival code h; size = next_size far arrival code h })
  read_next = read_case _ refl

  -- "A rewritten header has the built form" (page 01), whatever stands behind it: the shortest control field, and unused bits that are zero
  pub rewritten_shortest : arrival < 2 ^ 32 → read_of s ≡ Good h → next_length far arrival code h < length_limit → rewrites far code h.fields ≡ true → (rest : List ℕ)
      → Shortest (control_of (next_header far arrival code s ++ rest)) × UnusedZero (control_of (next_header far arrival code s ++ rest))
  unfolding next_header next_length
  rewritten_shortest here e short is rest =
      let range = next_in_range far arrival code h.fields here (read_in_range s h small e) in
      rw (← (passed s h e).is, is) (formed_shortest (next_fields far arrival code h.fields) (data_of h) rest range (rw is at short))
