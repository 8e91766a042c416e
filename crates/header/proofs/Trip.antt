-- "Reading what it built gives the same fields" (page 01, "Refusal numbers"). The octets are passed once from the front: each element stands
-- where the one before it ends, and is read there as it was. Assumes nothing.
use native.Mathlib.Omega.{arith}
use Prim.Native.Nat.{ℕ, ◌+◌, ◌*◌, ◌/◌, ◌%◌, ◌≤◌, ◌<◌}
use mathlib.Core.Path.{◌≡◌, refl, ap, sym, ◌∙◌}
use mathlib.Core.List.{List, [], ◌∷◌, ◌++◌, append_assoc}
use mathlib.Core.Bool.{Bool, true, false}
use lib.ListN.{length, length-append}
use lib.Seq.{take-append_seam, drop-append_seam}
use lib.Dec.{eqb}
use borrow.Author.Tests.{eqb-true}
use Rattle.checks.specs.Order.{pick}
use Rattle.octets.specs.Octets.{octet, number, octets}
use Rattle.octets.proofs.Laws.{length_octets}
use Rattle.checksum.specs.Sum.{checksum_of, element_of}
use Rattle.header.specs.Limits.{most_data, length_limit}
use Rattle.header.specs.Form.{third_follows, control_of, places_of, layout_of, qos_place, hops_place, stamp_place, expanded_place, checksum_place, has_qos, has_hops, has_expanded, stamp_format}
use Rattle.header.specs.Read.{addresses_of, qos_of, octet_of, stamp_of, length_of, fields_of, header_of, read_of}
use Rattle.header.specs.Build.{addresses_octets, qos_octets, octet_octets, stamp_octets, present, front_octets, rest_octets, body_octets, checksum_octets, header_octets, size_of}
use Rattle.header.specs.Range.{InRange}
use Rattle.header.specs.declared.Control.{Control}
use Rattle.header.specs.declared.Fields.{Fields}
use Rattle.checks.specs.Told.{Good}
use Rattle.header.proofs.Passed.{read_passed}
use Rattle.header.proofs.Pieces.{Stands, stands_after, number_there, addresses_length, addresses_read, qos_length, qos_read, octet_length, octet_read, stamp_size_lem, stamp_read, present_read}
use Rattle.header.proofs.Bits.{built_control, Bits, bits, not_forbidden}
use Rattle.header.proofs.BuiltLaws.{body_length, header_length, built_size}

-- ---- the elements after the control field

-- each element is read at its place, and the checksum comes after them
record Elements (s : List ℕ) (f : Fields) (k : Control) : Type 0 where
  addresses : addresses_of s k ≡ f.addresses
  qos : qos_of s (has_qos k) (qos_place k) ≡ f.qos
  hops : octet_of s (has_hops k) (hops_place k) ≡ f.hops
  stamp : stamp_of s (stamp_format k) (stamp_place k) ≡ f.stamp
  expanded : octet_of s (has_expanded k) (expanded_place s k) ≡ f.expanded
  end : checksum_place s k ≡ k.end + length (rest_octets f)

-- what comes after the addresses
abbrev rest : Fields → List ℕ → List ℕ
rest f last = qos_octets f.qos ++ (octet_octets f.hops ++ (stamp_octets f.stamp ++ (octet_octets f.expanded ++ last)))

elements : {s : List ℕ} (f : Fields) (k : Control) (last : List ℕ) → InRange f → Bits f k
    → Stands s k.end (addresses_octets f.addresses) (rest f last) → Elements s f k
unfolding rest_octets
elements {s} f k last r b addresses =
    let size = addresses_length k f.addresses b.addresses in
    let qos = stands_after (qos_octets f.qos) (qos_place k) addresses (omega arith) in
    let hops = stands_after (octet_octets f.hops) (hops_place k) qos (rw (b.qos, qos_length f.qos)) in
    let stamp = stands_after (stamp_octets f.stamp) (stamp_place k) hops (rw (b.hops, octet_length f.hops)) in
    let stamp-end : expanded_place s k ≡ stamp_place k + length (stamp_octets f.stamp) = rw (b.stamp, stamp_size_lem f.stamp stamp r.stamp) in
    let expanded = stands_after (octet_octets f.expanded) (expanded_place s k) stamp stamp-end in
    record {
      addresses = addresses_read k f.addresses b.addresses addresses r.addresses;
      qos = rw b.qos (qos_read f.qos qos r.qos);
      hops = rw b.hops (octet_read f.hops hops r.hops);
      stamp = rw b.stamp (stamp_read f.stamp stamp r.stamp);
      expanded = rw b.expanded (octet_read f.expanded expanded r.expanded);
      end = simp (length-append, qos_length, octet_length) (omega arith);
    }

-- ---- the front: length field, TP-ID and control field

-- what the front says, and that the addresses stand behind it
record Front (s : List ℕ) (f : Fields) (len : ℕ) (last : List ℕ) : Type 0 where
  version : octet s 0 / 32 ≡ 1
  length_is : length_of s ≡ len
  tpid : octet s 2 / 16 ≡ f.tpid
  control : control_of s ≡ built_control f
  addresses : Stands s (built_control f).end (addresses_octets f.addresses) (rest f last)

-- the third control octet stands at 4, since without a second there is none
third_place : (s : List ℕ) (t : Bool) (second on : ℕ) → eqb second 0 ≡ t → third_follows second ≡ on → on * octet s (3 + pick t 0 1) ≡ on * octet s 4
third_place s true second on e h =
    let z : on ≡ 0 = omega (arith, eqb-true second 0 e) in
    rw z (omega arith)
third_place s false second on e h = refl

front : (f : Fields) (len : ℕ) (last : List ℕ) → InRange f → len < length_limit → Front (body_octets f len ++ last) f len last
unfolding length_of control_of body_octets front_octets rest_octets octets built_control
front f len last r short =
    let s = body_octets f len ++ last in
    let k = built_control f in
    let b = bits f r in
    let second : Stands s 3 (octets (present k.second) k.second) (octets (present k.third) k.third ++ (addresses_octets f.addresses ++ rest f last)) =
    record { is = simp append_assoc } in
    let third = stands_after (octets (present k.third) k.third) (3 + present k.second) second (rw (length_octets (present k.second) k.second)) in
    let fixed : octet s 2 ≡ f.tpid * 16 + k.first = omega (arith, b.first_lt, r.tpid) in
    let is-first : octet s 2 % 16 ≡ k.first = rw fixed (omega (arith, b.first_lt)) in
    let is-second = present_read k.second second b.second_lt in
    let is-third = present_read k.third third b.third_lt in
    let place = third_place s (eqb k.second 0) k.second (present k.third) refl b.most in
    record {
      version = omega arith;
      length_is = omega arith;
      tpid = rw fixed (omega (arith, b.first_lt));
      control = rw (is-first, b.more, is-second, b.most, ← place, is-third);
      addresses = stands_after (addresses_octets f.addresses) k.end third (rw (length_octets (present k.third) k.third));
    }

-- ---- the header whole

-- what is read of octets that begin with a header up to its checksum
record Begun (s : List ℕ) (f : Fields) (len : ℕ) : Type 0 where
  version : octet s 0 / 32 ≡ 1
  control : control_of s ≡ built_control f
  checksum : (places_of s).checksum ≡ length (body_octets f len)
  fields : fields_of s (control_of s) (places_of s) ≡ f
  length_is : length_of s ≡ len
  size : (places_of s).size ≡ size_of f

begun : (f : Fields) (len : ℕ) (last : List ℕ) → InRange f → len < length_limit → Begun (body_octets f len ++ last) f len
unfolding fields_of layout_of size_of built_control
begun f len last r short =
    let b = bits f r in
    let h = front f len last r short in
    let e = elements f (built_control f) last r b h.addresses in
    record {
      version = h.version;
      control = h.control;
      checksum = rw (h.control, e.end, body_length f len);
      fields = rw (h.control, h.tpid, e.addresses, e.qos, e.hops, e.stamp, e.expanded, b.checksum, b.intermediate);
      length_is = h.length_is;
      size = rw (h.control, e.end, b.checksum);
    }

-- the control field of a header of the built form, whatever stands behind it, wherever the datagram's length fits its field
pub formed_control : (f : Fields) (n : ℕ) (rest : List ℕ) → InRange f → size_of f + n < length_limit → control_of (header_octets f n ++ rest) ≡ built_control f
unfolding header_octets
formed_control f n rest r short =
    let body = body_octets f (size_of f + n) in
    rw (append_assoc body (checksum_octets f.checksum body) rest) (begun f (size_of f + n) (checksum_octets f.checksum body ++ rest) r short).control

-- a checksum element that is asked for is what it should be
pub right : (on : ℕ) (body user_data : List ℕ) → on ≡ 1
    → number (body ++ (checksum_octets on body ++ user_data)) (length body) 2 ≡ element_of (body ++ (checksum_octets on body ++ user_data)) (length body)
unfolding element_of checksum_octets
right on body user_data e =
    let s = body ++ (checksum_octets on body ++ user_data) in
    let there : Stands s (length body) (octets 2 (checksum_of (body ++ 0 ∷ 0 ∷ []))) user_data = record { is = rw e (drop-append_seam body _) } in
    number_there 2 _ there (omega arith) ∙ rw (take-append_seam body (checksum_octets on body ++ user_data))

-- a header of the built form, with at least n octets behind it, is read as what it was built from, wherever the datagram's length fits its field
pub read_formed : (f : Fields) (n : ℕ) (user_data : List ℕ) → InRange f → size_of f + n < length_limit → n ≤ length user_data
    → read_of (header_octets f n ++ user_data) ≡ Good (record { fields = f; length = size_of f + n; size = size_of f })
unfolding header_octets header_of size_of built_control
read_formed f n user_data r short enough =
    let len = size_of f + n in
    let body = body_octets f len in
    let s = body ++ (checksum_octets f.checksum body ++ user_data) in
    let size = built_size f r in
    let b = begun f len (checksum_octets f.checksum body ++ user_data) r short in
    let cut : header_octets f n ++ user_data ≡ s = append_assoc body _ user_data in
    let long : length s ≡ size_of f + length user_data =
    omega (arith, ap length cut, length-append (header_octets f n) user_data, header_length f n r.checksum) in
    rw cut
    (read_passed s _
    (record {
      long = omega arith;
      version = b.version;
      whole = rw b.control (omega arith);
      allowed = rw b.control (not_forbidden (built_control f) (bits f r).allowed);
      inside = rw b.length_is (omega arith);
      fits = rw (b.size, b.length_is) (omega arith);
      right = λ on. rw b.checksum (right f.checksum body user_data (sym (bits f r).checksum ∙ rw b.control at on));
      is = rw (b.fields, b.length_is, b.size);
    }))

-- with the builder's limit of data it always does
pub read_built : (f : Fields) (n : ℕ) (user_data : List ℕ) → InRange f → n ≤ most_data → n ≤ length user_data
    → read_of (header_octets f n ++ user_data) ≡ Good (record { fields = f; length = size_of f + n; size = size_of f })
read_built f n user_data r few enough = read_formed f n user_data r (omega (arith, (built_size f r).1)) enough
