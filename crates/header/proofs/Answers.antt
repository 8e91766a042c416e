-- What the reader answers is in range (page 01, refusal 19: the builder does not refuse it for a field) and within its bounds. Assumes nothing.
use native.Mathlib.Omega.{arith}
use Prim.Native.Nat.{ℕ, ◌+◌, ◌≤◌, ◌<◌}
use mathlib.Core.Path.{◌≡◌}
use mathlib.Core.List.{List}
use lib.ListN.{get_or, length}
use lib.Dec.{eqb}
use Rattle.checks.proofs.Laws.{either}
use Rattle.octets.proofs.Laws.{number_lt}
use Rattle.header.specs.Limits.{longest_header, length_limit}
use Rattle.header.specs.Form.{control_of, places_of, has_source, is_extended, is_ipv6}
use Rattle.header.specs.Read.{addresses_of, six_of, qos_of, octet_of, stamp_of, fields_of, header_of, length_of, read_of}
use Rattle.header.specs.Range.{SixFits, AddressesFit, QosFits, OctetFits, StampFits, InRange}
use Rattle.header.specs.declared.Control.{Control}
use Rattle.header.specs.declared.Layout.{Layout}
use Rattle.header.specs.declared.Header.{Header}
use Rattle.checks.specs.Told.{Good}
use Rattle.header.proofs.Bounds.{header_size}
use Rattle.header.proofs.Passed.{passed}

module _ (s : List ℕ) (small : (i : ℕ) → get_or s i 0 < 256) where
  six_fits : (at : ℕ) → SixFits (six_of s at)
  unfolding six_of
  six_fits at = (number_lt s at 8 small, number_lt s (at + 8) 8 small)

  addresses_fit : (k : Control) → AddressesFit (addresses_of s k)
  unfolding addresses_of
  addresses_fit k =
      let at = k.end in
      let four = number_lt s at 4 small in
      either AddressesFit (eqb (is_ipv6 k) 1) (six_fits at, six_fits (at + 16))
      (either AddressesFit (eqb (is_extended k) 1) (either AddressesFit (eqb (has_source k) 1) (four, number_lt s (at + 4) 4 small) four)
      (either AddressesFit (eqb (has_source k) 1) (small at, small (at + 1)) (small at)))

  qos_fits : (on at : ℕ) → QosFits (qos_of s on at)
  unfolding qos_of
  qos_fits on at = either QosFits (eqb on 0) tt (omega (arith, small at))

  octet_fits : (on at : ℕ) → OctetFits (octet_of s on at)
  unfolding octet_of
  octet_fits on at = either OctetFits (eqb on 0) tt (small at)

  stamp_fits : (format at : ℕ) → StampFits (stamp_of s format at)
  unfolding stamp_of
  stamp_fits format at =
      either StampFits (eqb format 0) tt
      (either StampFits (eqb format 1) (number_lt s at 3 small)
      (either StampFits (eqb format 2) (small at, number_lt s (at + 1) _ small) (number_lt s at 4 small)))

  -- for any octets, whatever the control field and the places
  pub fields_in_range : (k : Control) (l : Layout) → InRange (fields_of s k l)
  unfolding fields_of
  fields_in_range k l =
      record {
        tpid = omega (arith, small 2);
        addresses = addresses_fit k;
        qos = qos_fits _ _;
        hops = octet_fits _ _;
        stamp = stamp_fits _ _;
        expanded = octet_fits _ _;
        checksum = omega arith;
        intermediate = omega arith;
      }

  -- the length field has 13 bits (page 01)
  length_lt : length_of s < length_limit
  unfolding length_of
  length_lt = omega (arith, small 1)

pub read_in_range : (s : List ℕ) (h : Header) → ((i : ℕ) → get_or s i 0 < 256) → read_of s ≡ Good h → InRange h.fields
unfolding header_of
read_in_range s h small e = rw (passed s h e).is (fields_in_range s small (control_of s) (places_of s))

-- a header has 4 to 50 octets, and its length field is at least that and at most the octets lent
pub read_bounds : (s : List ℕ) (h : Header) → ((i : ℕ) → get_or s i 0 < 256) → read_of s ≡ Good h
    → (4 ≤ h.size) × ((h.size ≤ longest_header) × ((h.size ≤ h.length) × ((h.length ≤ length s) × (h.length < length_limit))))
unfolding header_of
read_bounds s h small e =
    let p = passed s h e in
    let b = header_size s in
    rw p.is (b.0, (b.1, (p.fits, (p.inside, length_lt s small))))
