-- Each element is read back from its octets, wherever it stands, and has as many octets as its flags say. Assumes nothing.
use native.Mathlib.Omega.{arith}
use Prim.Native.Nat.{ℕ, zero, suc, ◌+◌, ◌*◌, ◌/◌, ◌%◌, ◌^◌, ◌≤◌, ◌<◌}
use mathlib.Core.Path.{◌≡◌, refl, ap, sym, ◌∙◌}
use mathlib.Core.List.{List, ◌++◌, append_assoc}
use mathlib.Core.Bool.{Bool, true, false}
use lib.ListN.{length, drop, length-append}
use lib.Seq.{get_or-drop, drop-drop, drop-append_seam}
use lib.Dec.{eqb}
use borrow.Author.Tests.{eqb-true}
use Rattle.std.specs.Prelude.{Option, Some, None}
use Rattle.checks.specs.Order.{pick}
use Rattle.checks.proofs.Laws.{either}
use Rattle.octets.specs.Octets.{octet, number, octets}
use Rattle.octets.proofs.Laws.{octet_number_lem, number_append, number_octets, length_octets}
use Rattle.header.specs.Form.{is_ipv6, is_extended, has_source, address_size, time_size, stamp_size}
use Rattle.header.specs.Read.{six_of, addresses_of, qos_of, octet_of, stamp_of}
use Rattle.header.specs.Build.{six_octets, addresses_octets, qos_octets, octet_octets, stamp_octets, source_flag, extended_flag, ipv6_flag, qos_flag, octet_flag, format_of, present}
use Rattle.header.specs.Range.{SixFits, AddressesFit, QosFits, OctetFits, StampFits}
use Rattle.header.specs.declared.Control.{Control}
use Rattle.header.specs.declared.Addresses.{Addresses}
use Rattle.header.specs.declared.Addresses.TheVariants.{BasicPath, ExtendedPath, BasicEndSystem, ExtendedEndSystem, Ipv6}
use Rattle.header.specs.declared.Six.{Six}
use Rattle.header.specs.declared.Qos.{Qos}
use Rattle.header.specs.declared.Timestamp.{Timestamp}
use Rattle.header.specs.declared.Timestamp.TheVariants as stamp

-- ---- places

-- from a place on stand the octets x and then the rest
pub record Stands (s : List ℕ) (at : ℕ) (x rest : List ℕ) : Type 0 where
  pub is : drop at s ≡ x ++ rest

-- what comes after x stands at the place after x
pub stands_after : {s x rest : List ℕ} {at : ℕ} (y : List ℕ) (to : ℕ) → Stands s at x (y ++ rest) → to ≡ at + length x → Stands s to y rest
stands_after {s} {x} {rest} {at} y to h e = record { is = rw (e, ← drop-drop (length x) at s, h.is) (drop-append_seam x (y ++ rest)) }

-- of two pieces the first stands there, and the second after it
module _ {s rest : List ℕ} {at : ℕ} (x y : List ℕ) (h : Stands s at (x ++ y) rest) where
  first_of_lem : Stands s at x (y ++ rest)
  first_of_lem = record { is = h.is ∙ append_assoc x y rest }

  second_of : (n : ℕ) → length x ≡ n → Stands s (at + n) y rest
  second_of n e = stands_after y (at + n) first_of_lem (rw e)

-- ---- numbers

number_from : (s : List ℕ) (at n : ℕ) → number s at n ≡ number (drop at s) 0 n
unfolding number
number_from s at zero = refl
number_from s at (suc n) =
    let e : 0 + n ≡ n = omega arith in
    rw (number_from s at n, e, get_or-drop at s n 0)

pub number_there : {s rest : List ℕ} {at : ℕ} (n v : ℕ) → Stands s at (octets n v) rest → v < 256 ^ n → number s at n ≡ v
number_there {s} {rest} {at} n v h fits =
    let l : n ≤ length (octets n v) = omega (arith, length_octets n v) in
    rw (number_from s at n, h.is, number_append (octets n v) rest n l) (number_octets n v fits)

-- two numbers, one after the other
two_there : {s rest : List ℕ} {at : ℕ} (m v n w : ℕ) → Stands s at (octets m v ++ octets n w) rest → v < 256 ^ m → w < 256 ^ n
    → (number s at m ≡ v) × (number s (at + m) n ≡ w)
two_there {s} {rest} {at} m v n w h first second =
    (number_there m v (first_of_lem (octets m v) (octets n w) h) first, number_there n w (second_of (octets m v) (octets n w) h m (length_octets m v)) second)

-- ---- the addresses

pub six_length : (a : Six) → length (six_octets a) ≡ 16
unfolding six_octets
six_length a = simp (length-append, length_octets)

-- the control bits are those of the address type (003, table 3-6)
pub record AddressBits (k : Control) (a : Addresses) : Type 0 where
  pub ipv6 : is_ipv6 k ≡ ipv6_flag a
  pub extended : is_extended k ≡ extended_flag a
  pub source : has_source k ≡ source_flag a

pub addresses_length : (k : Control) (a : Addresses) → AddressBits k a → length (addresses_octets a) ≡ address_size k + has_source k * address_size k
unfolding addresses_octets address_size
addresses_length k (BasicPath d) b = simp (b.ipv6, b.extended, b.source, length_octets)
addresses_length k (ExtendedPath d) b = simp (b.ipv6, b.extended, b.source, length_octets)
addresses_length k (BasicEndSystem d s) b = simp (b.ipv6, b.extended, b.source, length-append, length_octets)
addresses_length k (ExtendedEndSystem d s) b = simp (b.ipv6, b.extended, b.source, length-append, length_octets)
addresses_length k (Ipv6 d s) b = simp (b.ipv6, b.extended, b.source, length-append, six_length)

six_read : {s rest : List ℕ} {at : ℕ} (a : Six) → Stands s at (six_octets a) rest → SixFits a → six_of s at ≡ a
unfolding six_of six_octets
six_read a h fits = let both = two_there 8 a.high 8 a.low h fits.0 fits.1 in rw (both.0, both.1)

pub addresses_read : {s rest : List ℕ} (k : Control) (a : Addresses) → AddressBits k a → Stands s k.end (addresses_octets a) rest → AddressesFit a
    → addresses_of s k ≡ a
unfolding addresses_of addresses_octets
addresses_read k (BasicPath d) b h fits = simp (b.ipv6, b.extended, b.source, octet_number_lem, number_there 1 d h fits)
addresses_read k (ExtendedPath d) b h fits = simp (b.ipv6, b.extended, b.source, number_there 4 d.0 h fits)
addresses_read k (BasicEndSystem d e) b h fits =
    let both = two_there 1 d 1 e h fits.0 fits.1 in
    simp (b.ipv6, b.extended, b.source, octet_number_lem, both.0, both.1)
addresses_read k (ExtendedEndSystem d e) b h fits =
    let both = two_there 4 d.0 4 e.0 h fits.0 fits.1 in
    simp (b.ipv6, b.extended, b.source, both.0, both.1)
addresses_read k (Ipv6 d e) b h fits =
    let first = six_read d (first_of_lem (six_octets d) (six_octets e) h) fits.0 in
    let second = six_read e (second_of (six_octets d) (six_octets e) h 16 (six_length d)) fits.1 in
    simp (b.ipv6, b.extended, b.source, first, second)

-- ---- the elements after the addresses

module _ {s rest : List ℕ} {at : ℕ} where
  octet_there : (v : ℕ) → Stands s at (octets 1 v) rest → v < 256 → octet s at ≡ v
  octet_there v h fits = octet_number_lem s at ∙ number_there 1 v h fits

  pub qos_read : (m : Option Qos) → Stands s at (qos_octets m) rest → QosFits m → qos_of s (qos_flag m) at ≡ m
  unfolding qos_of qos_octets
  qos_read None h fits = refl
  qos_read (Some q) h fits =
      let o : octet s at ≡ q.precedence * 16 + q.routing * 4 + q.program = octet_there _ h (omega arith) in
      let first : octet s at / 16 ≡ q.precedence = omega arith in
      let second : octet s at / 4 % 4 ≡ q.routing = omega arith in
      let third : octet s at % 4 ≡ q.program = omega arith in
      rw (first, second, third)

  pub octet_read : (m : Option ℕ) → Stands s at (octet_octets m) rest → OctetFits m → octet_of s (octet_flag m) at ≡ m
  unfolding octet_of octet_octets
  octet_read None h fits = refl
  octet_read (Some v) h fits = ap Some (octet_there v h fits)

  pub stamp_read : (m : Option Timestamp) → Stands s at (stamp_octets m) rest → StampFits m → stamp_of s (format_of m) at ≡ m
  unfolding stamp_of stamp_octets
  stamp_read None h fits = refl
  stamp_read (Some (stamp.Implicit t)) h fits = ap (λ t. Some (stamp.Implicit t)) (number_there 3 t h fits)
  stamp_read (Some (stamp.Explicit p t)) h fits =
      let both = two_there 1 p (time_size p) t h fits.0 fits.1 in
      rw (octet_number_lem s at, both.0, both.1)
  stamp_read (Some (stamp.Binary t)) h fits = ap (λ t. Some (stamp.Binary t)) (number_there 4 t h fits)

  pub stamp_size_lem : (m : Option Timestamp) → Stands s at (stamp_octets m) rest → StampFits m → stamp_size (format_of m) (octet s at) ≡ length (stamp_octets m)
  unfolding stamp_size stamp_octets
  stamp_size_lem None h fits = refl
  stamp_size_lem (Some (stamp.Implicit t)) h fits = sym (length_octets 3 t)
  stamp_size_lem (Some (stamp.Explicit p t)) h fits =
      let o : octet s at ≡ p = octet_number_lem s at ∙ (two_there 1 p (time_size p) t h fits.0 fits.1).0 in
      rw o (simp (length-append, length_octets) (omega arith))
  stamp_size_lem (Some (stamp.Binary t)) h fits = sym (length_octets 4 t)

  -- a control octet that is there only where it is not 0
  present_case : (t : Bool) (v : ℕ) → eqb v 0 ≡ t → Stands s at (octets (pick t 0 1) v) rest → v < 256 → pick t 0 1 * octet s at ≡ v
  present_case true v e h fits = omega (arith, eqb-true v 0 e)
  present_case false v e h fits = omega (arith, octet_there v h fits)

  pub present_read : (v : ℕ) → Stands s at (octets (present v) v) rest → v < 256 → present v * octet s at ≡ v
  present_read v = present_case (eqb v 0) v refl

-- ---- sizes and flags

pub qos_length : (m : Option Qos) → length (qos_octets m) ≡ qos_flag m
unfolding qos_octets
qos_length None = refl
qos_length (Some q) = length_octets 1 (q.precedence * 16 + q.routing * 4 + q.program)

pub octet_length : (m : Option ℕ) → length (octet_octets m) ≡ octet_flag m
unfolding octet_octets
octet_length None = refl
octet_length (Some v) = length_octets 1 v

pub stamp_le : (m : Option Timestamp) → length (stamp_octets m) ≤ 8
unfolding stamp_octets
stamp_le None = omega arith
stamp_le (Some (stamp.Implicit t)) = omega (arith, length_octets 3 t)
stamp_le (Some (stamp.Explicit p t)) = simp (length-append, length_octets) (omega arith)
stamp_le (Some (stamp.Binary t)) = omega (arith, length_octets 4 t)

pub address_flags : (a : Addresses) → (source_flag a ≤ 1) × ((ipv6_flag a ≤ source_flag a) × (ipv6_flag a + extended_flag a ≤ 1))
address_flags (BasicPath d) = omega arith
address_flags (ExtendedPath d) = omega arith
address_flags (BasicEndSystem d s) = omega arith
address_flags (ExtendedEndSystem d s) = omega arith
address_flags (Ipv6 d s) = omega arith

pub qos_flag_le : (m : Option Qos) → qos_flag m ≤ 1
qos_flag_le None = omega arith
qos_flag_le (Some q) = omega arith

pub octet_flag_le : (m : Option ℕ) → octet_flag m ≤ 1
octet_flag_le None = omega arith
octet_flag_le (Some v) = omega arith

pub format_le : (m : Option Timestamp) → format_of m ≤ 3
format_le None = omega arith
format_le (Some (stamp.Implicit t)) = omega arith
format_le (Some (stamp.Explicit p t)) = omega arith
format_le (Some (stamp.Binary t)) = omega arith

pub present_le : (v : ℕ) → present v ≤ 1
present_le v = either (λ n. n ≤ 1) (eqb v 0) (omega arith) (omega arith)
