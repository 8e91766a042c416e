-- Each element that was read has its flag and its octets again: after the octets before its place they give the octets up to its end, so that
-- elements that follow each other join with no more said. Assumes nothing.
use native.Mathlib.Omega.{arith}
use native.Mathlib.Nat.{add-zero, add-suc, add_assoc}
use Prim.Native.Nat.{ℕ, zero, suc, ◌+◌, ◌*◌, ◌≤◌, ◌<◌}
use mathlib.Core.Path.{◌≡◌, refl}
use mathlib.Core.List.{List, [], ◌++◌, append_assoc, append-nil}
use mathlib.Core.Logic.{◌⊎◌, inl, inr}
use lib.Arith.{digits_div, digits_mod}
use lib.ListN.{get_or, length, take}
use lib.Seq.{take-suc}
use Rattle.octets.specs.Octets.{octet, number, octets}
use Rattle.octets.proofs.Laws.{octet_number_lem}
use Rattle.checksum.specs.Sum.{element_of}
use Rattle.header.specs.Form.{address_size, stamp_size, time_size, qos_place, has_source, is_extended, is_ipv6}
use Rattle.header.specs.Read.{addresses_of, six_of, qos_of, octet_of, stamp_of}
use Rattle.header.specs.Build.{addresses_octets, six_octets, qos_octets, octet_octets, stamp_octets, checksum_octets, source_flag, extended_flag, ipv6_flag, qos_flag, octet_flag, format_of}
use Rattle.header.specs.declared.Control.{Control}

-- a bit is 0 or 1
pub zero_or_one : (n : ℕ) → n ≤ 1 → (n ≡ 0) ⊎ (n ≡ 1)
zero_or_one zero h = inl refl
zero_or_one (suc zero) h = inr refl
zero_or_one (suc (suc n)) h = absurd (omega arith)

-- the addresses have their flags and their octets again
abbrev pub AddressesAgain : List ℕ → Control → Type 0
AddressesAgain s k =
    (source_flag (addresses_of s k) ≡ has_source k) × (extended_flag (addresses_of s k) ≡ is_extended k) × (ipv6_flag (addresses_of s k) ≡ is_ipv6 k)
    × (take k.end s ++ addresses_octets (addresses_of s k) ≡ take (qos_place k) s)

module _ (s : List ℕ) (small : (i : ℕ) → get_or s i 0 < 256) where
  none_back : (at : ℕ) → take at s ++ [] ≡ take (at + 0) s
  none_back at = rw add-zero (append-nil (take at s))

  -- the octets of a number that was read
  pub number_back : (at n : ℕ) → at + n ≤ length s → take at s ++ octets n (number s at n) ≡ take (at + n) s
  unfolding octets number
  number_back at zero h = none_back at
  number_back at (suc n) h =
      let room : at + n < length s = omega arith in
      let before : at + n ≤ length s = omega arith in
      rw (digits_div (number s at n) (small (at + n)), digits_mod (number s at n) (small (at + n)), add-suc, take-suc s (at + n) 0 room, ← append_assoc, number_back at n before)

  pub octet_back : (at v : ℕ) → v ≡ octet s at → at + 1 ≤ length s → take at s ++ octets 1 v ≡ take (at + 1) s
  octet_back at v e h = rw (e, octet_number_lem s at) (number_back at 1 h)

  -- two numbers, one after the other
  two_back : (at n m : ℕ) → at + n + m ≤ length s → take at s ++ (octets n (number s at n) ++ octets m (number s (at + n) m)) ≡ take (at + n + m) s
  two_back at n m h =
      let first : at + n ≤ length s = omega arith in
      rw (← append_assoc, number_back at n first) (number_back (at + n) m h)

  -- a control octet that is there where a bit says so
  pub control_again : (on at v : ℕ) → on ≤ 1 → v ≡ on * octet s at → at + on ≤ length s → take at s ++ octets on v ≡ take (at + on) s
  unfolding octets
  control_again zero at v b e h = none_back at
  control_again (suc zero) at v b e h = octet_back at v (omega arith) h
  control_again (suc (suc n)) at v b e h = absurd (omega arith)

  -- an element of one octet, where its flag is on
  pub octet_again : (on at : ℕ) → on ≤ 1 → at + on ≤ length s
      → (octet_flag (octet_of s on at) ≡ on) × (take at s ++ octet_octets (octet_of s on at) ≡ take (at + on) s)
  unfolding octet_of octet_octets
  octet_again zero at b h = (refl, none_back at)
  octet_again (suc zero) at b h = (refl, octet_back at (octet s at) refl h)
  octet_again (suc (suc n)) at b h = absurd (omega arith)

  -- basic QOS
  pub qos_again : (on at : ℕ) → on ≤ 1 → at + on ≤ length s → (qos_flag (qos_of s on at) ≡ on) × (take at s ++ qos_octets (qos_of s on at) ≡ take (at + on) s)
  unfolding qos_of qos_octets
  qos_again zero at b h = (refl, none_back at)
  qos_again (suc zero) at b h = (refl, octet_back at _ (omega arith) h)
  qos_again (suc (suc n)) at b h = absurd (omega arith)

  -- the timestamp
  pub stamp_again : (format at : ℕ) → format ≤ 3 → at + stamp_size format (octet s at) ≤ length s
      → (format_of (stamp_of s format at) ≡ format) × (take at s ++ stamp_octets (stamp_of s format at) ≡ take (at + stamp_size format (octet s at)) s)
  unfolding stamp_of stamp_octets stamp_size
  stamp_again zero at b h = (refl, none_back at)
  stamp_again (suc zero) at b h = (refl, number_back at 3 h)
  stamp_again (suc (suc zero)) at b h =
      let room : at + 1 + time_size (octet s at) ≤ length s = omega arith in
      let first : at + 1 ≤ length s = omega arith in
      (refl, rw (← append_assoc, octet_back at (octet s at) refl first, ← add_assoc at 1 (time_size (octet s at))) (number_back (at + 1) (time_size (octet s at)) room))
  stamp_again (suc (suc (suc zero))) at b h = (refl, number_back at 4 h)
  stamp_again (suc (suc (suc (suc n)))) at b h = absurd (omega arith)

  six_back : (at : ℕ) → at + 16 ≤ length s → take at s ++ six_octets (six_of s at) ≡ take (at + 16) s
  unfolding six_octets six_of
  six_back at h =
      let e : at + 8 + 8 ≡ at + 16 = omega arith in
      let room : at + 8 + 8 ≤ length s = omega arith in
      rw (← e) (two_back at 8 8 room)

  addresses_case : (k : Control) → (is_ipv6 k ≡ 1 → (is_extended k ≡ 0) × (has_source k ≡ 1)) → qos_place k ≤ length s
      → (is_ipv6 k ≡ 0) ⊎ (is_ipv6 k ≡ 1) → (is_extended k ≡ 0) ⊎ (is_extended k ≡ 1) → (has_source k ≡ 0) ⊎ (has_source k ≡ 1) → AddressesAgain s k
  unfolding addresses_of addresses_octets address_size
  addresses_case k six h (inr v) _ _ =
      let e = (six v).0 in
      let p = (six v).1 in
      let room : k.end + 16 + 16 ≤ length s = simp (v, e, p) at h in
      let first : k.end + 16 ≤ length s = omega arith in
      simp (v, e, p) (refl, refl, refl, rw (← append_assoc, six_back k.end first) (six_back (k.end + 16) room))
  addresses_case k six h (inl v) (inl e) (inl p) =
      simp (v, e, p, add-zero) (refl, refl, refl, octet_back k.end _ refl (simp (v, e, p, add-zero) at h))
  addresses_case k six h (inl v) (inl e) (inr p) =
      simp (v, e, p, octet_number_lem) (refl, refl, refl, two_back k.end 1 1 (simp (v, e, p) at h))
  addresses_case k six h (inl v) (inr e) (inl p) =
      simp (v, e, p, add-zero) (refl, refl, refl, number_back k.end 4 (simp (v, e, p, add-zero) at h))
  addresses_case k six h (inl v) (inr e) (inr p) = simp (v, e, p) (refl, refl, refl, two_back k.end 4 4 (simp (v, e, p) at h))

  pub addresses_again : (k : Control) → (is_ipv6 k ≡ 1 → (is_extended k ≡ 0) × (has_source k ≡ 1)) → qos_place k ≤ length s → AddressesAgain s k
  addresses_again k six h =
      addresses_case k six h (zero_or_one (is_ipv6 k) (omega arith)) (zero_or_one (is_extended k) (omega arith)) (zero_or_one (has_source k) (omega arith))

  -- the checksum, where it is what it should be
  pub checksum_again : (on at : ℕ) → on ≤ 1 → (on ≡ 1 → number s at 2 ≡ element_of s at) → at + 2 * on ≤ length s
      → take at s ++ checksum_octets on (take at s) ≡ take (at + 2 * on) s
  unfolding checksum_octets element_of
  checksum_again zero at b right h = none_back at
  checksum_again (suc zero) at b right h = rw (← right refl) (number_back at 2 h)
  checksum_again (suc (suc n)) at b right h = absurd (omega arith)
