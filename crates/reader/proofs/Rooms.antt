-- Where the octets of each element end, by the places: what reading them without a test asks for. Assumes nothing.
use Prim.Native.Nat.{ℕ, ◌+◌, ◌*◌, ◌≤◌}
use mathlib.Core.Path.{◌≡◌}
use mathlib.Core.List.{List}
use mathlib.Core.Bool.{false}
use native.Mathlib.Omega.{arith}
use borrow.Author.Tests.{eq-eqb, ne_eqb}
use Rattle.octets.specs.Octets.{octet}
use Rattle.header.specs.Form.{layout_of, forbidden, address_size, time_size, stamp_size, qos_place, stamp_format, has_checksum, has_source, has_hops, has_qos, has_expanded, is_extended, is_ipv6}
use Rattle.header.specs.declared.Control.{Control}
use Rattle.header.specs.declared.Layout.{Layout}
use Rattle.header.proofs.Bounds.{allowed}

-- ---- the addresses

module _ (k : Control) (n : ℕ) (room : qos_place k ≤ n) where
  -- of one size, once and, with a source, twice
  sized : (m : ℕ) → address_size k ≡ m → (k.end + m ≤ n) × (has_source k ≡ 1 → k.end + m + m ≤ n)
  sized m e =
      let known : k.end + m + has_source k * m ≤ n = rw e at room in
      (omega arith, λ sourced. (let twice : k.end + m + 1 * m ≤ n = rw sourced at known in omega arith))

  pub six_room : forbidden k ≡ false → is_ipv6 k ≡ 1 → k.end + 16 + 16 ≤ n
  unfolding address_size
  six_room fine six = (sized 16 (simp (eq-eqb (is_ipv6 k) 1 six))).1 ((allowed k fine).six six).1

  module _ (narrow : is_ipv6 k ≡ 1 → ⊥) where
    pub four_room : is_extended k ≡ 1 → (k.end + 4 ≤ n) × (has_source k ≡ 1 → k.end + 4 + 4 ≤ n)
    unfolding address_size
    four_room extended = sized 4 (simp (ne_eqb (is_ipv6 k) 1 narrow, eq-eqb (is_extended k) 1 extended))

    pub one_room : (is_extended k ≡ 1 → ⊥) → (k.end + 1 ≤ n) × (has_source k ≡ 1 → k.end + 1 + 1 ≤ n)
    unfolding address_size
    one_room basic = sized 1 (simp (ne_eqb (is_ipv6 k) 1 narrow, ne_eqb (is_extended k) 1 basic))

-- ---- a timestamp, by its format

module _ (f p at n : ℕ) (room : at + stamp_size f p ≤ n) where
  pub implicit_room : f ≡ 1 → at + 3 ≤ n
  unfolding stamp_size
  implicit_room e = rw e at room

  pub explicit_room : f ≡ 2 → at + (1 + time_size p) ≤ n
  unfolding stamp_size
  explicit_room e = rw e at room

  pub binary_room : (f ≡ 0 → ⊥) → (f ≡ 1 → ⊥) → (f ≡ 2 → ⊥) → at + 4 ≤ n
  unfolding stamp_size
  binary_room a b c = simp (ne_eqb f 0 a, ne_eqb f 1 b, ne_eqb f 2 c) at room

-- ---- all elements of a header of at most n octets

pub record Rooms (s : List ℕ) (k : Control) (l : Layout) (n : ℕ) : Type 0 where
  pub addresses : qos_place k ≤ n
  pub qos : l.qos + has_qos k ≤ n
  pub hops : l.hops + has_hops k ≤ n
  pub stamp : l.stamp + stamp_size (stamp_format k) (octet s l.stamp) ≤ n
  pub expanded : l.expanded + has_expanded k ≤ n
  pub checksum : l.checksum + 2 * has_checksum k ≤ n

pub rooms : (s : List ℕ) (k : Control) (l : Layout) (n : ℕ) → l ≡ layout_of s k → l.size ≤ n → Rooms s k l n
unfolding layout_of
rooms s k l n e h =
    let known : (layout_of s k).size ≤ n = rw e at h in
    rw e (record { addresses = omega arith; qos = omega arith; hops = omega arith; stamp = omega arith; expanded = omega arith; checksum = omega arith })
