-- What is read of octets stands in them at places: where another string has these octets too, the same is read of it. Each element by itself, from
-- its place to its end. Assumes nothing.
use native.Mathlib.Omega.{arith}
use native.Mathlib.Nat.{zero-mul}
use Prim.Native.Nat.{ℕ, zero, suc, ◌+◌, ◌*◌, ◌≤◌, ◌<◌}
use mathlib.Core.Path.{◌≡◌, refl}
use mathlib.Core.List.{List}
use mathlib.Core.Bool.{false}
use mathlib.Core.Logic.{◌⊎◌, inl, inr}
use Rattle.octets.specs.Octets.{octet, number}
use Rattle.header.specs.Form.{first_control, second_control, third_control, second_follows, third_follows, control_of, is_ipv6, is_extended, has_source, address_size, time_size, stamp_size, qos_place, layout_of, places_of, forbidden, has_qos, has_hops, has_expanded, stamp_format}
use Rattle.header.specs.Read.{six_of, addresses_of, qos_of, octet_of, stamp_of, length_of, fields_of, header_of}
use Rattle.header.specs.Onward.{with_hops}
use Rattle.header.specs.declared.Control.{Control}
use Rattle.header.specs.declared.Layout.{Layout}
use Rattle.header.proofs.Bounds.{control_end, Placed, placed, allowed}
use Rattle.header.proofs.Back.{zero_or_one}

-- t has the octets of s from one place to another
abbrev pub Agree : List ℕ → List ℕ → ℕ → ℕ → Type 0
Agree s t from to = (i : ℕ) → from ≤ i → i < to → octet t i ≡ octet s i

-- an octet that is there where a bit says so
gated : (on x y : ℕ) → (on ≡ 0) ⊎ (on ≡ 1) → (on ≡ 1 → x ≡ y) → on * x ≡ on * y
gated on x y (inl none) same = rw (none, zero-mul x, zero-mul y)
gated on x y (inr one) same = rw (same one)

-- there is no third control octet without a second
third_needs : (s : List ℕ) → (second_follows (first_control s) ≡ 0) ⊎ (second_follows (first_control s) ≡ 1) → third_follows (second_control s) ≡ 1 → second_follows (first_control s) ≡ 1
third_needs s (inl none) most = let z : second_control s ≡ 0 = rw (none, zero-mul) in absurd (omega arith)
third_needs s (inr one) most = one

pub control_alike : (s t : List ℕ) → Agree s t 2 (control_of s).end → control_of t ≡ control_of s
unfolding control_of
control_alike s t same =
    let more = zero_or_one (second_follows (first_control s)) (omega arith) in
    let most = zero_or_one (third_follows (second_control s)) (omega arith) in
    let two : octet t 2 ≡ octet s 2 = same 2 (omega arith) (omega arith) in
    let second : second_control t ≡ second_control s = rw two (gated _ (octet t 3) (octet s 3) more (λ on. same 3 (omega arith) (omega arith))) in
    let third : third_control t ≡ third_control s = rw second (gated _ (octet t 4) (octet s 4) most (λ on. same 4 (omega arith) (omega (arith, third_needs s more on)))) in
    rw (third, second, two)

module _ (s t : List ℕ) where
  pub number_alike : (at n : ℕ) → Agree s t at (at + n) → number t at n ≡ number s at n
  unfolding number
  number_alike at zero same = refl
  number_alike at (suc n) same = rw (number_alike at n (λ i a b. same i a (omega arith)), same (at + n) (omega arith) (omega arith))

  six_alike : (at : ℕ) → Agree s t at (at + 16) → six_of t at ≡ six_of s at
  unfolding six_of
  six_alike at same =
      rw (number_alike at 8 (λ i a b. same i a (omega arith)), number_alike (at + 8) 8 (λ i a b. same i (omega arith) (omega arith)))

  pub octet_alike : (on at : ℕ) → on ≤ 1 → Agree s t at (at + on) → octet_of t on at ≡ octet_of s on at
  unfolding octet_of
  octet_alike zero at b same = refl
  octet_alike (suc zero) at b same = rw (same at (omega arith) (omega arith))
  octet_alike (suc (suc on)) at b same = absurd (omega arith)

  pub qos_alike : (on at : ℕ) → on ≤ 1 → Agree s t at (at + on) → qos_of t on at ≡ qos_of s on at
  unfolding qos_of
  qos_alike zero at b same = refl
  qos_alike (suc zero) at b same = rw (same at (omega arith) (omega arith))
  qos_alike (suc (suc on)) at b same = absurd (omega arith)

  -- a timestamp, and its size
  pub stamp_alike : (format at : ℕ) → format ≤ 3 → Agree s t at (at + stamp_size format (octet s at))
      → (stamp_of t format at ≡ stamp_of s format at) × (stamp_size format (octet t at) ≡ stamp_size format (octet s at))
  unfolding stamp_of stamp_size
  stamp_alike zero at b same = (refl, refl)
  stamp_alike (suc zero) at b same = (rw (number_alike at 3 same), refl)
  stamp_alike (suc (suc zero)) at b same =
      let first : octet t at ≡ octet s at = same at (omega arith) (omega arith) in
      rw first (rw (number_alike (at + 1) (time_size (octet s at)) (λ i a b. same i (omega arith) (omega arith))), refl)
  stamp_alike (suc (suc (suc zero))) at b same = (rw (number_alike at 4 same), refl)
  stamp_alike (suc (suc (suc (suc format)))) at b same = absurd (omega arith)

  addresses_case : (k : Control) → (is_ipv6 k ≡ 1 → (is_extended k ≡ 0) × (has_source k ≡ 1)) → Agree s t k.end (qos_place k)
      → (is_ipv6 k ≡ 0) ⊎ (is_ipv6 k ≡ 1) → (is_extended k ≡ 0) ⊎ (is_extended k ≡ 1) → (has_source k ≡ 0) ⊎ (has_source k ≡ 1) → addresses_of t k ≡ addresses_of s k
  unfolding addresses_of address_size
  addresses_case k six same (inr v) _ _ =
      let far : qos_place k ≡ k.end + 16 + 16 = rw (v, (six v).1) in
      rw v (rw (six_alike k.end (λ i a b. same i a (omega arith)), six_alike (k.end + 16) (λ i a b. same i (omega arith) (omega arith))))
  addresses_case k six same (inl v) (inl e) (inl p) =
      let far : qos_place k ≡ k.end + 1 + 0 = rw (v, e, p) in
      rw (v, e, p, same k.end (omega arith) (omega arith))
  addresses_case k six same (inl v) (inl e) (inr p) =
      let far : qos_place k ≡ k.end + 1 + 1 = rw (v, e, p) in
      rw (v, e, p, same k.end (omega arith) (omega arith), same (k.end + 1) (omega arith) (omega arith))
  addresses_case k six same (inl v) (inr e) (inl p) =
      let far : qos_place k ≡ k.end + 4 + 0 = rw (v, e, p) in
      rw (v, e, p, number_alike k.end 4 (λ i a b. same i a (omega arith)))
  addresses_case k six same (inl v) (inr e) (inr p) =
      let far : qos_place k ≡ k.end + 4 + 4 = rw (v, e, p) in
      rw (v, e, p, number_alike k.end 4 (λ i a b. same i a (omega arith)), number_alike (k.end + 4) 4 (λ i a b. same i (omega arith) (omega arith)))

  pub addresses_alike : (k : Control) → (is_ipv6 k ≡ 1 → (is_extended k ≡ 0) × (has_source k ≡ 1)) → Agree s t k.end (qos_place k) → addresses_of t k ≡ addresses_of s k
  addresses_alike k six same =
      addresses_case k six same (zero_or_one (is_ipv6 k) (omega arith)) (zero_or_one (is_extended k) (omega arith)) (zero_or_one (has_source k) (omega arith))

-- ---- the header whole

-- t is read as s with a hop count of its own
pub record HeaderAlike (s t : List ℕ) : Type 0 where
  pub control : control_of t ≡ control_of s
  pub places : places_of t ≡ places_of s
  pub length_is : length_of t ≡ length_of s
  pub header : header_of t ≡ with_hops (octet_of t (has_hops (control_of s)) (places_of s).hops) (header_of s)

-- where t has the octets of s up to the checksum, but for the hop count
module _ (s t : List ℕ) (form : forbidden (control_of s) ≡ false) (front : Agree s t 0 (places_of s).hops) (back : Agree s t (places_of s).stamp (places_of s).checksum) where
  abbrev k : Control
  k = control_of s

  abbrev l : Layout
  l = places_of s

  placed_s : Placed s k
  placed_s = placed s k (control_end s).1

  control_same : control_of t ≡ k
  control_same = control_alike s t (λ i a b. front i (omega arith) (omega (arith, placed_s)))

  addresses_same : addresses_of t k ≡ addresses_of s k
  unfolding layout_of
  addresses_same = addresses_alike s t k (allowed k form).six (λ i a b. front i (omega arith) (omega (arith, placed_s)))

  qos_same : qos_of t (has_qos k) l.qos ≡ qos_of s (has_qos k) l.qos
  unfolding layout_of
  qos_same = qos_alike s t (has_qos k) l.qos (omega arith) (λ i a b. front i (omega arith) (omega (arith, placed_s)))

  stamp_same : (stamp_of t (stamp_format k) l.stamp ≡ stamp_of s (stamp_format k) l.stamp)
      × (stamp_size (stamp_format k) (octet t l.stamp) ≡ stamp_size (stamp_format k) (octet s l.stamp))
  unfolding layout_of
  stamp_same = stamp_alike s t (stamp_format k) l.stamp (omega arith) (λ i a b. back i a (omega (arith, placed_s)))

  expanded_same : octet_of t (has_expanded k) l.expanded ≡ octet_of s (has_expanded k) l.expanded
  unfolding layout_of
  expanded_same = octet_alike s t (has_expanded k) l.expanded (omega arith) (λ i a b. back i (omega (arith, placed_s)) (omega (arith, placed_s)))

  places_same : places_of t ≡ l
  unfolding layout_of
  places_same = rw (control_same, stamp_same.1)

  length_same : length_of t ≡ length_of s
  unfolding length_of
  length_same = rw (front 0 (omega arith) (omega (arith, placed_s)), front 1 (omega arith) (omega (arith, placed_s, control_end s)))

  header_same : header_of t ≡ with_hops (octet_of t (has_hops k) l.hops) (header_of s)
  unfolding header_of fields_of
  header_same =
      let two = front 2 (omega arith) (omega (arith, placed_s, control_end s)) in
      rw (places_same, control_same, length_same, two, addresses_same, qos_same, stamp_same.0, expanded_same)

  pub header_alike : HeaderAlike s t
  header_alike = record { control = control_same; places = places_same; length_is = length_same; header = header_same }
