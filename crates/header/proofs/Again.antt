-- Building what was read gives the same header octets where the control field was shortest and the data at most 8,141 octets (page 01, "Refusal
-- numbers"). It is never longer than what was read, and as long only there. That unused bits are zero is no hypothesis: others are refused by 4.
-- Assumes nothing.
use native.Mathlib.Omega.{arith}
use native.Mathlib.Nat.{zero-mul, mod-eq_of_lt, div-add-mod'}
use Prim.Native.Nat.{ℕ, zero, suc, ◌+◌, ◌*◌, ◌-◌, ◌/◌, ◌%◌, ◌≤◌, ◌<◌}
use mathlib.Core.Path.{◌≡◌, refl, ap, sym, ◌∙◌}
use mathlib.Core.List.{List, ◌++◌, append_assoc}
use mathlib.Core.Logic.{◌⊎◌, inl, inr}
use lib.ListN.{get_or, length, take, drop, length-append}
use lib.Seq.{length-take-le}
use lib.Arith.{mod-mul}
use lib.Dec.{T, ltb, lit<}
use borrow.Author.Tests.{le-ltb}
use Rattle.checks.specs.Order.{first_of}
use Rattle.octets.specs.Octets.{octet, number, octets}
use Rattle.header.specs.Limits.{longest_header, most_data, length_limit}
use Rattle.header.specs.Form.{control_of, layout_of, places_of, bit_weight, header_bit, second_follows, third_follows, has_checksum, has_hops, has_qos, has_expanded, stamp_format}
use Rattle.header.specs.Read.{fields_of, header_of, length_of, read_of}
use Rattle.header.specs.Build.{present, third_octet, second_octet, first_bits, front_octets, rest_octets, body_octets, size_of, header_octets, build_checks, built_of, built_output}
use Rattle.header.specs.Shortest.{Shortest}
use Rattle.header.specs.declared.Control.{Control}
use Rattle.header.specs.declared.Layout.{Layout}
use Rattle.header.specs.declared.Fields.{Fields}
use Rattle.header.specs.declared.Header.{Header}
use Rattle.checks.specs.Told.{Good}
use Rattle.header.proofs.Bounds.{gate, control_end, Placed, placed, Allowed, allowed}
use Rattle.header.proofs.Passed.{Passed, passed}
use Rattle.header.proofs.Pieces.{present_le}
use Rattle.header.proofs.BuiltLaws.{not_out}
use Rattle.header.proofs.Answers.{read_in_range}
use Rattle.header.proofs.Back.{zero_or_one, number_back, octet_back, control_again, octet_again, qos_again, stamp_again, addresses_again, checksum_again}

-- the octets of a control field are octets
control_lt : (s : List ℕ) → ((i : ℕ) → get_or s i 0 < 256) → ((control_of s).second < 256) × ((control_of s).third < 256)
unfolding control_of
control_lt s small =
    (omega (arith, gate 20 (control_of s).first (octet s 3), small 3), omega (arith, gate 24 (control_of s).second (octet s 4), small 4))

-- no control field of the same bits is shorter: t has those of s, but for 20 and 24
module _ (s t : List ℕ) (small : (i : ℕ) → get_or s i 0 < 256) (short : Shortest (control_of s))
    (second : (control_of t).second % 128 ≡ (control_of s).second % 128) (third : (control_of t).third ≡ (control_of s).third) where
  absent : (n : ℕ) → n ≡ 0 → present n ≡ 0
  absent n e = rw e

  none_24 : third_follows (control_of t).second ≡ 0 → third_follows (control_of s).second ≡ 0
  unfolding control_of
  none_24 z =
      let c : (control_of t).third ≡ 0 = rw (z, zero-mul) in
      short.1 ∙ absent _ (sym third ∙ c)

  least_case : (second_follows (control_of t).first ≡ 0) ⊎ (second_follows (control_of t).first ≡ 1) → (third_follows (control_of t).second ≡ 0) ⊎ (third_follows (control_of t).second ≡ 1) → (control_of s).end ≤ (control_of t).end
  unfolding control_of
  least_case (inl none) y =
      let b : (control_of t).second ≡ 0 = rw (none, zero-mul) in
      let u = none_24 (rw b) in
      let v : (control_of s).second ≡ 0 = omega (arith, b, u, (control_lt s small).0) in
      omega (arith, u, short.0 ∙ absent _ v)
  least_case (inr more) (inl none) = omega (arith, none_24 none)
  least_case (inr more) (inr most) = omega arith

  pub shortest_least : (control_of s).end ≤ (control_of t).end
  shortest_least = least_case (zero_or_one (second_follows (control_of t).first) (omega arith)) (zero_or_one (third_follows (control_of t).second) (omega arith))

-- ---- a control octet is the sum of its bits

-- the remainder by a product of weights: its highest digit, and the remainder below it
digit : (n m c : ℕ) → T (ltb 0 m) → T (ltb 0 c) → n % (m * c) ≡ n / c % m * c + n % c
digit n m c h g = mod-mul n (lit< h) (lit< g)

third_sum : (c : ℕ) → c < 256 → c % bit_weight 35 ≡ 0 → header_bit 32 c ≡ 0 → bit_weight 33 * header_bit 33 c + bit_weight 34 * header_bit 34 c + bit_weight 35 * header_bit 35 c ≡ c
third_sum c h z t =
    let e : header_bit 32 c * 128 + (header_bit 33 c * 64 + (header_bit 34 c * 32 + (header_bit 35 c * 16 + c % 16))) ≡ c =
    rw (← digit c 2 16 tt tt, ← digit c 2 32 tt tt, ← digit c 2 64 tt tt, ← digit c 2 128 tt tt) (mod-eq_of_lt h) in
    omega arith

second_sum : (b : ℕ) → b < 256 → header_bit 29 b ≡ 0
    → bit_weight 24 * header_bit 24 b + bit_weight 25 * header_bit 25 b + bit_weight 26 * header_bit 26 b + bit_weight 28 * (b / bit_weight 28 % 4) + bit_weight 30 * header_bit 30 b + bit_weight 31 * header_bit 31 b ≡ b
second_sum b h z =
    let e : header_bit 24 b * 128 + (header_bit 25 b * 64 + (header_bit 26 b * 32 + (b / 8 % 4 * 8 + (header_bit 29 b * 4 + (header_bit 30 b * 2 + b % 2))))) ≡ b =
    rw (← digit b 2 2 tt tt, ← digit b 2 4 tt tt, ← digit b 4 8 tt tt, ← digit b 2 32 tt tt, ← digit b 2 64 tt tt, ← digit b 2 128 tt tt) (mod-eq_of_lt h) in
    omega arith

-- one bit of a sum in place of another
exchanged : (x y a b c d e sum : ℕ) → x + a + b + c + d + e ≡ sum → y + a + b + c + d + e + x ≡ y + sum
exchanged x y a b c d e sum h = omega arith

first_sum : (a : ℕ) → a < 16 → header_bit 21 a ≡ 0 → header_bit 22 a ≡ 1 → bit_weight 20 * header_bit 20 a + bit_weight 22 + bit_weight 23 * header_bit 23 a ≡ a
first_sum a h z o =
    let e : header_bit 20 a * 8 + (header_bit 21 a * 4 + (header_bit 22 a * 2 + a % 2)) ≡ a =
    rw (← digit a 2 2 tt tt, ← digit a 2 4 tt tt, ← digit a 2 8 tt tt) (mod-eq_of_lt h) in
    omega arith

-- the third control octet stands right after the second, or there is none
third_at : (s : List ℕ) → (second_follows (control_of s).first ≡ 0) ⊎ (second_follows (control_of s).first ≡ 1) → (control_of s).third ≡ third_follows (control_of s).second * octet s (3 + second_follows (control_of s).first)
unfolding control_of
third_at s (inl none) = simp (none, zero-mul)
third_at s (inr one) = simp one

-- a control octet says something only where it is announced
present_under : (on x : ℕ) → on ≤ 1 → present (on * x) ≤ on
present_under zero x h = rw (zero-mul x) (omega arith)
present_under (suc zero) x h = present_le (1 * x)
present_under (suc (suc on)) x h = absurd (omega arith)

-- fields give the third control octet of s, the second but for bit 24, and the octets from there to the checksum
record Same (s : List ℕ) (f : Fields) : Type 0 where
  pub third : third_octet f ≡ (control_of s).third
  pub second : second_octet f + bit_weight 24 * third_follows (control_of s).second ≡ bit_weight 24 * present (control_of s).third + (control_of s).second
  pub rest : take (control_of s).end s ++ rest_octets f ≡ take (places_of s).checksum s

module _ (s : List ℕ) (h : Header) (small : (i : ℕ) → get_or s i 0 < 256) (e : read_of s ≡ Good h) where
  p : Passed s h
  p = passed s h e

  abbrev k : Control
  k = control_of s

  abbrev l : Layout
  l = places_of s

  abbrev f : Fields
  f = fields_of s k l

  bits : Allowed k
  bits = allowed k p.allowed

  places : Placed s k
  places = placed s k (control_end s).1

  room : l.size ≤ length s
  room = omega (arith, p)

  same : Same s f
  unfolding control_of layout_of fields_of second_octet third_octet rest_octets
  same =
      let a = addresses_again s small k bits.six (omega (arith, places, room)) in
      let q = qos_again s small (has_qos k) l.qos (omega arith) (omega (arith, places, room)) in
      let o = octet_again s small (has_hops k) l.hops (omega arith) (omega (arith, places, room)) in
      let t = stamp_again s small (stamp_format k) l.stamp (omega arith) (omega (arith, places, room)) in
      let x = octet_again s small (has_expanded k) l.expanded (omega arith) (omega (arith, places, room)) in
      let third : third_octet f ≡ k.third = rw (a.2, x.0) (third_sum k.third (control_lt s small).1 bits.zeros bits.zero32) in
      let second : second_octet f + bit_weight 24 * third_follows k.second ≡ bit_weight 24 * present k.third + k.second =
      rw (third, a.0, o.0, t.0, q.0, a.1) (exchanged _ _ _ _ _ _ _ _ (second_sum k.second (control_lt s small).0 bits.zero29)) in
      record { third = third; second = second; rest = simp (← append_assoc, a.3, q.1, o.1, t.1, x.1) }

  -- ---- the size of what is built

  size_built : size_of f + k.end ≡ 3 + present (second_octet f) + present k.third + l.size
  unfolding size_of fields_of
  size_built =
      let inside : l.checksum ≤ length s = omega (arith, places, room) in
      let r = simp (length-append, length-take-le k.end s p.whole, length-take-le l.checksum s inside) at (ap length same.rest) in
      rw same.third (omega (arith, places))

  third_under : present k.third ≤ third_follows k.second
  unfolding control_of
  third_under = present_under (third_follows k.second) (octet s 4) (omega arith)

  second_case : (second_follows k.first ≡ 0) ⊎ (second_follows k.first ≡ 1) → present (second_octet f) ≤ second_follows k.first
  unfolding control_of
  second_case (inl none) =
      let second : k.second ≡ 0 = rw (none, zero-mul) in
      let octet-is : second_octet f ≡ 0 = omega (arith, same.second, third_under) in
      rw octet-is (omega arith)
  second_case (inr one) = omega (arith, present_le (second_octet f))

  second_under : present (second_octet f) ≤ second_follows k.first
  second_under = second_case (zero_or_one (second_follows k.first) (omega arith))

  end_is : k.end ≡ 3 + second_follows k.first + third_follows k.second
  unfolding control_of
  end_is = refl

  -- bit 24 is as it was where it announced a third octet that says something
  second_whole : third_follows k.second ≡ present k.third → second_octet f ≡ k.second
  second_whole most = omega (arith, same.second)

  -- what is built is no longer than what was read
  pub built_no_longer : size_of h.fields ≤ h.size
  unfolding header_of
  built_no_longer = rw p.is (omega (arith, size_built, end_is, third_under, second_under))

  -- and is as long only where the control field was shortest
  pub as_long_shortest : size_of h.fields ≡ h.size → Shortest (control_of s)
  unfolding header_of
  as_long_shortest as_long =
      let size : size_of f ≡ l.size = rw p.is at as_long in
      let most : third_follows k.second ≡ present k.third = omega (arith, size_built, end_is, third_under, second_under) in
      let more : second_follows k.first ≡ present (second_octet f) = omega (arith, size_built, end_is, third_under, second_under) in
      (rw (second_whole most) at more, most)

  -- ---- the octets, where the control field was shortest

  module _ (short : Shortest (control_of s)) where
    second_is : second_octet f ≡ k.second
    second_is = second_whole short.1

    first_is : first_bits f ≡ k.first
    unfolding first_bits fields_of control_of
    first_is = rw (second_is, ← short.0) (first_sum k.first (omega arith) bits.zero21 bits.destination)

    tpid_is : f.tpid * 16 + first_bits f ≡ octet s 2
    unfolding fields_of control_of
    tpid_is = rw first_is (div-add-mod' (octet s 2) 16)

    size_is : size_of f ≡ l.size
    size_is = omega (arith, size_built, end_is, short.1, short.0 ∙ ap present (sym second_is))

    front_is : front_octets (length_of s) (octet s 2) k.second k.third ≡ take k.end s
    unfolding front_octets control_of length_of number
    front_is =
        let length_is : length_limit + length_of s ≡ number s 0 2 = omega (arith, p.version) in
        let two : octets 2 (length_limit + length_of s) ≡ take 2 s = rw length_is (number_back s small 0 2 (omega (arith, p.long))) in
        let three = octet_back s small 2 (octet s 2) refl p.long in
        let four = control_again s small (second_follows k.first) 3 k.second (omega arith) refl (omega (arith, p.whole)) in
        let five = control_again s small (third_follows k.second) (3 + second_follows k.first) k.third (omega arith) (third_at s (zero_or_one (second_follows k.first) (omega arith))) p.whole in
        rw (← short.0, ← short.1) (simp (← append_assoc, two, three, four, five))

    body_is : body_octets f (size_of f + (length_of s - l.size)) ≡ take l.checksum s
    unfolding body_octets
    body_is =
        let n : size_of f + (length_of s - l.size) ≡ length_of s = omega (arith, size_is, p.fits) in
        rw (n, tpid_is, second_is, same.third, front_is) same.rest

    header_is : header_octets f (length_of s - l.size) ≡ take l.size s
    unfolding header_octets layout_of fields_of
    header_is = rw body_is (checksum_again s small (has_checksum k) l.checksum (omega arith) p.right room)

    -- ---- the laws

    pub built_again : header_octets h.fields (h.length - h.size) ≡ take h.size s
    unfolding header_of
    built_again = rw p.is header_is

    pub size_again : size_of h.fields ≡ h.size
    unfolding header_of
    size_again = rw p.is size_is

    -- the builder refuses it for nothing but its data, and says the size that was read
    pub done_again : (room : ℕ) → longest_header ≤ room → h.length - h.size ≤ most_data → built_of h.fields (h.length - h.size) room ≡ Good h.size
    unfolding built_of build_checks first_of
    done_again room enough few =
        simp (le-ltb room longest_header enough, not_out h.fields (read_in_range s h small e), le-ltb most_data (h.length - h.size) few, size_again)

    -- and writes the octets that were read
    pub output_again : (lent : List ℕ) → longest_header ≤ length lent → h.length - h.size ≤ most_data
        → built_output h.fields (h.length - h.size) lent ≡ take h.size s ++ drop h.size lent
    unfolding header_of built_output
    output_again lent enough few =
        let fits : h.size ≤ length s = rw p.is room in
        rw (done_again (length lent) enough few, built_again, length-take-le h.size s fits)
