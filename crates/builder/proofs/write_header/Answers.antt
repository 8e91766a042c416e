-- `builder::write_header` meets its contract: the elements, the front before them and the checksum behind them make the header. Assumes nothing.
use Prim.Native.Nat.{ℕ, ◌+◌, ◌*◌, ◌≤◌}
use mathlib.Core.Path.{◌≡◌, ap, ◌∙◌}
use native.Mathlib.Omega.{arith}
use lib.ListN.{length}
use Rattle.header.specs.Build.{present, third_octet, second_octet, first_bits, rest_octets, size_of}
use Rattle.header.proofs.Pieces.{present_le}
use Rattle.builder.proofs.Laws.{rest_le, assembled}
use Rattle.builder.proofs.write_header.Goals as goal
use Rattle.builder.proofs.write_header.Goals.{After-presence-has_third, After-put_rest-place}

pub overflow_mul-bits : goal.overflow_mul-bits
overflow_mul-bits c = let bits : (c.presence-has_second.result ≤ 1) × (c.presence-has_third.result ≤ 1) = (rw c.presence-has_second.ensures (present_le c.second_octet-second.result), rw c.presence-has_third.ensures (present_le c.third_octet-third.result)) in omega (arith, bits)

pub overflow_add-bits : goal.overflow_add-bits
overflow_add-bits c = let bits : (c.presence-has_second.result ≤ 1) × (c.presence-has_third.result ≤ 1) = (rw c.presence-has_second.ensures (present_le c.second_octet-second.result), rw c.presence-has_third.ensures (present_le c.third_octet-third.result)) in omega (arith, bits)

pub overflow_add-bits-2 : goal.overflow_add-bits-2
overflow_add-bits-2 c = let bits : (c.presence-has_second.result ≤ 1) × (c.presence-has_third.result ≤ 1) = (rw c.presence-has_second.ensures (present_le c.second_octet-second.result), rw c.presence-has_third.ensures (present_le c.third_octet-third.result)) in omega (arith, bits, c.requires)

pub overflow_add-shared : goal.overflow_add-shared
overflow_add-shared c = let bits : (c.presence-has_second.result ≤ 1) × (c.presence-has_third.result ≤ 1) = (rw c.presence-has_second.ensures (present_le c.second_octet-second.result), rw c.presence-has_third.ensures (present_le c.third_octet-third.result)) in omega (arith, bits, c.requires)

pub put_rest-place-requires : goal.put_rest-place-requires
put_rest-place-requires c = let bits : (c.presence-has_second.result ≤ 1) × (c.presence-has_third.result ≤ 1) = (rw c.presence-has_second.ensures (present_le c.second_octet-second.result), rw c.presence-has_third.ensures (present_le c.third_octet-third.result)) in omega (arith, bits, c.requires)

pub overflow_add-size : goal.overflow_add-size
overflow_add-size c = let bits : (c.presence-has_second.result ≤ 1) × (c.presence-has_third.result ≤ 1) = (rw c.presence-has_second.ensures (present_le c.second_octet-second.result), rw c.presence-has_third.ensures (present_le c.third_octet-third.result)) in let place-le : c.put_rest-place.result ≤ 48 = omega (arith, bits, rest_le c.args.f, c.put_rest-place.ensures.value) in omega (arith, place-le, c.requires)

pub overflow_add-size-2 : goal.overflow_add-size-2
overflow_add-size-2 c = let bits : (c.presence-has_second.result ≤ 1) × (c.presence-has_third.result ≤ 1) = (rw c.presence-has_second.ensures (present_le c.second_octet-second.result), rw c.presence-has_third.ensures (present_le c.third_octet-third.result)) in let place-le : c.put_rest-place.result ≤ 48 = omega (arith, bits, rest_le c.args.f, c.put_rest-place.ensures.value) in omega (arith, place-le, c.requires)

pub put_front-requires : goal.put_front-requires
put_front-requires c = let bits : (c.presence-has_second.result ≤ 1) × (c.presence-has_third.result ≤ 1) = (rw c.presence-has_second.ensures (present_le c.second_octet-second.result), rw c.presence-has_third.ensures (present_le c.third_octet-third.result)) in let place-le : c.put_rest-place.result ≤ 48 = omega (arith, bits, rest_le c.args.f, c.put_rest-place.ensures.value) in omega (arith, place-le, c.put_rest-place.auto.out, c.requires)

pub put_checksum-requires : goal.put_checksum-requires
put_checksum-requires c = let bits : (c.presence-has_second.result ≤ 1) × (c.presence-has_third.result ≤ 1) = (rw c.presence-has_second.ensures (present_le c.second_octet-second.result), rw c.presence-has_third.ensures (present_le c.third_octet-third.result)) in let place-le : c.put_rest-place.result ≤ 48 = omega (arith, bits, rest_le c.args.f, c.put_rest-place.ensures.value) in omega (arith, place-le, c.put_rest-place.auto.out, c.put_front.auto.out, c.requires)

pub returns : goal.returns
unfolding size_of first_bits
returns c = let f = c.args.f in
    let second_is = c.second_octet-second.ensures in
    let third-is = c.third_octet-third.ensures in
    let has-second-is : c.presence-has_second.result ≡ present (second_octet f) = c.presence-has_second.ensures ∙ ap present second_is in
    let has-third-is : c.presence-has_third.result ≡ present (third_octet f) = c.presence-has_third.ensures ∙ ap present third-is in
    let k : ℕ = 3 + c.presence-has_second.result + c.presence-has_third.result in
    let body : ℕ = c.put_rest-place.result in
    let k-is : k ≡ 3 + present (second_octet f) + present (third_octet f) = omega (arith, has-second-is, has-third-is) in
    let body_is : body ≡ k + length (rest_octets f) = c.put_rest-place.ensures.value in
    let size_is : body + 2 * f.checksum ≡ size_of f = omega (arith, has-second-is, has-third-is, body_is) in record {
      value = size_is;
      out_after = assembled f c.args.n _ _ _ _ k body k-is body_is c.requires.tpid_bound.1.0 c.requires.longest_header_in_bounds.0 c.put_rest-place.ensures.out_after
          (rw (← size_is, ← has-second-is, ← third-is, ← second_is) c.put_front.ensures.out_after) c.put_checksum.ensures.out_after;
    }
