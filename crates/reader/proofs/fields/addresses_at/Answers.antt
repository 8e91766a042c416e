-- `reader::fields::addresses_at` meets its contract, row by row of table 3-5. Assumes nothing.
use native.Mathlib.Omega.{arith}
use Prim.Native.Nat.{◌+◌, ◌≤◌}
use mathlib.Core.Path.{◌≡◌, sym, ◌∙◌}
use lib.ListN.{length}
use Rattle.header.specs.Form.{has_source, is_ipv6}
use Rattle.reader.proofs.Rooms.{six_room, four_room, one_room}
use Rattle.header.specs.Read.{addresses_of}
use Rattle.header.proofs.Tests.{equal, other}
use Rattle.reader.proofs.fields.addresses_at.Goals as goal
use Rattle.reader.proofs.fields.addresses_at.Goals.{Else-is_extended-eq1, Else-is_ipv6-eq1, Then-is_extended-eq1, Then-is_ipv6-eq1}

-- ---- the needs
pub six_at-requires : goal.six_at-requires
six_at-requires c = let six : c.args.k.end + 16 + 16 ≤ length c.args.s.now = six_room c.args.k _ c.requires.1 c.requires.0 (sym c.is_ipv6.ensures ∙ c.if-is_ipv6-eq1.true) in omega (arith, six)

pub six_at-requires-then-is_ipv6-eq1 : goal.six_at-requires-then-is_ipv6-eq1
six_at-requires-then-is_ipv6-eq1 c = let six : c.args.k.end + 16 + 16 ≤ length c.args.s.now = six_room c.args.k _ c.requires.1 c.requires.0 (sym c.is_ipv6.ensures ∙ c.if-is_ipv6-eq1.true) in six

pub returns-then-is_ipv6-eq1 : goal.returns-then-is_ipv6-eq1
unfolding addresses_of
returns-then-is_ipv6-eq1 c = rw (c.six_at.ensures, c.six_at-then-is_ipv6-eq1.ensures) (simp (equal c.is_ipv6.ensures c.if-is_ipv6-eq1.true))

pub word_at-destination-requires : goal.word_at-destination-requires
word_at-destination-requires c = let narrow : is_ipv6 c.args.k ≡ 1 → ⊥ = λ e. c.if-is_ipv6-eq1.false (c.is_ipv6.ensures ∙ e) in let fours : (c.args.k.end + 4 ≤ length c.args.s.now)
    × (has_source c.args.k ≡ 1
    → c.args.k.end + 4 + 4 ≤ length c.args.s.now) = four_room c.args.k _ c.requires.1 (narrow) (sym c.is_extended.ensures ∙ c.if-is_extended-eq1.true) in (fours).0

pub word_at-source-requires : goal.word_at-source-requires
word_at-source-requires c = let narrow : is_ipv6 c.args.k ≡ 1 → ⊥ = λ e. c.if-is_ipv6-eq1.false (c.is_ipv6.ensures ∙ e) in let fours : (c.args.k.end + 4 ≤ length c.args.s.now)
    × (has_source c.args.k ≡ 1
    → c.args.k.end + 4 + 4 ≤ length c.args.s.now) = four_room c.args.k _ c.requires.1 (narrow) (sym c.is_extended.ensures ∙ c.if-is_extended-eq1.true) in (fours).1 (sym c.has_source.ensures ∙ c.if-has_source-eq1.true)

pub returns-then-has_source-eq1 : goal.returns-then-has_source-eq1
unfolding addresses_of
returns-then-has_source-eq1 c = rw (c.word_at-destination.ensures, c.word_at-source.ensures)
    (simp (other c.is_ipv6.ensures c.if-is_ipv6-eq1.false, equal c.is_extended.ensures c.if-is_extended-eq1.true, equal c.has_source.ensures c.if-has_source-eq1.true))

pub returns-then-is_extended-eq1 : goal.returns-then-is_extended-eq1
unfolding addresses_of
returns-then-is_extended-eq1 c = rw c.word_at-destination.ensures
    (simp (other c.is_ipv6.ensures c.if-is_ipv6-eq1.false, equal c.is_extended.ensures c.if-is_extended-eq1.true, other c.has_source.ensures c.if-has_source-eq1.false))

pub octet_within-destination-requires : goal.octet_within-destination-requires
octet_within-destination-requires c = let narrow : is_ipv6 c.args.k ≡ 1 → ⊥ = λ e. c.if-is_ipv6-eq1.false (c.is_ipv6.ensures ∙ e) in let ones : (c.args.k.end + 1 ≤ length c.args.s.now)
    × (has_source c.args.k ≡ 1
    → c.args.k.end + 1 + 1 ≤ length c.args.s.now) = one_room c.args.k _ c.requires.1 (narrow) (λ e. c.if-is_extended-eq1.false (c.is_extended.ensures ∙ e)) in omega (arith, (ones).0)

pub octet_within-requires : goal.octet_within-requires
octet_within-requires c = let narrow : is_ipv6 c.args.k ≡ 1 → ⊥ = λ e. c.if-is_ipv6-eq1.false (c.is_ipv6.ensures ∙ e) in let ones : (c.args.k.end + 1 ≤ length c.args.s.now)
    × (has_source c.args.k ≡ 1
    → c.args.k.end + 1 + 1 ≤ length c.args.s.now) = one_room c.args.k _ c.requires.1 (narrow) (λ e. c.if-is_extended-eq1.false (c.is_extended.ensures ∙ e)) in omega (arith, (ones).1 (sym c.has_source-2.ensures ∙ c.if-has_source-eq1-2.true))

pub returns-then-has_source-eq1-2 : goal.returns-then-has_source-eq1-2
unfolding addresses_of
returns-then-has_source-eq1-2 c = rw (c.octet_within-destination.ensures, c.octet_within.ensures)
    (simp (other c.is_ipv6.ensures c.if-is_ipv6-eq1.false, other c.is_extended.ensures c.if-is_extended-eq1.false, equal c.has_source-2.ensures c.if-has_source-eq1-2.true))

pub returns : goal.returns
unfolding addresses_of
returns c = rw c.octet_within-destination.ensures
    (simp (other c.is_ipv6.ensures c.if-is_ipv6-eq1.false, other c.is_extended.ensures c.if-is_extended-eq1.false, other c.has_source-2.ensures c.if-has_source-eq1-2.false))
