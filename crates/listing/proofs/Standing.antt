-- Which records the rules do not refuse: page 02, W-208. A port that a mission sees as set up is set up, and the mission one of the two, so that a
-- mission's own ports decide. Assumes nothing.
use native.Mathlib.Omega.{arith}
use Prim.Native.Nat.{ℕ, ◌<◌}
use mathlib.Core.Path.{◌≡◌, refl, sym, ap, ◌∙◌}
use mathlib.Core.Logic.{◌↔◌}
use mathlib.Core.Bool.{true, false, not, ◌&&◌}
use mathlib.Core.List.{List}
use lib.Dec.{eqb}
use borrow.Author.Tests.{eqb-true, eq-eqb, ltb-true, lt-ltb}
use Rattle.checks.specs.Order.{first_of, Numbered}
use Rattle.checks.proofs.Bools.{and_true, not-false}
use Rattle.checks.proofs.Laws.{zero_none, none_zero}
use Rattle.sets.specs.Sets.{in_set}
use Rattle.records.specs.declared.Port.{Port}
use Rattle.records.specs.Owned.{is_mission}
use Rattle.records.specs.SetUp.{is_set_up}
use Rattle.routes.specs.declared.Record.{Record}
use Rattle.routes.specs.Records.{empty_record, is_record}
use Rattle.routes.specs.Refusals.{prefix_refused, codes_refused}
use Rattle.settings.specs.Sets.{is_ready}
use Rattle.state.specs.Relay.{ready_of}
use Rattle.state.specs.Seen.{Board, ports_seen, all_ports}
use Rattle.state.proofs.Seen.{seen_set_up, all_at, in_ready}
use Rattle.listing.specs.Listed.{record_checks, stands}

-- the set of the ports that mission n has
abbrev pub own_of : Board → ℕ → ℕ
own_of b n = ready_of (ports_seen n b)

ready_port : (ports : List Port) (p : ℕ) → is_ready p (ready_of ports) ≡ true → (p < 8) × (in_set p (ready_of ports) ≡ true)
ready_port ports p h = let both = and_true _ _ h in (ltb-true p 8 both.0, both.1)

-- A port that a mission has is set up, and the mission is one of the two.
pub own_all : (b : Board) (n p : ℕ) → is_ready p (own_of b n) ≡ true → (is_mission n ≡ true) × (is_ready p (ready_of (all_ports b)) ≡ true)
own_all b n p h =
    let own = ready_port (ports_seen n b) p h in
    let seen = seen_set_up b p n (sym (in_ready (ports_seen n b) p own.0) ∙ own.1) in
    let up : in_set p (ready_of (all_ports b)) ≡ true =
    in_ready (all_ports b) p own.0
    ∙ ap is_set_up (all_at b p ∙ sym seen.1)
    ∙ sym (in_ready (ports_seen n b) p own.0)
    ∙ own.1 in
    ((and_true _ _ seen.0).0, rw (lt-ltb p 8 own.0) up)

-- what a record that stands has
abbrev pub Standing : Board → Record → Type 0
Standing b x =
    (is_record x ≡ true)
    × (is_ready x.port (own_of b x.mission) ≡ true)
    × (prefix_refused (record { 0 = x.prefix }) (record { 0 = x.mask }) ≡ false)
    × (codes_refused x.availability x.capabilities ≡ false)

numbered : (b : Board) (x : Record) → Numbered (record_checks b x)
numbered b x = (λ e. omega arith, (λ e. omega arith, (λ e. omega arith, (λ e. omega arith, (λ e. omega arith, tt)))))

-- A record stands exactly where it is filled, its mission has its port, and neither 22 nor 24 refuses its prefix, mask and codes.
pub stands_is : (b : Board) (x : Record) → (stands b x ≡ true) ↔ Standing b x
unfolding stands
stands_is b x = (there, back)
  where
    there : (is_record x && eqb (first_of (record_checks b x)) 0) ≡ true → Standing b x
    there h =
        let both = and_true _ _ h in
        let none = zero_none (record_checks b x) (numbered b x) (eqb-true _ _ both.1) in
        (both.0, not-false _ none.1.1.1.1.0, none.1.0, none.1.1.0)

    back : Standing b x → (is_record x && eqb (first_of (record_checks b x)) 0) ≡ true
    back h =
        let all = own_all b x.mission x.port h.1 in
        let none = none_zero (record_checks b x) (ap not all.1, (h.2, (h.3, (ap not all.0, (ap not h.1, tt))))) in
        rw h.0 (eq-eqb _ _ none)

-- An empty record does not.
pub empty_stands_not : (b : Board) → stands b empty_record ≡ false
unfolding stands
empty_stands_not b = refl
