-- Whether a port is set up, over plain variables. Assumes nothing.
use Prim.Native.Nat.{ℕ, ◌≤◌, ◌<◌}
use mathlib.Core.Path.{◌≡◌, sym, ◌∙◌}
use mathlib.Core.Bool.{true, not}
use mathlib.Core.List.{List}
use lib.ListN.{get_or}
use borrow.Author.Tests.{eq-eqb, ne_eqb, lt-ltb, le-ltb, ltb-true}
use Rattle.checks.specs.Order.{check_of}
use Rattle.checks.specs.declared.Check.{Check}
use Rattle.checks.specs.declared.Check.TheVariants.{Passed, Failed}
use Rattle.checks.proofs.Bools.{and_true, not-false}
use Rattle.checks.proofs.Laws.{passed_false}
use Rattle.records.specs.declared.Port.{Port}
use Rattle.records.specs.Fresh.{fresh_port}
use Rattle.state.specs.Relay.{among_ports}

module _ (ports : List Port) (port : ℕ) where
  pub over_seven : 8 ≤ port → Failed ≡ check_of (not (among_ports ports port))
  unfolding among_ports
  over_seven h = simp (le-ltb port 8 h)

  pub not_ready : {p : Port} → port < 8 → p ≡ get_or ports port fresh_port → p.ready ≡ 0 → Failed ≡ check_of (not (among_ports ports port))
  unfolding among_ports
  not_ready h e z = rw (← e) (simp (lt-ltb port 8 h, eq-eqb _ 0 z))

  pub set_up_lem : {p : Port} → port < 8 → p ≡ get_or ports port fresh_port → (p.ready ≡ 0 → ⊥) → Passed ≡ check_of (not (among_ports ports port))
  unfolding among_ports
  set_up_lem h e z = rw (← e) (simp (lt-ltb port 8 h, ne_eqb _ 0 z))

  -- its number is one of the eight
  pub is_port : among_ports ports port ≡ true → port < 8
  unfolding among_ports
  is_port h = ltb-true port 8 (and_true _ _ h).0

  pub passed_port : {c : Check} → c ≡ check_of (not (among_ports ports port)) → c ≡ Passed → port < 8
  passed_port told is = is_port (not-false _ (passed_false _ (sym told ∙ is)))
