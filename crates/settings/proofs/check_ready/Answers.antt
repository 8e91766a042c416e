-- `settings::check_ready` meets its contract: each return has the tests that its definition asks. Assumes nothing.
use borrow.Author.Tests.{lt-ltb, le-ltb, eq-eqb, ne_eqb}
use native.Mathlib.Omega.{arith}
use Rattle.settings.proofs.check_ready.Goals as goal

pub returns-then-port-ge-PORTS : goal.returns-then-port-ge-PORTS
returns-then-port-ge-PORTS c = simp (le-ltb c.args.port 8 (omega arith))

pub returns-then-ready-port-ne1 : goal.returns-then-ready-port-ne1
returns-then-ready-port-ne1 c = simp (lt-ltb c.args.port 8 (omega arith), ne_eqb _ _ c.if-ready-port-ne1.true)

pub returns : goal.returns
returns c = simp (lt-ltb c.args.port 8 (omega arith), eq-eqb _ _ c.if-ready-port-ne1.false)
