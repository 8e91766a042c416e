-- `routes::check_codes` meets its contract: each return has the tests that its definition asks. Assumes nothing.
use borrow.Author.Tests.{lt-leb, le-leb}
use Rattle.routes.specs.Refusals.{codes_refused}
use Rattle.routes.proofs.Codes.{low_code, high_code}
use Rattle.routes.proofs.check_codes.Goals as goal

pub returns-then-availability-lt1 : goal.returns-then-availability-lt1
unfolding codes_refused
returns-then-availability-lt1 c = simp (lt-leb _ _ c.if-availability-lt1.true)

pub returns-then-availability-gt4 : goal.returns-then-availability-gt4
unfolding codes_refused
returns-then-availability-gt4 c = simp (le-leb _ _ c.if-availability-lt1.false, lt-leb _ _ c.if-availability-gt4.true)

pub returns-then-capabilities-eq4 : goal.returns-then-capabilities-eq4
unfolding codes_refused
returns-then-capabilities-eq4 c = simp (le-leb _ _ c.if-availability-lt1.false, le-leb _ _ c.if-availability-gt4.false, c.if-capabilities-eq4.true)

pub returns-then-capabilities-gt2 : goal.returns-then-capabilities-gt2
unfolding codes_refused
returns-then-capabilities-gt2 c = let k = c.before.before in
    simp (le-leb _ _ k.if-availability-lt1.false, le-leb _ _ k.if-availability-gt4.false, high_code _ c.if-capabilities-gt2.true c.if-capabilities-eq4.false)

pub returns : goal.returns
unfolding codes_refused
returns c = let k = c.before.before in
    simp (le-leb _ _ k.if-availability-lt1.false, le-leb _ _ k.if-availability-gt4.false, low_code _ c.if-capabilities-gt2.false)
