-- `listing::step` meets its contract. Assumes nothing.
use borrow.Author.Tests.{eq-eqb, ne_eqb}
use Rattle.listing.specs.Scan.{matches, step_of}
use Rattle.listing.proofs.step.Goals as goal

pub returns-then-q-r : goal.returns-then-q-r
unfolding step_of matches
returns-then-q-r c = simp (ne_eqb _ _ c.if-q-r.true)

pub returns-then-r-eq0 : goal.returns-then-r-eq0
unfolding step_of matches
returns-then-r-eq0 c = simp (eq-eqb _ _ c.if-q-r.false, eq-eqb _ _ c.if-r-eq0.true)

pub returns-then-r-q : goal.returns-then-r-q
unfolding step_of matches
returns-then-r-q c = simp (eq-eqb _ _ c.if-q-r.false, ne_eqb _ _ c.if-r-eq0.false, ne_eqb _ _ c.if-r-q.true)

pub returns : goal.returns
unfolding step_of matches
returns c = simp (eq-eqb _ _ c.if-q-r.false, ne_eqb _ _ c.if-r-eq0.false, eq-eqb _ _ c.if-r-q.false) c.judged.ensures
