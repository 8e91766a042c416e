-- `numbers::validity::check_stamp` meets its contract, test by test, with the limit that `pfield_limit` gives. Assumes nothing.
use mathlib.Core.Path.{◌≡◌}
use mathlib.Core.Bool.{not, ◌&&◌}
use lib.Dec.{eqb}
use borrow.Author.Tests.{eq-eqb, ne_eqb, le-leb, lt-leb}
use Rattle.checks.specs.Order.{check_of}
use Rattle.numbers.specs.Out.{stamp_out}
use Rattle.numbers.proofs.validity.check_stamp.Goals as goal
use Rattle.numbers.proofs.validity.check_stamp.Goals.{Else-pfield_limit-n}

pub returns-then-n-ge4 : goal.returns-then-n-ge4
unfolding stamp_out
returns-then-n-ge4 c = simp (le-leb _ _ c.if-n-ge4.true)

pub returns-then-pfield_limit-n : goal.returns-then-pfield_limit-n
unfolding stamp_out
returns-then-pfield_limit-n c = rw (← c.pfield_limit.ensures) (simp (lt-leb _ _ c.if-n-ge4.false, le-leb _ _ c.if-pfield_limit-n.true))

pub returns-then-n-ne0 : goal.returns-then-n-ne0
unfolding stamp_out
returns-then-n-ne0 c = let past-limit : let n = c.args.n in
    check_of (eqb n.format 0 && not (eqb n.time 0)) ≡ check_of (stamp_out n) = rw (← c.pfield_limit.ensures) (simp (lt-leb _ _ c.if-n-ge4.false, lt-leb _ _ c.if-pfield_limit-n.false)) in rw (← past-limit) (simp (ne_eqb _ _ c.if-n-ne0.true))

pub returns-then-n-ne0-2 : goal.returns-then-n-ne0-2
unfolding stamp_out
returns-then-n-ne0-2 c = let past-limit : let n = c.args.n in
    check_of (eqb n.format 0 && not (eqb n.time 0)) ≡ check_of (stamp_out n) = rw (← c.pfield_limit.ensures) (simp (lt-leb _ _ c.if-n-ge4.false, lt-leb _ _ c.if-pfield_limit-n.false)) in rw (← past-limit) (simp (eq-eqb _ _ c.if-n-ne0.false, ne_eqb _ _ c.if-n-ne0-2.true))

pub returns : goal.returns
unfolding stamp_out
returns c = let past-limit : let n = c.args.n in
    check_of (eqb n.format 0 && not (eqb n.time 0)) ≡ check_of (stamp_out n) = rw (← c.pfield_limit.ensures) (simp (lt-leb _ _ c.if-n-ge4.false, lt-leb _ _ c.if-pfield_limit-n.false)) in rw (← past-limit) (simp (eq-eqb _ _ c.if-n-ne0.false, eq-eqb _ _ c.if-n-ne0-2.false))
