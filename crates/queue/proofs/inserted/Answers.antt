-- The place that is found, the turns that open it, and the newcomer in it.
use Rattle.std.proofs.Common.{◌≡◌, arith, length-take}
use Rattle.queue.specs.Queue.{precedence_of}
use Rattle.queue.proofs.Steps.{place_found, shift_none, shift_turn, shift_end}
use Rattle.queue.proofs.inserted.Goals as goal

pub loop-i-init : goal.loop-i-init
loop-i-init c =
    let found = place_found precedence_of c.args.newcomer _ _ _ (simp length-take (omega arith)) (rw c.inserted_newcomer.ensures at c.unwrap_or-place.ensures) in
    (found.0, shift_none c.args.entries c.args.n, found.1)

pub loop-i-preserved : goal.loop-i-preserved
loop-i-preserved c = (
  omega arith,
  rw c.loop-i.invariant.1 (shift_turn c.args.entries c.args.n _ (omega arith) _ _ (omega arith) (omega arith)),
  c.loop-i.invariant.2,
)

pub returns : goal.returns
returns c =
    let met : c.loop-i.i ≡ c.unwrap_or-place.result = omega arith in
    rw (c.loop-i.invariant.1, met) (shift_end precedence_of _ _ _ _ (omega arith) (omega arith) c.loop-i.invariant.2)
