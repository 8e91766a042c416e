-- `relay::outgoing::send_all` meets its contract. Assumes nothing.
use mathlib.Core.Path.{refl, sym, ◌∙◌}
use lib.Seq.{length-take-le}
use native.Mathlib.Omega.{arith}
use Rattle.relay.proofs.outgoing.Headers.{few_taken, ready_sent, took_none}
use Rattle.relay.proofs.outgoing.send_all.Goals as goal

pub returns-then-took-eq0 : goal.returns-then-took-eq0
returns-then-took-eq0 c = took_none _ _ _ _ c.if-took-eq0.true

pub slice_bounds-make_if-end : goal.slice_bounds-make_if-end
slice_bounds-make_if-end c = refl

pub make_if-near_size-requires : goal.make_if-near_size-requires
make_if-near_size-requires c = (c.requires.1.0, (omega arith, c.requires.1.1))

pub slice_bounds-make_if-end-2 : goal.slice_bounds-make_if-end-2
slice_bounds-make_if-end-2 c = refl

pub make_if-other_size-requires : goal.make_if-other_size-requires
make_if-other_size-requires c = (c.requires.1.0, (omega arith, c.requires.1.1))

pub slice_bounds-near-end : goal.slice_bounds-near-end
slice_bounds-near-end c = omega (arith, c.make_if-near_size.ensures.0, c.make_if-near_size.auto.out)

pub slice_bounds-send_each-end : goal.slice_bounds-send_each-end
slice_bounds-send_each-end c = sym (length-take-le _ _ (omega (arith, c.make_if-near_size.ensures.0, c.make_if-near_size.auto.out)))

pub slice_bounds-other-end : goal.slice_bounds-other-end
slice_bounds-other-end c = omega (arith, c.make_if-other_size.ensures.0, c.make_if-other_size.auto.out)

pub slice_bounds-send_each-end-2 : goal.slice_bounds-send_each-end-2
slice_bounds-send_each-end-2 c = sym (length-take-le _ _ (omega (arith, c.make_if-other_size.ensures.0, c.make_if-other_size.auto.out)))

pub send_each-requires : goal.send_each-requires
send_each-requires c = (c.requires.0, (few_taken _ _ c.make_if-near_size.ensures.0, few_taken _ _ c.make_if-other_size.ensures.0))

pub returns : goal.returns
returns c = c.send_each.ensures ∙ ready_sent c.args.took c.args.legs _ _ _ _ (λ some. c.make_if-near_size.ensures.1 (λ z. some (sym c.except.ensures ∙ z))) c.make_if-other_size.ensures.1 8
