-- `sent_on::send_on` meets its contract: its three steps make the header sent on. Assumes nothing.
use native.Mathlib.Omega.{arith}
use mathlib.Core.List.{◌++◌}
use mathlib.Core.Path.{◌≡◌, sym}
use lib.ListN.{length, take, drop, length-take}
use lib.Seq.{take-length, length-take-le}
use Rattle.sent_on.proofs.Laws.{copied, bounded, sent}
use Rattle.sent_on.proofs.send_on.Goals as goal

pub slice_bounds-put_front-end : goal.slice_bounds-put_front-end
slice_bounds-put_front-end c = sym (length-take-le _ _ (bounded _ c.requires.1.0 _ c.requires.1.1).copy)

pub put_front-requires : goal.put_front-requires
put_front-requires c = simp length-take (omega (arith, bounded _ c.requires.1.0 _ c.requires.1.1, c.requires.0))

pub lessen-requires : goal.lessen-requires
lessen-requires c = omega (arith, bounded _ c.requires.1.0 _ c.requires.1.1, c.requires.0, c.put_front.auto.out)

pub put_checksum-requires : goal.put_checksum-requires
put_checksum-requires c =
    omega (arith, bounded _ c.requires.1.0 _ c.requires.1.1, c.requires.0, c.put_front.auto.out, c.lessen.auto.out)

pub returns : goal.returns
returns c =
    let s = c.args.s.now in
    let n = c.args.c.checksum in
    let front = take n s in
    let put : c.put_front.new.out ≡ take (length front) front ++ drop (length front) c.args.out.now = rw (take-length front) c.put_front.ensures in
    let copy = copied s _ _ n (bounded s c.requires.1.0 _ c.requires.1.1).copy put in
    let t = sent s c.requires.1.0 _ c.requires.1.1 c.args.out.now _ _ _ _ c.requires.0 (record {
      copy = copy;
      less = c.lessen.ensures;
      sum = (c.put_checksum.ensures.value, c.put_checksum.ensures.out_after);
    }) in
    record { value = t.0; out_after = t.1 }
