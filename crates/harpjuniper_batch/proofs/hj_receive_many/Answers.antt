-- The turns of the loop, by the laws of `Inv`.
use Rattle.std.proofs.Common.{◌<◌, ◌≤◌, arith}
use Rattle.batch.specs.Items.{Lists}
use Rattle.harpjuniper_batch.proofs.Turns.{begins, hearable, heard_again, ended}
use Rattle.harpjuniper_batch.proofs.hj_receive_many.Goals as goal

pub loop-i-init : goal.loop-i-init
loop-i-init c =
    let x : Lists =
    record {
      lengths = c.args.lengths.now;
      ports = c.args.ports.now;
      slots = c.args.slots.now;
      seconds = c.args.seconds.now;
      octets = c.args.octets.now;
    } in
    begins c.args.board.now c.args.mission.now c.args.routes.now x c.args.answers.now c.args.output.now c.planned-p.result
    c.planned-p.ensures c.start-at.result c.start-at.ensures

pub hear_item-at-requires : goal.hear_item-at-requires
hear_item-at-requires c =
    let more : c.loop-i.i < c.planned-p.result.items = omega (arith, c.items_of-n.ensures, c.loop-i-test.true) in
    hearable _ _ _ _ _ _ _ _ _ _ _ _ c.loop-i.invariant more

pub loop-i-preserved : goal.loop-i-preserved
loop-i-preserved c =
    let more : c.loop-i.i < c.planned-p.result.items = omega (arith, c.items_of-n.ensures, c.loop-i-test.true) in
    heard_again _ _ _ _ _ _ _ _ _ _ _ _ c.loop-i.invariant more c.hear_item-at.result c.hear_item-at.new.mission
    c.hear_item-at.new.answers c.hear_item-at.new.output c.hear_item-at.ensures

pub returns : goal.returns
returns c =
    let last : c.planned-p.result.items ≤ c.loop-i.i = omega (arith, c.items_of-n.ensures, c.loop-i-test.false) in
    ended _ _ _ _ _ _ _ _ _ _ _ _ c.loop-i.invariant last c.refusal_of.result c.refusal_of.ensures
