-- `replies::sending::write_reply` meets its contract. Assumes nothing.
use Rattle.replies.proofs.Written.{none_written, few_data, size_small, all_fits, buffer_fits, as_long, message_fits, reply-written}
use lib.Seq.{length-take-le, take-length}
use lib.ListN.{length, take, drop}
use mathlib.Core.List.{◌++◌}
use mathlib.Core.Path.{◌≡◌, sym}
use native.Mathlib.Omega.{arith}
use Rattle.replies.proofs.Going.{wired_small}
use Rattle.replies.proofs.sending.write_reply.Goals as goal

pub returns-then-e-eq0 : goal.returns-then-e-eq0
returns-then-e-eq0 c = none_written c.args.a c.args.e c.args.octets.now c.args.output.now c.if-e-eq0.true

pub overflow_add-a : goal.overflow_add-a
overflow_add-a c = omega (arith, few_data c.args.a c.args.e c.args.octets.now c.args.output.now (c.requires c.if-e-eq0.false))

pub write_header-size-requires : goal.write_header-size-requires
write_header-size-requires c = record { longest_header_in_bounds = (omega arith, few_data c.args.a c.args.e c.args.octets.now c.args.output.now (c.requires c.if-e-eq0.false)); tpid_bound = wired_small _ c.args.a _ (c.requires c.if-e-eq0.false).made c.wire_fields.ensures }

pub slice_bounds-header-end : goal.slice_bounds-header-end
slice_bounds-header-end c = omega (arith, size_small c.args.a c.args.e c.args.octets.now c.args.output.now (c.requires c.if-e-eq0.false) c.wire_fields.ensures c.write_header-size.ensures.value, c.write_header-size.auto.out)

pub slice_bounds-put_front-end : goal.slice_bounds-put_front-end
slice_bounds-put_front-end c = sym (length-take-le _ _ (omega (arith, size_small c.args.a c.args.e c.args.octets.now c.args.output.now (c.requires c.if-e-eq0.false) c.wire_fields.ensures c.write_header-size.ensures.value, c.write_header-size.auto.out)))

pub put_front-requires : goal.put_front-requires
put_front-requires c = buffer_fits c.args.a c.args.e c.args.octets.now c.args.output.now (c.requires c.if-e-eq0.false) c.wire_fields.ensures c.write_header-size.ensures.value _ c.write_header-size.ensures.out_after

pub overflow_add-to : goal.overflow_add-to
overflow_add-to c = omega (arith, (c.requires c.if-e-eq0.false).within, c.well_formed)

pub slice_bounds-write_message-count-2 : goal.slice_bounds-write_message-count-2
slice_bounds-write_message-count-2 c =
    let front = take c.write_header-size.result c.write_header-size.new.out in
    let copied : c.put_front.new.out ≡ take (length front) front ++ drop (length front) c.args.output.now = rw (take-length front) c.put_front.ensures in
    omega (arith, as_long c.args.a c.args.e c.args.octets.now c.args.output.now (c.requires c.if-e-eq0.false) c.wire_fields.ensures c.write_header-size.ensures.value _ c.write_header-size.ensures.out_after copied, all_fits c.args.a c.args.e c.args.octets.now c.args.output.now (c.requires c.if-e-eq0.false) c.wire_fields.ensures c.write_header-size.ensures.value)

pub write_message-requires : goal.write_message-requires
write_message-requires c =
    let front = take c.write_header-size.result c.write_header-size.new.out in
    let copied : c.put_front.new.out ≡ take (length front) front ++ drop (length front) c.args.output.now = rw (take-length front) c.put_front.ensures in
    message_fits c.args.a c.args.e c.args.octets.now c.args.output.now (c.requires c.if-e-eq0.false) c.wire_fields.ensures c.write_header-size.ensures.value _ c.write_header-size.ensures.out_after copied

pub returns : goal.returns
returns c =
    let front = take c.write_header-size.result c.write_header-size.new.out in
    let copied : c.put_front.new.out ≡ take (length front) front ++ drop (length front) c.args.output.now = rw (take-length front) c.put_front.ensures in
    reply-written c.args.a c.args.e c.args.octets.now c.args.output.now (c.requires c.if-e-eq0.false) c.wire_fields.ensures c.write_header-size.ensures.value _ c.write_header-size.ensures.out_after copied c.if-e-eq0.false c.write_message.ensures.out_after

pub slice_bounds-write_message-start-2 : goal.slice_bounds-write_message-start-2
slice_bounds-write_message-start-2 c = omega (arith, size_small c.args.a c.args.e c.args.octets.now c.args.output.now (c.requires c.if-e-eq0.false) c.wire_fields.ensures c.write_header-size.ensures.value, all_fits c.args.a c.args.e c.args.octets.now c.args.output.now (c.requires c.if-e-eq0.false) c.wire_fields.ensures c.write_header-size.ensures.value, c.put_front.auto.out)
