-- `echo::build_message` meets its contract. Assumes nothing.
use native.Mathlib.Omega.{arith}
use Rattle.echo.proofs.Laws.{roomy, no_room, too_long, done}
use Rattle.echo.proofs.build_message.Goals as goal

pub returns-in_default-clause-out_after : goal.returns-in_default-clause-out_after
returns-in_default-clause-out_after c = let args = c.args in no_room args.m args.echoed.now args.out.now c.fixed_size-from.ensures c.check_room.ensures c.in_default.is

pub overflow_add-from : goal.overflow_add-from
overflow_add-from c = let args = c.args in
    let room = roomy args.m args.echoed.now args.out.now c.fixed_size-from.ensures c.check_room.ensures c.in-Passed.is in
    omega (arith, room, c.fixed_size-from.ensures)

pub returns-in_default-check_data-clause-out_after : goal.returns-in_default-check_data-clause-out_after
returns-in_default-check_data-clause-out_after c = let args = c.args in too_long args.m args.echoed.now args.out.now c.fixed_size-from.ensures c.check_room.ensures c.in-Passed.is
    c.check_data.ensures c.in_default-check_data.is

pub write_message-requires : goal.write_message-requires
write_message-requires c = let args = c.args in
    roomy args.m args.echoed.now args.out.now c.fixed_size-from.ensures c.check_room.ensures c.in-Passed.is

pub returns-clause-out_after : goal.returns-clause-out_after
returns-clause-out_after c = let args = c.args in done args.m args.echoed.now args.out.now c.fixed_size-from.ensures c.check_room.ensures c.in-Passed.is
    c.check_data.ensures c.in-Passed-check_data.is c.write_message.ensures.out_after
