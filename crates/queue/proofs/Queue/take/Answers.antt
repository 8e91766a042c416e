-- A queue in which one waits, one in which none does, and one of a count over 32.
use Rattle.std.proofs.Common.{◌≡◌, sym, arith, length}
use Rattle.queue.proofs.Cases.{take_over, take_none, take_first}
use Rattle.queue.proofs.Queue.take.Goals as goal

pub returns-in-1-to-32 : goal.returns-in-1-to-32
returns-in-1-to-32 c =
    let wide : length c.args.self.entries ≡ 32 = omega arith in
    rw c.moved_up.ensures (sym (take_first c.args.self _ (omega arith) (omega arith) (omega (arith, wide))))

pub returns-in_default : goal.returns-in_default
returns-in_default c = sym (take_none _ (omega arith))

pub returns-in_default-2 : goal.returns-in_default-2
returns-in_default-2 c = sym (take_over _ (omega arith))
