-- `settings::check_mtu` meets its contract. Assumes nothing.
use native.Mathlib.Omega.{arith}
use Rattle.settings.proofs.Answers.{passes, fails}
use Rattle.settings.proofs.Values.{mtu_taken}
use Rattle.settings.proofs.check_mtu.Goals as goal

pub returns-then-mtu-lt1 : goal.returns-then-mtu-lt1
returns-then-mtu-lt1 c = fails (mtu_taken c.args.mtu) (omega arith)

pub returns-then-mtu-gt-LARGEST_MTU : goal.returns-then-mtu-gt-LARGEST_MTU
returns-then-mtu-gt-LARGEST_MTU c = fails (mtu_taken c.args.mtu) (omega arith)

pub returns : goal.returns
returns c = passes (mtu_taken _) (c.if-mtu-lt1.false, c.if-mtu-gt-LARGEST_MTU.false)
