-- `settings::check_flag` meets its contract. Assumes nothing.
use native.Mathlib.Omega.{arith}
use Rattle.settings.proofs.Answers.{passes, fails}
use Rattle.settings.proofs.Values.{flag_taken}
use Rattle.settings.proofs.check_flag.Goals as goal

pub returns-then-v-gt1 : goal.returns-then-v-gt1
returns-then-v-gt1 c = fails (flag_taken c.args.v) (omega arith)

pub returns : goal.returns
returns c = passes (flag_taken c.args.v) (omega arith)
