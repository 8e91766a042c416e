-- `verdict::onward_half::flood_line` meets its contract: what is new goes to every other port, in whichever place. Assumes nothing.
use Rattle.verdict.proofs.onward_half.flood_line.Goals as goal

pub returns-in-New : goal.returns-in-New
returns-in-New c = λ line flooded. rw c.in-New.is (c.every_other.ensures 0 line)
