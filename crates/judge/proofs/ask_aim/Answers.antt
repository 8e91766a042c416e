-- `judge::ask_aim` meets its contract. Assumes nothing.
use Rattle.judge.proofs.ask_aim.Goals as goal

pub returns-in-Node : goal.returns-in-Node
returns-in-Node c = rw c.in-Node.is c.ask_node.ensures

pub returns-in-Path : goal.returns-in-Path
returns-in-Path c = rw c.in-Path.is (c.ask_path.ensures _)

pub returns-in-Uncarried : goal.returns-in-Uncarried
returns-in-Uncarried c = rw c.in-Uncarried.is c.not_looked.ensures
