-- `survey::names::marked_by` meets its contract. Assumes nothing.
use Rattle.survey.proofs.names.marked_by.Goals as goal

pub returns : goal.returns
returns c = simp (c.mark_of.ensures, c.mark_of-2.ensures, c.mark_of-3.ensures)
