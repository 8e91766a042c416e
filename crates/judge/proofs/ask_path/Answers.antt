-- `judge::ask_path` meets its contract. Assumes nothing.
use mathlib.Core.Path.{sym}
use Rattle.checks.proofs.Bools.{true_false}
use Rattle.judge.proofs.Stages.{path_looked_lem}
use Rattle.judge.proofs.ask_path.Goals as goal

pub returns : goal.returns
returns c = λ board. path_looked_lem _ c.path_form.ensures _ (λ e. true_false (sym (rw e at c.if-eq.ensures))) (c.path_place.ensures board)
