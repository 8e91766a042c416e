-- `checksum::folded` meets its contract: three folds leave 16 bits. Assumes nothing.
use native.Mathlib.Omega.{arith}
use mathlib.Core.Path.{◌≡◌, ap, ◌∙◌}
use Rattle.checksum.specs.Sum.{around}
use Rattle.checksum.proofs.TwoAtOnce.{folds}
use Rattle.checksum.proofs.folded.Goals as goal

is : (c : goal.After-fold-3) → c.fold-3.result ≡ around (around (around c.args.sum))
is c = c.fold-3.ensures ∙ ap around (c.fold-2.ensures ∙ ap around c.fold.ensures)

pub overflow_cast-result : goal.overflow_cast-result
overflow_cast-result c = omega (arith, is c, folds c.args.sum c.requires)

pub returns : goal.returns
returns c = record { value = is c; upper_bound = rw (is c) (folds c.args.sum c.requires).2 }
