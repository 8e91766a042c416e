-- `judge::ask_octets` meets its contract. Assumes nothing.
use mathlib.Core.Path.{sym, ap, ◌∙◌}
use Rattle.checks.specs.Told.{told}
use Rattle.header.proofs.FoundLaws.{found_told}
use Rattle.judge.proofs.ask_octets.Goals as goal

pub returns-in-Ok : goal.returns-in-Ok
returns-in-Ok c = rw (sym (found_told c.args.octets.now _ c.find_header.ensures) ∙ ap told c.in-Ok.is) c.ask_header.ensures

pub returns-in-Err : goal.returns-in-Err
returns-in-Err c = rw (sym (found_told c.args.octets.now _ c.find_header.ensures) ∙ ap told c.in-Err.is, ← c.number.ensures) c.refused.ensures
