-- `settings::check_place` meets its contract. Assumes nothing.
use native.Mathlib.Omega.{arith}
use Rattle.settings.proofs.Answers.{passes, fails}
use Rattle.settings.proofs.Values.{place_taken}
use Rattle.settings.proofs.check_place.Goals as goal

pub returns-then-place-places : goal.returns-then-place-places
returns-then-place-places c = passes (place_taken _ _) c.if-place-places.true

pub returns : goal.returns
returns c = fails (place_taken c.args.place c.args.places) (omega arith)
