-- `state_mission::clear_mission` leaves a fresh state: after i turns the first i words are 0, and then the first of all is the number. Assumes nothing.
use Rattle.std.proofs.Common.{◌≡◌, ◌≤◌}
use Rattle.words.proofs.Fill.{fill}
use Rattle.state.specs.Layout.{mission_words, fresh_words}
use Rattle.state_mission.proofs.clear_mission.Given as goal

abbrev pub invariant-loop-i : goal.invariant-loop-i
invariant-loop-i l = (l.i ≤ mission_words) × (l.mission ≡ fill l.initial.mission (fresh_words 0) l.i)
