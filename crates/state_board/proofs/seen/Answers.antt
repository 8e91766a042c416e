-- `state_board::seen` meets its contract. Assumes nothing.
use Rattle.std.proofs.Common.{inl, inr}
use Rattle.state_board.proofs.Own.{its_own, another, no_mission_lem}
use Rattle.state_board.proofs.seen.Goals as goal

pub returns-then-x-number : goal.returns-then-x-number
returns-then-x-number c = its_own _ _ c.if-number-lt-MISSIONS.true c.if-x-number.true

pub returns : goal.returns
returns c = elim c.else-number-lt-MISSIONS.either [ inl h ↦ another _ _ h.1 | inr h ↦ no_mission_lem _ _ h ]
