-- `harpjuniper_relay::hj_counter` meets its contract. Assumes nothing.
use Rattle.std.proofs.Common.{◌∙◌, refl, rules}
use Rattle.lent_state.proofs.Calls.{same_told, held_told, other_told}
use Rattle.harpjuniper_relay.proofs.Calls.{counter, no_counter}
use Rattle.harpjuniper_relay.proofs.hj_counter.Goals as goal

pub returns-in_default : goal.returns-in_default
returns-in_default c = c.refusal_number-in_default.ensures ∙ other_told _ (search rules) _ _

pub returns-then-counter-ge-COUNTERS : goal.returns-then-counter-ge-COUNTERS
returns-then-counter-ge-COUNTERS c = c.refusal_number.ensures ∙ same_told _ _ _ (λ _. no_counter _ _ c.if-counter-ge-COUNTERS.true refl)

pub returns : goal.returns
returns c = held_told _ (search rules) _ _ (rw (← c.in-Ok.ensures.1.same) (counter _ _ (assumption) c.counter_of.ensures))

pub counter_of-requires : goal.counter_of-requires
counter_of-requires c = (assumption)
