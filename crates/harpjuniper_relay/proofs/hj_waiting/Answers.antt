-- `harpjuniper_relay::hj_waiting` meets its contract. Assumes nothing.
use Rattle.std.proofs.Common.{◌∙◌, refl, rules}
use Rattle.lent_state.proofs.Calls.{same_told, held_told, other_told}
use Rattle.harpjuniper_relay.proofs.Calls.{count, no_queue}
use Rattle.harpjuniper_relay.proofs.hj_waiting.Goals as goal

pub returns-in_default : goal.returns-in_default
returns-in_default c = c.refusal_number-in_default.ensures ∙ other_told _ (search rules) _ _

pub returns-then-port-ge-PORTS : goal.returns-then-port-ge-PORTS
returns-then-port-ge-PORTS c = c.refusal_number.ensures ∙ same_told _ _ _ (λ _. no_queue _ _ c.if-port-ge-PORTS.true refl)

pub returns : goal.returns
returns c = held_told _ (search rules) _ _ (rw (← c.in-Ok.ensures.1.same) (count _ _ (assumption) c.count_of.ensures))

pub count_of-requires : goal.count_of-requires
count_of-requires c = (assumption)
