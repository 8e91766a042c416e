-- `relay::refuse` meets its contract. Assumes nothing.
use native.Mathlib.Omega.{arith}
use mathlib.Core.Path.{◌≡◌, ap, ◌∙◌}
use lib.ListN.{length}
use Rattle.state.specs.Layout.{decode, mission_words}
use Rattle.state.specs.Seen.{on_counters}
use Rattle.tally.specs.Tally.{counted_all, moves_of}
use Rattle.answers.specs.Answers.{receive_number}
use Rattle.relay.specs.Split.{Counted}
use Rattle.relay.proofs.Received.{refused_counted, idle_16, idle_17, idle_21, idle_29}
use borrow.Author.Rules.{rules}
use Rattle.relay.proofs.refuse.Goals as goal

pub returns-then-refusal-eq16 : goal.returns-then-refusal-eq16
returns-then-refusal-eq16 c = record { value = c.receive_number-answer.ensures ∙ ap receive_number c.ended_by-e.ensures; by_index = λ b slot k. idle_16 _ b _ slot _ c.if-refusal-eq16.true }

pub returns-then-refusal-eq17 : goal.returns-then-refusal-eq17
returns-then-refusal-eq17 c = record { value = c.receive_number-answer.ensures ∙ ap receive_number c.ended_by-e.ensures; by_index = λ b slot k. idle_17 _ b _ slot _ c.if-refusal-eq17.true }

pub returns-then-refusal-eq21 : goal.returns-then-refusal-eq21
returns-then-refusal-eq21 c = record { value = c.receive_number-answer.ensures ∙ ap receive_number c.ended_by-e.ensures; by_index = λ b slot k. idle_21 _ b _ slot _ c.if-refusal-eq21.true }

pub returns-then-refusal-eq29 : goal.returns-then-refusal-eq29
returns-then-refusal-eq29 c = record { value = c.receive_number-answer.ensures ∙ ap receive_number c.ended_by-e.ensures; by_index = λ b slot k. idle_29 _ b _ slot _ c.if-refusal-eq29.true }

pub unwrap-mission-requires : goal.unwrap-mission-requires
unwrap-mission-requires c = let counts : Counted c.args.refusal = (c.if-refusal-eq16.false, (c.if-refusal-eq17.false, (c.if-refusal-eq21.false, λ e. omega (arith, e)))) in
    let long : length c.args.mission.now ≡ mission_words = c.requires counts in search rules

pub returns : goal.returns
returns c = let counts : Counted c.args.refusal = (c.if-refusal-eq16.false, (c.if-refusal-eq17.false, (c.if-refusal-eq21.false, λ e. omega (arith, e)))) in
    let long : length c.args.mission.now ≡ mission_words = c.requires counts in
    let counted : decode c.count.new.mission ≡ on_counters (λ l. counted_all l (moves_of c.ended_by-e.result)) (decode c.args.mission.now) = search rules in
    record { value = c.receive_number-answer.ensures ∙ ap receive_number c.ended_by-e.ensures; by_index = λ b slot k. refused_counted b _ _ slot _ _ counts (k counts) long (search rules) c.ended_by-e.ensures counted (search rules) }
