-- `relay::after` meets its contract. Assumes nothing.
use mathlib.Core.Path.{◌≡◌}
use lib.ListN.{length}
use Rattle.state.specs.Layout.{board_words, decode_board, mission_words, decode}
use Rattle.relay.specs.Received.{received_state}
use Rattle.judge.proofs.Took.{was_sound}
use Rattle.relay.proofs.Asking.{was_judged, judged_good, judged_read, judged_placed}
use Rattle.relay.proofs.Received.{after_refused, after_done}
use borrow.Author.Rules.{rules}
use Rattle.relay.proofs.after.Goals as goal

pub refuse-requires : goal.refuse-requires
refuse-requires c = λ k. (was_judged _ _ _ _ _ _ c.requires k.0 k.1.1.0).1.0

pub returns-then-refusal-ne0 : goal.returns-then-refusal-ne0
returns-then-refusal-ne0 c = after_refused _ _ _ _ _ _ _ _ _ c.if-refusal-ne0.true c.refuse.ensures.value (c.refuse.ensures.by_index _ _ (λ k. (was_judged _ _ _ _ _ _ c.requires k.0 k.1.1.0).0))

pub finish-e-requires : goal.finish-e-requires
finish-e-requires c = let j = judged_good _ _ _ _ _ _ c.requires c.if-refusal-ne0.false in let w = judged_read _ _ _ _ _ _ c.requires c.if-refusal-ne0.false in (c.if-refusal-ne0.false, was_sound _ _ (λ i. (c.shared_slice_known-2-1.given i).fits) w.1)

pub unwrap-board-requires : goal.unwrap-board-requires
unwrap-board-requires c = let long : length c.args.board.now ≡ board_words = (judged_good _ _ _ _ _ _ c.requires c.if-refusal-ne0.false).0 in search rules

pub unwrap-mission-requires : goal.unwrap-mission-requires
unwrap-mission-requires c = let long : length c.args.mission.now ≡ mission_words = (judged_good _ _ _ _ _ _ c.requires c.if-refusal-ne0.false).1.0 in search rules

pub carry_out-answer-requires : goal.carry_out-answer-requires
carry_out-answer-requires c = let j = judged_good _ _ _ _ _ _ c.requires c.if-refusal-ne0.false in let w = judged_read _ _ _ _ _ _ c.requires c.if-refusal-ne0.false in (w.0, (was_sound _ _ (λ i. (c.shared_slice_known-2-1.given i).fits) w.1, (w.1.is, (w.1.inside, w.1.renewal))))

pub remember-requires : goal.remember-requires
remember-requires c = let j = judged_good _ _ _ _ _ _ c.requires c.if-refusal-ne0.false in let long : length c.args.mission.now ≡ mission_words = j.1.0 in judged_placed _ _ _ _ _ _ c.requires c.if-refusal-ne0.false

pub returns : goal.returns
returns c = let j = judged_good _ _ _ _ _ _ c.requires c.if-refusal-ne0.false in
    let board_long : length c.args.board.now ≡ board_words = j.0 in
    let long : length c.args.mission.now ≡ mission_words = j.1.0 in
    let same_board : c.unwrap-board.result.now ≡ c.args.board.now = search rules in
    let same_mission : c.unwrap-mission.result.now ≡ c.args.mission.now = search rules in
    let left : decode c.carry_out-answer.new.mission ≡ received_state (decode_board c.args.board.now) (decode c.args.mission.now) (record { 0 = c.args.slot }) (decode c.args.mission.now).memory c.finish-e.result =
    rw (← same_mission) (c.carry_out-answer.ensures.mission_after (decode_board c.args.board.now)) in
    after_done _ _ _ _ _ _ _ _ _ c.if-refusal-ne0.false j.0 j.1.0 (search rules) c.way_in-way.ensures (rw (← same_board, ← same_mission) c.finish-e.ensures) c.carry_out-answer.ensures.value left (search rules) c.carry_out-answer.ensures.output_after
