-- `answering::after` meets its contract. Assumes nothing.
use mathlib.Core.Path.{◌≡◌}
use lib.ListN.{length}
use Rattle.state.specs.Layout.{board_words, decode_board, mission_words, decode}
use Rattle.state.specs.Seen.{seated}
use Rattle.replies.specs.Replied.{replied_to}
use Rattle.answering.specs.Echoed.{replied_state}
use Rattle.answering.proofs.Asking.{was_judged, is_made_lem, would_go}
use Rattle.answering.proofs.Left.{after_none, after_done}
use borrow.Author.Rules.{rules}
use Rattle.answering.proofs.after.Goals as goal

pub returns-then-a-eq0 : goal.returns-then-a-eq0
returns-then-a-eq0 c = after_none _ _ _ _ _ _ _ _ c.if-a-eq0.true c.pass_over.ensures

pub finish-e-requires : goal.finish-e-requires
finish-e-requires c = let j = was_judged _ _ _ _ _ c.requires c.if-a-eq0.false in λ _. is_made_lem _ _ _ _ _ c.requires c.if-a-eq0.false

pub carry_out-requires : goal.carry_out-requires
carry_out-requires c = let same_board : c.unwrap-board.result.now ≡ c.args.board.now = search rules in
    let same_mission : c.unwrap-mission.result.now ≡ c.args.mission.now = search rules in
    let told : c.finish-e.result ≡ replied_to (seated (decode_board c.args.board.now) (decode c.args.mission.now)) c.args.a c.way_in.result (length c.args.output.now) =
    rw (← same_board, ← same_mission) c.finish-e.ensures in
    would_go _ _ _ _ _ c.requires c.if-a-eq0.false _ _ told

pub unwrap-board-requires : goal.unwrap-board-requires
unwrap-board-requires c = let long : length c.args.board.now ≡ board_words = (was_judged _ _ _ _ _ c.requires c.if-a-eq0.false).0 in search rules

pub unwrap-mission-requires : goal.unwrap-mission-requires
unwrap-mission-requires c = let long : length c.args.mission.now ≡ mission_words = (was_judged _ _ _ _ _ c.requires c.if-a-eq0.false).1.0 in search rules

pub returns : goal.returns
returns c = let j = was_judged _ _ _ _ _ c.requires c.if-a-eq0.false in
    let board_long : length c.args.board.now ≡ board_words = j.0 in
    let long : length c.args.mission.now ≡ mission_words = j.1.0 in
    let same_board : c.unwrap-board.result.now ≡ c.args.board.now = search rules in
    let same_mission : c.unwrap-mission.result.now ≡ c.args.mission.now = search rules in
    let left : decode c.carry_out.new.mission ≡ replied_state (decode_board c.args.board.now) (decode c.args.mission.now) (record { 0 = c.args.slot }) c.finish-e.result =
    rw (← same_mission) (c.carry_out.ensures.mission_after (decode_board c.args.board.now)) in
    after_done _ _ _ _ _ _ _ _ _ j.0 j.1.0 (search rules) c.way_in.ensures (rw (← same_board, ← same_mission) c.finish-e.ensures) c.carry_out.ensures.value (search rules) c.carry_out.ensures.output_after
