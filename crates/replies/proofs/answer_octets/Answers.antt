-- `replies::answer_octets` meets its contract. Assumes nothing.
use Rattle.survey.proofs.Naming.{unlooked}
use Rattle.state.specs.Layout.{decode_board, decode}
use Rattle.replies.proofs.Answered.{within_read, octets_told}
use Rattle.replies.proofs.answer_octets.Goals as goal

pub ask_octets-a-requires : goal.ask_octets-a-requires
ask_octets-a-requires c = unlooked _ _ c.no_names.ensures

pub answer_to-requires : goal.answer_to-requires
answer_to-requires c = within_read _ _ _ _ c.ask_octets-a.ensures

pub returns : goal.returns
returns c = octets_told (decode_board c.args.board.now) (decode c.args.mission.now) c.args.at _ _ c.ask_octets-a.ensures c.number_of.ensures c.address_in.ensures c.named-s.ensures c.drop_of.ensures c.answer_to.ensures
