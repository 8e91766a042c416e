-- `survey::see_if` meets its contract. Assumes nothing.
use Rattle.survey.proofs.Walk.{port_set_lem, port_room, unwanted, wanted_in, seen_numbered}
use Rattle.survey.proofs.see_if.Goals as goal

pub returns-then-set-i-ne1 : goal.returns-then-set-i-ne1
returns-then-set-i-ne1 c = unwanted _ _ _ _ _ _ _ c.if-set-i-ne1.true

pub see_wanted-requires : goal.see_wanted-requires
see_wanted-requires c = (c.requires.1, port_room _ c.requires.0 c.only_port.ensures)

pub returns : goal.returns
returns c = wanted_in _ _ _ _ _ _ c.if-set-i-ne1.false (port_set_lem _ _ c.requires.0 c.only_port.ensures) (seen_numbered _ _ c.number_of.ensures c.seen_port-p.ensures) c.count_of.ensures c.see_wanted.ensures
