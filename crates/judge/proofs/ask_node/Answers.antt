-- `judge::ask_node` meets its contract. Assumes nothing.
use mathlib.Core.Path.{sym}
use Rattle.state.specs.Layout.{decode}
use Rattle.checks.proofs.Bools.{true_false}
use Rattle.judge.proofs.Stages.{node_looked_lem}
use Rattle.judge.proofs.ask_node.Goals as goal

pub named_by-s-requires : goal.named_by-s-requires
named_by-s-requires c = rw c.number_of-number.ensures c.requires

pub returns : goal.returns
returns c = node_looked_lem _ c.class_of-class.ensures _ (decode c.args.mission.now) _ (λ e. true_false (sym (rw e at c.if-eq.ensures))) c.number_of-number.ensures c.named_by-s.ensures c.target_of-target.ensures (c.place_for.ensures _)
