-- `reader::find_behind` meets its contract: past the check of the length what it showed is kept, and the last return is a law of `Laws`. Assumes nothing.
use mathlib.Core.Path.{sym, ◌∙◌}
use Rattle.checks.proofs.Laws.{passed_false}
use Rattle.reader.proofs.Laws.{Laid, formed, control_small, inside, good}
use Rattle.reader.proofs.find_behind.Goals as goal

pub layout_of-l-requires : goal.layout_of-l-requires
layout_of-l-requires c = control_small c.args.s.now _ c.requires

pub check_sum-requires : goal.check_sum-requires
check_sum-requires c = let laid : Laid c.args.s.now c.args.k c.layout_of-l.result = record {
  formed = formed _ _ c.requires;
  layout = c.layout_of-l.ensures;
  fits = passed_false _ (sym c.check_length.ensures ∙ c.in-Passed.is);
} in (laid.layout, inside _ _ _ laid)

pub fields_at-fields-requires : goal.fields_at-fields-requires
fields_at-fields-requires c = let laid : Laid c.args.s.now c.args.k c.layout_of-l.result = record {
  formed = formed _ _ c.requires;
  layout = c.layout_of-l.ensures;
  fits = passed_false _ (sym c.check_length.ensures ∙ c.in-Passed.is);
} in (laid.formed.allowed, (laid.layout, inside _ _ _ laid))

pub returns : goal.returns
returns c = let laid : Laid c.args.s.now c.args.k c.layout_of-l.result = record {
  formed = formed _ _ c.requires;
  layout = c.layout_of-l.ensures;
  fits = passed_false _ (sym c.check_length.ensures ∙ c.in-Passed.is);
} in good _ _ _ laid (passed_false _ (sym c.check_sum.ensures ∙ c.in-Passed-check_sum.is)) _ _ _ c.fields_at-fields.ensures c.length_at.ensures c.renewal_of.ensures
