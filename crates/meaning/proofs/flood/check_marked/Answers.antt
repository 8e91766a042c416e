-- `meaning::flood::check_marked` meets its contract: each answer by what its callees ensure. Assumes nothing.
use mathlib.Core.Path.{ap}
use mathlib.Core.Bool.{not}
use Rattle.meaning.proofs.Marks.{not_flooded, no_source, no_stamp, marked}
use Rattle.meaning.proofs.flood.check_marked.Goals as goal

pub returns-then-not-is_flooded : goal.returns-then-not-is_flooded
returns-then-not-is_flooded c = not_flooded c.args.f c.is_flooded.ensures (ap not c.if-not-is_flooded.true)

pub returns-then-source_flag-eq0 : goal.returns-then-source_flag-eq0
returns-then-source_flag-eq0 c = no_source c.args.f c.is_flooded.ensures (ap not c.if-not-is_flooded.false) c.source_flag.ensures c.if-source_flag-eq0.true

pub returns-then-stamp_format-eq0 : goal.returns-then-stamp_format-eq0
returns-then-stamp_format-eq0 c = no_stamp c.args.f c.is_flooded.ensures (ap not c.if-not-is_flooded.false) c.source_flag.ensures c.if-source_flag-eq0.false c.stamp_format.ensures c.if-stamp_format-eq0.true

pub returns : goal.returns
returns c = marked c.args.f c.is_flooded.ensures (ap not c.if-not-is_flooded.false) c.source_flag.ensures c.if-source_flag-eq0.false c.stamp_format.ensures c.if-stamp_format-eq0.false
