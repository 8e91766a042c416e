-- `floods::flood_of` meets its contract. Assumes nothing.
use Rattle.floods.proofs.Seeking.{plain_datagram, on_a_host, on_a_router}
use mathlib.Core.Path.{ap}
use mathlib.Core.Bool.{not}
use Rattle.floods.proofs.flood_of.Goals as goal

pub returns-then-not-is_flooded : goal.returns-then-not-is_flooded
returns-then-not-is_flooded c = plain_datagram _ _ _ _ c.args.f c.is_flooded.ensures (ap not c.if-not-is_flooded.true)

pub returns-then-router-eq0 : goal.returns-then-router-eq0
returns-then-router-eq0 c = on_a_host _ _ _ _ c.args.f c.is_flooded.ensures (ap not c.if-not-is_flooded.false) c.if-router-eq0.true

pub returns : goal.returns
returns c = on_a_router _ _ _ _ c.args.f c.is_flooded.ensures (ap not c.if-not-is_flooded.false) c.if-router-eq0.false c.seek_for.ensures
