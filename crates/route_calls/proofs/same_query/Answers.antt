-- `route_calls::same_query` meets its contract. Assumes nothing.
use Rattle.route_calls.proofs.Cases.{same_refused, same_sought}
use Rattle.route_calls.proofs.same_query.Goals as goal

pub returns-then-o-ne0 : goal.returns-then-o-ne0
returns-then-o-ne0 c = same_refused c.args.o c.if-o-ne0.true c.refused.ensures

pub returns : goal.returns
returns c = same_sought c.args.o c.if-o-ne0.false
