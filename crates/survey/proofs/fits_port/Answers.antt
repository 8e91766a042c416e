-- `survey::fits_port` meets its contract. Assumes nothing.
use borrow.Author.Tests.{lt-ltb, le-ltb}
use Rattle.survey.proofs.fits_port.Goals as goal

pub returns-then-mtu-size : goal.returns-then-mtu-size
returns-then-mtu-size c = simp (lt-ltb _ _ c.if-mtu-size.true)

pub returns : goal.returns
returns c = simp (le-ltb _ _ c.if-mtu-size.false)
