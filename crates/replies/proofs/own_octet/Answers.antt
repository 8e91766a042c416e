-- `replies::own_octet` meets its contract. Assumes nothing.
use Rattle.replies.proofs.own_octet.Goals as goal

pub returns : goal.returns
returns c = simp c.if-own.false
