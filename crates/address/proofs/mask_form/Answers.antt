-- `address::mask_form` meets its contract: leading ones and all ones are compared. Assumes nothing.
use borrow.Author.Rules.{rules}
use Rattle.address.proofs.Leading.{ones_told, mixed_told}
use Rattle.address.proofs.mask_form.Goals as goal

pub returns-then-m-ones : goal.returns-then-m-ones
returns-then-m-ones c = mixed_told _ (search rules) c.if-m-ones.true

pub returns : goal.returns
returns c = ones_told _ (search rules) c.if-m-ones.false
