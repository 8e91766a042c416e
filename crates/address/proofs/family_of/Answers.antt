-- `address::family_of` meets its contract: each arm's range is that of a law of Families. Assumes nothing.
use native.Mathlib.Omega.{arith}
use mathlib.Core.Path.{sym, ◌∙◌, ap}
use Rattle.address.specs.Class.{family_of}
use Rattle.address.proofs.Families
use Rattle.address.proofs.family_of.Goals as goal

pub returns-in-10 : goal.returns-in-10
returns-in-10 c = sym (ap family_of c.in-10.is ∙ Families.scps)

pub returns-in-1-to-126 : goal.returns-in-1-to-126
returns-in-1-to-126 c = sym (Families.class_a _ (omega arith) (omega arith) (omega arith))

pub returns-in-128-to-191 : goal.returns-in-128-to-191
returns-in-128-to-191 c = sym (Families.class_b _ (omega arith) (omega arith))

pub returns-in-192-to-223 : goal.returns-in-192-to-223
returns-in-192-to-223 c = sym (Families.class_c _ (omega arith) (omega arith))

pub returns-in-224-to-239 : goal.returns-in-224-to-239
returns-in-224-to-239 c = sym (Families.multicast _ (omega arith) (omega arith))

pub returns-in_default : goal.returns-in_default
returns-in_default c = sym (ap family_of (omega arith) ∙ Families.invalid_0)

pub returns-in_default-2 : goal.returns-in_default-2
returns-in_default-2 c = sym (ap family_of (omega arith) ∙ Families.invalid_127)

pub returns-in_default-3 : goal.returns-in_default-3
returns-in_default-3 c = sym (Families.invalid_240 _ (omega arith))
