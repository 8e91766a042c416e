-- `numbers::validity::check_address_flags` meets its contract, check by check. Assumes nothing.
use mathlib.Core.Bool.{Bool}
use mathlib.Core.Path.{◌∙◌}
use Rattle.checks.proofs.Steps.{or_fails, or_passes}
use Rattle.numbers.specs.Out.{any_over, address_flags_out}
use Rattle.numbers.proofs.validity.check_address_flags.Goals as goal
use Rattle.numbers.proofs.validity.check_address_flags.Goals.{Start}

-- a flag that is none
abbrev noFlag : Start → Bool
noFlag s = any_over 2 s.args.n.sourced s.args.n.extended s.args.n.ipv6

pub returns-in_default : goal.returns-in_default
unfolding address_flags_out
returns-in_default c = or_fails (noFlag c.before.before) _ c.check_under.ensures c.in_default.is

pub returns : goal.returns
unfolding address_flags_out
returns c = c.check_ipv6.ensures
    ∙ or_passes (noFlag c.before.before.before) _ c.check_under.ensures c.in-Passed.is
