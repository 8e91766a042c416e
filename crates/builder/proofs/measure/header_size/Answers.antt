-- `builder::measure::header_size` meets its contract. Assumes nothing.
use native.Mathlib.Omega.{arith}
use Rattle.header.proofs.Pieces.{present_le}
use Rattle.builder.proofs.Laws.{rest_le}
use Rattle.builder.proofs.measure.Laws.{all_measured}
use Rattle.builder.proofs.measure.header_size.Goals as goal

pub overflow_add-result : goal.overflow_add-result
overflow_add-result c = omega (arith, c.presence.ensures, present_le c.second_octet-second.result, c.presence-2.ensures, present_le c.third_octet-third.result, c.rest_size.ensures, rest_le c.args.f)

pub overflow_add-result-2 : goal.overflow_add-result-2
overflow_add-result-2 c = omega (arith, c.presence.ensures, present_le c.second_octet-second.result, c.presence-2.ensures, present_le c.third_octet-third.result, c.rest_size.ensures, rest_le c.args.f, c.requires)

pub returns : goal.returns
returns c = all_measured _ c.second_octet-second.ensures c.third_octet-third.ensures c.presence.ensures c.presence-2.ensures c.rest_size.ensures
