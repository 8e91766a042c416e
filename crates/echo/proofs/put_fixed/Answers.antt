-- `echo::put_fixed` meets its contract. Assumes nothing.
use native.Mathlib.Omega.{arith}
use mathlib.Core.Path.{◌∙◌}
use Rattle.echo.proofs.Laws.{kind_length, fixed_put}
use Rattle.echo.proofs.put_fixed.Goals as goal

pub put_number-a-requires : goal.put_number-a-requires
put_number-a-requires c = omega (arith, kind_length c.args.m.kind, c.requires)

pub put_number-b-requires : goal.put_number-b-requires
put_number-b-requires c = omega (arith, kind_length c.args.m.kind, c.requires, c.put_number-a.ensures.value, c.put_number-a.auto.out)

pub put_number-c-requires : goal.put_number-c-requires
put_number-c-requires c = let long = c.put_number-b.auto.out ∙ c.put_number-a.auto.out in
    omega (arith, kind_length c.args.m.kind, c.requires, long, c.put_number-a.ensures.value, c.put_number-b.ensures.value)

pub put_number-d-requires : goal.put_number-d-requires
put_number-d-requires c = let long = c.put_number-c.auto.out ∙ c.put_number-b.auto.out ∙ c.put_number-a.auto.out in
    omega (arith, kind_length c.args.m.kind, c.requires, long, c.put_number-a.ensures.value, c.put_number-b.ensures.value, c.put_number-c.ensures.value)

pub put_number-e-requires : goal.put_number-e-requires
put_number-e-requires c = let long = c.put_number-d.auto.out ∙ c.put_number-c.auto.out ∙ c.put_number-b.auto.out ∙ c.put_number-a.auto.out in
    omega (arith, kind_length c.args.m.kind, c.requires, long, c.put_number-a.ensures.value, c.put_number-b.ensures.value, c.put_number-c.ensures.value, c.put_number-d.ensures.value)

pub put_kind-requires : goal.put_kind-requires
put_kind-requires c = let long = c.put_number-e.auto.out ∙ c.put_number-d.auto.out ∙ c.put_number-c.auto.out ∙ c.put_number-b.auto.out ∙ c.put_number-a.auto.out in
    omega (arith, kind_length c.args.m.kind, c.requires, long, c.put_number-a.ensures.value, c.put_number-b.ensures.value, c.put_number-c.ensures.value, c.put_number-d.ensures.value, c.put_number-e.ensures.value)

pub returns : goal.returns
returns c = let t = fixed_put c.args.m _ _ _ _ _ _ _ _ _ _ _ _ _ _ c.type_number.ensures (c.put_number-a.ensures.value, c.put_number-a.ensures.out_after) (c.put_number-b.ensures.value, c.put_number-b.ensures.out_after)
    (c.put_number-c.ensures.value, c.put_number-c.ensures.out_after) (c.put_number-d.ensures.value, c.put_number-d.ensures.out_after) (c.put_number-e.ensures.value, c.put_number-e.ensures.out_after) (c.put_kind.ensures.value, c.put_kind.ensures.out_after) c.requires in record { value = t.0; out_after = t.1 }
