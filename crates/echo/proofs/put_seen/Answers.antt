-- `echo::put_seen` meets its contract. Assumes nothing.
use Rattle.echo.proofs.Laws.{seen_put}
use Rattle.echo.proofs.put_seen.Goals as goal

pub returns : goal.returns
returns c = let t = seen_put c.args.s _ _ _ _ _ _ _ _ _ _ _ _ (c.put_number-a.ensures.value, c.put_number-a.ensures.out_after) (c.put_number-b.ensures.value, c.put_number-b.ensures.out_after) (c.put_number-c.ensures.value, c.put_number-c.ensures.out_after)
    (c.put_number-d.ensures.value, c.put_number-d.ensures.out_after) (c.put_number.ensures.value, c.put_number.ensures.out_after) c.requires in record { value = t.0; out_after = t.1 }
