-- `echo::put_kind` meets its contract. Assumes nothing.
use Rattle.echo.proofs.Laws.{kind_none, kind_room, kind_seen}
use Rattle.echo.proofs.put_kind.Goals as goal

pub put_seen-requires : goal.put_seen-requires
put_seen-requires c = kind_room c.args.k _ _ _ c.in-Reply.is c.requires

pub returns-in-Request : goal.returns-in-Request
returns-in-Request c = let t = kind_none _ _ _ c.in-Request.is in record { value = t.0; out_after = t.1 }

pub returns-in-Reply : goal.returns-in-Reply
returns-in-Reply c =
    let t = kind_seen c.args.k _ _ _ _ _ c.in-Reply.is (c.put_seen.ensures.value, c.put_seen.ensures.out_after) in
    record { value = t.0; out_after = t.1 }
