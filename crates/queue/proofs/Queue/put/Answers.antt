-- A queue with room, and one without.
use Rattle.std.proofs.Common.{sym}
use Rattle.queue.proofs.Cases.{put_room, put_full}
use Rattle.queue.proofs.Queue.put.Goals as goal

pub returns-then-self-ge-ENTRIES : goal.returns-then-self-ge-ENTRIES
returns-then-self-ge-ENTRIES c = sym (put_full _ _ c.if-self-ge-ENTRIES.true)

pub returns : goal.returns
returns c = rw c.inserted.ensures (sym (put_room _ _ c.if-self-ge-ENTRIES.false))
