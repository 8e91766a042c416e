-- `state_queues::read_queue` reads the queue: after i turns the first i entries are those of the words. Assumes nothing.
use native.Mathlib.Omega.{arith}
use mathlib.Core.Path.{◌≡◌, refl, ◌∙◌}
use Rattle.words.proofs.Fill.{fill_turn, fill_end}
use Rattle.state.specs.Layout.{entry_of_word, queue_of}
use Rattle.state_queues.proofs.Queues.{entries_of, entries_length, entry_at}
use borrow.Author.Rules.{rules}
use Rattle.state_queues.proofs.read_queue.Goals as goal

pub loop-i-init : goal.loop-i-init
loop-i-init c = (search rules, refl)

pub loop-i-preserved : goal.loop-i-preserved
loop-i-preserved c = let turn = c.loop-i-test.true in
    let s = c.args.s.now in
    let l = entries_length s c.requires in (
      search rules,
      fill_turn _ (entries_of s) c.loop-i.entries c.loop-i.i c.entry_of.result (entry_of_word 0) turn (omega arith)
          (c.entry_of.ensures ∙ entry_at s c.loop-i.i turn) c.loop-i.invariant.1,
    )

pub returns : goal.returns
unfolding queue_of
returns c = let s = c.args.s.now in
    let l = entries_length s c.requires in
    let e : c.loop-i.entries ≡ entries_of s =
    fill_end _ (entries_of s) c.loop-i.entries c.loop-i.i (omega arith) (omega arith) c.loop-i.invariant.1 in
    rw e
