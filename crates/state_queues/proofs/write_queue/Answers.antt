-- `state_queues::write_queue` leaves the queue's words: after i turns the first i words are those of its entries. Assumes nothing.
use native.Mathlib.Omega.{arith}
use mathlib.Core.Path.{◌≡◌, refl, ap, ◌∙◌}
use lib.ListN.{length, length-set}
use Rattle.words.proofs.Fill.{fill, fill_turn, fill_end, fill_length}
use Rattle.state.specs.Layout.{queue_words}
use Rattle.state.proofs.Records.{queue_length}
use Rattle.state_queues.proofs.Queues.{word_at, count_at}
use borrow.Author.Rules.{rules}
use Rattle.state_queues.proofs.write_queue.Goals as goal

pub loop-i-init : goal.loop-i-init
loop-i-init c = (search rules, refl)

pub bounds-s-i : goal.bounds-s-i
bounds-s-i c = let wide : length c.args.q.entries ≡ 32 = omega arith in let kept : length c.loop-i.s ≡ 33 = let l = queue_length c.args.q (wide) in
    let m = c.requires in
    fill_length c.args.s.now (queue_words c.args.q) _ c.loop-i.i (omega arith) (omega arith) c.loop-i.invariant.1 ∙ m in omega (arith, kept)

pub loop-i-preserved : goal.loop-i-preserved
loop-i-preserved c = let wide : length c.args.q.entries ≡ 32 = omega arith in let turn = c.loop-i-test.true in
    let q = c.args.q in
    let l = queue_length q (wide) in
    let m = c.requires in (
      search rules,
      fill_turn c.args.s.now (queue_words q) c.loop-i.s c.loop-i.i c.entry_word.result _ (omega arith) (omega arith)
          (c.entry_word.ensures ∙ word_at q (wide) c.loop-i.i _ turn) c.loop-i.invariant.1,
    )

pub bounds-s-32 : goal.bounds-s-32
bounds-s-32 c = let wide : length c.args.q.entries ≡ 32 = omega arith in let kept : length c.loop-i.s ≡ 33 = let l = queue_length c.args.q (wide) in
    let m = c.requires in
    fill_length c.args.s.now (queue_words c.args.q) _ c.loop-i.i (omega arith) (omega arith) c.loop-i.invariant.1 ∙ m in omega (arith, kept)

pub shape_of-s : goal.shape_of-s
shape_of-s c = let wide : length c.args.q.entries ≡ 32 = omega arith in let kept : length c.loop-i.s ≡ 33 = let l = queue_length c.args.q (wide) in
    let m = c.requires in
    fill_length c.args.s.now (queue_words c.args.q) _ c.loop-i.i (omega arith) (omega arith) c.loop-i.invariant.1 ∙ m in simp length-set (omega (arith, kept, c.requires))

pub returns : goal.returns
returns c = let wide : length c.args.q.entries ≡ 32 = omega arith in let s = c.args.s.now in
    let q = c.args.q in
    let l = queue_length q (wide) in
    let m = c.requires in
    let i : c.loop-i.i ≡ 32 = omega arith in
    let o : c.loop-i.s ≡ fill s (queue_words q) 32 = c.loop-i.invariant.1 ∙ ap (fill s (queue_words q)) i in
    fill_end s (queue_words q) _ 33 (omega arith) (omega arith)
    (fill_turn s (queue_words q) c.loop-i.s 32 q.count 0 (omega arith) (omega arith) (count_at q (wide)) o)
