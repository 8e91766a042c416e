-- A turn of the loop, and its end.
use Rattle.std.proofs.Common.{◌≡◌, ◌*◌, ◌/◌, ◌∙◌, ap, ℕ, List, [], arith, get_or, length}
use Rattle.octets.specs.Octets.{number}
use Rattle.checksum.proofs.TwoAtOnce.{turn, sum_of}
use Rattle.checksum.proofs.ones_sum.Goals as goal

pub loop-i-preserved : goal.loop-i-preserved
loop-i-preserved c = (
  c.add_words-sum.ensures.upper_bound,
  rw c.add_words-sum.ensures.value
      (turn c.args.s.now (length c.args.s.now / 4) _ _ _ _ (omega arith) (omega arith)
      (c.word_at.ensures ∙ ap (λ (fours : List (List ℕ)). number (get_or fours c.loop-i.i []) 0 4) c.as_chunks.ensures.front)
      c.loop-i.invariant.1),
)

pub returns-clause-value : goal.returns-clause-value
returns-clause-value c =
    let s = c.args.s.now in
    let from : 4 * c.loop-i.i ≡ length s / 4 * 4 = omega arith in
    c.folded.ensures.value
    ∙ sum_of s (length s / 4 * 4) _ c.last_words.result _ (λ i. (c.type_inv.s i).fits) (omega arith) (rw c.as_chunks.ensures.back at c.last_words.ensures)
    c.add_words.ensures.value c.add_words.ensures.upper_bound (rw from at c.loop-i.invariant.1)
