-- `state_mission::clear_mission` leaves a fresh state: after i turns the first i words are 0, and then the first of all is the number. Assumes nothing.
use Rattle.std.proofs.Common.{◌≡◌, ℕ, ◌≤◌, List, set, sym, refl, ap, ◌∙◌, arith, rules}
use Rattle.words.proofs.Fill.{fill_turn, fill_end}
use Rattle.state.specs.Layout.{mission_words, decode, fresh_words}
use Rattle.state.proofs.Fresh.{fresh, fresh_length, fresh_zero, fresh_numbered}
use Rattle.state_mission.proofs.clear_mission.Goals as goal
use Rattle.state_mission.proofs.clear_mission.Goals.{At-loop-i}

pub loop-i-init : goal.loop-i-init
loop-i-init c = (search rules, refl)

pub loop-i-preserved : goal.loop-i-preserved
loop-i-preserved c = (
  search rules,
  fill_turn c.args.mission.now (fresh_words 0) c.loop-i.mission c.loop-i.i 0 0
      (omega (arith, c.told-mission)) (omega (arith, fresh_length 0))
      (sym (fresh_zero c.loop-i.i c.loop-i-test.true)) c.loop-i.invariant.1,
)

pub returns : goal.returns
returns c = let cleared : mission_words ≤ c.loop-i.i → c.loop-i.mission ≡ fresh_words 0 = λ over. fill_end c.args.mission.now (fresh_words 0) c.loop-i.mission c.loop-i.i
    (omega (arith, c.told-mission)) (omega (arith, fresh_length 0)) c.loop-i.invariant.1 in let n = c.args.number in
    ap (λ (w : List ℕ). decode (set w 0 n)) (cleared c.loop-i-test.false) ∙ ap decode (fresh_numbered n) ∙ fresh n
