-- `route_calls::record_word` meets its contract. Assumes nothing.
use Rattle.route_calls.proofs.Cases.{word_many, word_beyond, word_read}
use Rattle.route_calls.proofs.record_word.Goals as goal

pub returns-then-count-gt-ROUTES : goal.returns-then-count-gt-ROUTES
returns-then-count-gt-ROUTES c = word_many _ _ _ _ c.if-count-gt-ROUTES.true c.refusal_number.ensures

pub returns-then-count-place : goal.returns-then-count-place
returns-then-count-place c = word_beyond _ _ _ _ c.if-count-gt-ROUTES.false c.if-count-place.true c.refusal_number-then-count-place.ensures

pub returns : goal.returns
returns c = word_read _ _ _ _ c.if-count-gt-ROUTES.false c.if-count-place.false c.word_of.ensures
