-- `harpjuniper::hj_build_words` meets its contract: another number of words, or the numbers of the words are built. Assumes nothing.
use Rattle.harpjuniper.proofs.Laws.{other_words, words_built}
use Rattle.harpjuniper.proofs.hj_build_words.Goals as goal

pub returns-then-words-ne-FIELD_WORDS : goal.returns-then-words-ne-FIELD_WORDS
returns-then-words-ne-FIELD_WORDS c = let t = other_words c.args.words.now c.args.data_size c.args.output.now c.if-words-ne-FIELD_WORDS.true _ c.refusal.ensures in record { value = t.0; output_after = t.1 }

pub returns : goal.returns
returns c = let t = words_built c.args.words.now c.args.data_size c.args.output.now c.if-words-ne-FIELD_WORDS.false _ _ _ c.read_numbers-fields.ensures c.build_numbers.ensures.value c.build_numbers.ensures.output_after in record { value = t.0; output_after = t.1 }
