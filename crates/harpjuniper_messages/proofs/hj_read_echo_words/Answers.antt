-- `harpjuniper_messages::hj_read_echo_words` meets its contract. Assumes nothing.
use mathlib.Core.Path.{sym, ap, ◌∙◌}
use Rattle.checks.specs.Told.{told}
use Rattle.echo.proofs.Refusals.{reading_told}
use Rattle.harpjuniper_messages.proofs.Laws.{other_count, refused_left, good_left}
use Rattle.harpjuniper_messages.proofs.hj_read_echo_words.Goals as goal

pub returns-then-words-ne-MESSAGE_WORDS : goal.returns-then-words-ne-MESSAGE_WORDS
returns-then-words-ne-MESSAGE_WORDS c = let t = other_count c.args.message.now c.args.words.now c.if-words-ne-MESSAGE_WORDS.true in record { value = c.number.ensures ∙ t.0; words_after = t.1 }

pub write_words-requires : goal.write_words-requires
write_words-requires c = c.if-words-ne-MESSAGE_WORDS.false

pub returns-in-Err : goal.returns-in-Err
returns-in-Err c = let t = refused_left c.args.message.now c.args.words.now c.if-words-ne-MESSAGE_WORDS.false _ (sym (reading_told _ _ c.read_message.ensures) ∙ ap told c.in-Err.is) in record { value = c.number-in-Err.ensures ∙ t.0; words_after = t.1 }

pub returns-in-Ok : goal.returns-in-Ok
returns-in-Ok c = let good = sym (reading_told _ _ c.read_message.ensures) ∙ ap told c.in-Ok.is in let t = good_left c.args.message.now c.args.words.now c.if-words-ne-MESSAGE_WORDS.false _ _ good c.write_words.ensures in record { value = t.0; words_after = t.1 }
