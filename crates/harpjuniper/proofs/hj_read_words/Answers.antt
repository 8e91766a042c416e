-- `harpjuniper::hj_read_words` meets its contract: another number of words, a refusal, or a header, from what the reader answers; the lengths that it
-- answers fit 32 bits. Assumes nothing.
use Prim.Native.Nat.{◌<◌}
use mathlib.Core.Path.{sym, ap, ◌∙◌}
use Rattle.checks.specs.Told.{told}
use Rattle.header.proofs.FoundLaws.{read_told}
use Rattle.harpjuniper.proofs.Laws.{reading_fits, other_count, refused_left, good_left}
use Rattle.harpjuniper.proofs.hj_read_words.Goals as goal
use Rattle.harpjuniper.proofs.hj_read_words.Goals.{In-Ok-2}

pub returns-then-words-ne-READING_WORDS : goal.returns-then-words-ne-READING_WORDS
returns-then-words-ne-READING_WORDS c = let t = other_count c.args.octets.now c.args.words.now c.if-words-ne-READING_WORDS.true in record { value = c.number.ensures ∙ t.0; words_after = t.1 }

pub write_reading-requires : goal.write_reading-requires
write_reading-requires c = let fits : (c.in-Ok.h.length < 4294967296) × (c.in-Ok.h.size < 4294967296) = reading_fits _ _ (λ i. (c.shared_slice_known-1.given i).fits) (sym (read_told _ _ c.read_header.ensures) ∙ ap told c.in-Ok.is) in (c.if-words-ne-READING_WORDS.false, fits)

pub returns-in-Err : goal.returns-in-Err
returns-in-Err c = let t = refused_left c.args.octets.now c.args.words.now c.if-words-ne-READING_WORDS.false _ (sym (read_told _ _ c.read_header.ensures) ∙ ap told c.in-Err.is) in record { value = c.number-in-Err.ensures ∙ t.0; words_after = t.1 }

pub returns-in-Ok : goal.returns-in-Ok
returns-in-Ok c = let t = good_left c.args.octets.now c.args.words.now c.if-words-ne-READING_WORDS.false _ _ (sym (read_told _ _ c.read_header.ensures) ∙ ap told c.in-Ok.is)
    c.write_reading.ensures in record { value = t.0; words_after = t.1 }
