-- What the calls return, said over plain variables: one law a return. Assumes nothing.
use native.Mathlib.Omega.{arith}
use Prim.Native.Nat.{ℕ, ◌-◌, ◌<◌}
use mathlib.Core.Path.{◌≡◌, refl, ap, ◌∙◌}
use mathlib.Core.List.{List, [], ◌∷◌, ◌++◌, append-nil}
use mathlib.Core.Bool.{Bool, true, false}
use lib.ListN.{length, get_or, set, take, drop, drop_of_length-le}
use borrow.Author.Tests.{ne_eqb}
use Rattle.checks.specs.Order.{check_of, first_of}
use Rattle.checks.specs.Answer.{refusal_number}
use Rattle.checks.specs.declared.Check.TheVariants.{Passed, Failed}
use Rattle.checks.proofs.Laws.{passed_false, failed_true}
use Rattle.header.specs.Limits.{lacks_room, too_much_data}
use Rattle.header.specs.Range.{out_of_range}
use Rattle.header.specs.Build.{build_checks, built_of, built_output, Built}
use Rattle.header.specs.declared.Fields.{Fields}
use Rattle.header.specs.Read.{read_of}
use Rattle.header.specs.declared.Header.{Header}
use Rattle.checks.specs.Told.{Good, Refused}
use Rattle.header.proofs.Refusals.{never_zero}
use Rattle.header.proofs.Answers.{read_bounds}
use Rattle.numbers.specs.Numbers.{numbers_of}
use Rattle.numbers.specs.declared.Numbers.{Numbers}
use Rattle.numbers.specs.Fields.{fields_from}
use Rattle.numbers.specs.Out.{numbers_out}
use Rattle.numbers.specs.InWords.{field_words, numbers_words, numbers_from}
use Rattle.harpjuniper.specs.Face.{reading_of, reading_count, reading_words, read_answer, read_left, built_answer, numbers_checks, build_answer, build_output, build_words_answer, build_words_output}

module _ (n : Numbers) (dataSize : ℕ) (lent : List ℕ) where
  pub no_room : check_of (lacks_room (length lent)) ≡ Failed → (x : ℕ) → x ≡ refusal_number 17 → (x ≡ build_answer n dataSize (length lent)) × (lent ≡ build_output n dataSize lent)
  unfolding build_answer build_output numbers_checks first_of
  no_room h x e = let a = failed_true (lacks_room (length lent)) h in (simp a e, simp a)

  module _ (room : check_of (lacks_room (length lent)) ≡ Passed) where
    pub no_fields : check_of (numbers_out n) ≡ Failed → (x : ℕ) → x ≡ refusal_number 19 → (x ≡ build_answer n dataSize (length lent)) × (lent ≡ build_output n dataSize lent)
    unfolding build_answer build_output numbers_checks first_of
    no_fields h x e =
        let a = passed_false (lacks_room (length lent)) room in
        let b = failed_true (numbers_out n) h in
        (simp (a, b) e, simp (a, b))

    built_case : (t u : Bool) → lacks_room (length lent) ≡ false → numbers_out n ≡ false → out_of_range (fields_from n) ≡ t → too_much_data dataSize ≡ u
        → (built_answer (built_of (fields_from n) dataSize (length lent)) ≡ build_answer n dataSize (length lent)) × (built_output (fields_from n) dataSize lent ≡ build_output n dataSize lent)
    unfolding build_answer build_output numbers_checks first_of built_of built_output build_checks
    built_case true u a b c d = (simp (a, b, c), simp (a, b, c))
    built_case false true a b c d = (simp (a, b, c, d), simp (a, b, c, d))
    built_case false false a b c d = (simp (a, b, c, d), simp (a, b, c, d))

    pub built : check_of (numbers_out n) ≡ Passed → (f : Fields) (b : Built) (x : ℕ) (out : List ℕ) → f ≡ fields_from n → b ≡ built_of f dataSize (length lent) → out ≡ built_output f dataSize lent
        → x ≡ built_answer b → (x ≡ build_answer n dataSize (length lent)) × (out ≡ build_output n dataSize lent)
    built h f b x out ef eb eo ex =
        let p = built_case (out_of_range (fields_from n)) (too_much_data dataSize) (passed_false (lacks_room (length lent)) room) (passed_false (numbers_out n) h) refl refl in
        (ex ∙ ap built_answer (rw ef at eb) ∙ p.0, rw ef at eo ∙ p.1)

-- ---- words

-- the fields' words behind the two lengths
pub reading_written : (l : List ℕ) (h : Header) (n : Numbers) (ws : List ℕ) → length l ≡ reading_count → n ≡ numbers_of h.fields → ws ≡ numbers_words n
    → set (set (take 2 l ++ (ws ++ drop (length l - 2) (drop 2 l))) 0 h.length) 1 h.size ≡ reading_words (reading_of (Good h))
unfolding reading_words reading_of
reading_written [] h n ws count en ew = absurd (omega arith)
reading_written (x ∷ []) h n ws count en ew = absurd (omega arith)
reading_written (x ∷ y ∷ l) h n ws count en ew =
    rw (drop_of_length-le l {i = length (x ∷ y ∷ l) - 2} (omega arith), append-nil ws, ew, en)

module _ (s lent : List ℕ) where
  pub other_count : (length lent ≡ reading_count → ⊥) → (21 ≡ read_answer (length lent) (reading_of (read_of s))) × (lent ≡ read_left (reading_of (read_of s)) lent)
  unfolding read_answer read_left
  other_count h = let e = ne_eqb (length lent) reading_count h in (simp e, simp e)

  pub refused_left : length lent ≡ reading_count → (n : ℕ) → read_of s ≡ Refused n
      → (n ≡ read_answer (length lent) (reading_of (read_of s))) × (lent ≡ read_left (reading_of (read_of s)) lent)
  unfolding read_answer read_left reading_of
  refused_left count n e =
      let some = ne_eqb n 0 (λ z. never_zero s (e ∙ ap Refused z)) in
      (rw (e, count), rw (e, count) (simp some))

  pub good_left : length lent ≡ reading_count → (h : Header) (out : List ℕ) → read_of s ≡ Good h → out ≡ reading_words (reading_of (Good h))
      → (0 ≡ read_answer (length lent) (reading_of (read_of s))) × (out ≡ read_left (reading_of (read_of s)) lent)
  unfolding read_answer read_left reading_of
  good_left count h out e o = (rw (e, count), o ∙ rw (e, count))

module _ (ws : List ℕ) (dataSize : ℕ) (lent : List ℕ) where
  pub other_words : (length ws ≡ field_words → ⊥) → (x : ℕ) → x ≡ refusal_number 21
      → (x ≡ build_words_answer ws dataSize (length lent)) × (lent ≡ build_words_output ws dataSize lent)
  unfolding build_words_answer build_words_output
  other_words h x e = let no = ne_eqb (length ws) field_words h in (simp no e, simp no)

  pub words_built : length ws ≡ field_words → (n : Numbers) (x : ℕ) (out : List ℕ) → n ≡ numbers_from ws → x ≡ build_answer n dataSize (length lent) → out ≡ build_output n dataSize lent
      → (x ≡ build_words_answer ws dataSize (length lent)) × (out ≡ build_words_output ws dataSize lent)
  unfolding build_words_answer build_words_output
  words_built h n x out en ex eo = (rw (h, ← en) ex, rw (h, ← en) eo)

-- what the reader answers fits 32 bits
pub reading_fits : (s : List ℕ) (h : Header) → ((i : ℕ) → get_or s i 0 < 256) → read_of s ≡ Good h → (h.length < 4294967296) × (h.size < 4294967296)
reading_fits s h small e = let b = read_bounds s h small e in (omega arith, omega arith)
