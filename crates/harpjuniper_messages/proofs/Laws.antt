-- What the calls return, said over plain variables: one law a return. Assumes nothing.
use native.Mathlib.Omega.{arith}
use Prim.Native.Nat.{ℕ, ◌/◌, ◌%◌, ◌<◌}
use mathlib.Core.Path.{◌≡◌, ◌∙◌}
use mathlib.Core.List.{List, [], ◌∷◌}
use lib.ListN.{length}
use borrow.Author.Tests.{ne_eqb}
use Rattle.header.specs.Build.{Built}
use lib.Seq.{sets}
use Rattle.words.proofs.Parts.{all_stored}
use Rattle.echo.specs.Message.{type_of, fixed_size, reading_of}
use Rattle.echo.specs.Built.{built_of, built_output}
use Rattle.echo.specs.declared.Seen.{Seen}
use Rattle.echo.specs.declared.Kind.{Kind}
use Rattle.echo.specs.declared.Kind.TheVariants.{Request, Reply}
use Rattle.echo.specs.declared.Message.{Message}
use Rattle.checks.specs.Told.{Good, Refused}
use Rattle.harpjuniper_messages.specs.Face.{message_count, seen_in, message_words, read_answer, read_left, built_answer}

-- ---- reading

pub size_fits : (k : Kind) → fixed_size k < 4294967296
size_fits Request = omega arith
size_fits (Reply x) = omega arith

-- all words were stored, one by one
pub message_written : (m : Message) (l : List ℕ) (t f : ℕ) (x : Seen) → t ≡ type_of m.kind → f ≡ fixed_size m.kind → x ≡ seen_in m.kind
    → length l ≡ message_count
    → sets l 0 (t ∷ m.identifier ∷ m.sequence ∷ f ∷ x.hops ∷ x.format ∷ x.stamp / 4294967296 ∷ x.stamp % 4294967296 ∷ x.mtu ∷ x.rate ∷ []) ≡ message_words m
unfolding message_words
message_written m l t f x et ef ex count = rw (et, ef, ex) (all_stored l (message_words m) count)

module _ (s lent : List ℕ) where
  pub other_count : (length lent ≡ message_count → ⊥) → (21 ≡ read_answer (length lent) (reading_of s)) × (lent ≡ read_left (reading_of s) lent)
  unfolding read_answer read_left
  other_count h = let e = ne_eqb (length lent) message_count h in (simp e, simp e)

  module _ (count : length lent ≡ message_count) where
    pub refused_left : (n : ℕ) → reading_of s ≡ Refused n → (n ≡ read_answer (length lent) (reading_of s)) × (lent ≡ read_left (reading_of s) lent)
    unfolding read_answer read_left
    refused_left n e = (rw (e, count), rw (e, count))

    pub good_left : (m : Message) (out : List ℕ) → reading_of s ≡ Good m → out ≡ message_words m
        → (0 ≡ read_answer (length lent) (reading_of s)) × (out ≡ read_left (reading_of s) lent)
    unfolding read_answer read_left
    good_left m out e o = (rw (e, count), o ∙ rw (e, count))

-- ---- building

-- of a message that was made
pub answered : (m made : Message) (echoed lent : List ℕ) (x : ℕ) (b : Built) (out : List ℕ) → made ≡ m → b ≡ built_of made (length echoed) (length lent)
    → out ≡ built_output made echoed lent → x ≡ built_answer b → (x ≡ built_answer (built_of m (length echoed) (length lent))) × (out ≡ built_output m echoed lent)
answered m made echoed lent x b out em eb eo ex = rw (← em) (rw (← eb) ex, eo)
