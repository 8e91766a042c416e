-- A record's word, read at a place that is there. Assumes nothing.
use Prim.Native.Nat.{ℕ, ◌<◌}
use mathlib.Core.Path.{◌≡◌, ap, ◌∙◌}
use mathlib.Core.List.{List}
use Rattle.lent_state.specs.Read.{word_answer, place_answer}
use Rattle.lent_state.proofs.Read.{place_here}

pub read_here : {A : Type 0} (words : A → List ℕ) (word i places : ℕ) {x y : A} {answer : ℕ} → i < places
    → answer ≡ word_answer (words x) word → x ≡ y → answer ≡ place_answer i places (word_answer (words y) word)
read_here {A} words word i places h told same =
    place_here i places _ h (told ∙ ap (λ (z : A). word_answer (words z) word) same)
