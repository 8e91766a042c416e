-- Which of those that wait a take hands out: page 01, demand 3 ("The highest precedence is handed out first, the oldest within one"). Here
-- a line stands in the order of entering: a newcomer goes to its end, and a take leaves the others where they are. How a queue keeps its
-- entries is no part of it. It is said of any kind of thing that has a rank, as in `Order`. Assumes nothing.
use Rattle.std.specs.Prelude.{ℕ, ◌≤◌, ◌<◌, ◌≡◌, List, [], ◌∷◌, ◌++◌, map, ltb}
use Rattle.checks.specs.Order.{pick}
use Rattle.queue.specs.Order.{Each}
use Rattle.queue.specs.Queue.{waiting, precedence_of, Sound}
use Rattle.queue.specs.declared.Entry.{Entry}
use Rattle.queue.specs.declared.Queue.{Queue}

-- what a take does: it finds nobody, or hands one out and leaves the others
pub data Chosen (A : Type 0) : Type 0 where
  nobody : Chosen A
  one : A → List A → Chosen A

module _ {A : Type 0} (rank : A → ℕ) where
  -- the page's words: x is one of the line, none in it is higher, those of x's rank came after x, and the others are the line without x
  pub record Highest (line : List A) (x : A) (others : List A) : Type 0 where
    pub before : List A
    pub after : List A
    pub was : line ≡ before ++ x ∷ after
    pub leaves : others ≡ before ++ after
    pub before_lower : Each (λ (y : A). rank y < rank x) before
    pub after_not_higher : Each (λ (y : A). rank y ≤ rank x) after

  -- what the page asks of a take
  abbrev pub AsAsked : List A → Chosen A → Type 0
  AsAsked line nobody = line ≡ []
  AsAsked line (one x others) = Highest line x others

  -- with an older one in front of the line that a choice was made of: it is passed over only for a higher one
  abbrev pub chosen_with : A → List A → Chosen A → Chosen A
  chosen_with x line nobody = one x line
  chosen_with x line (one y others) = pick (ltb (rank x) (rank y)) (one y (x ∷ others)) (one x line)

  unfoldable pub chosen : List A → Chosen A
  chosen [] = nobody
  chosen (x ∷ line) = chosen_with x line (chosen line)

  -- ---- the order in which a line goes out

  -- one that is older than all these goes out just before the first that is not higher
  unfoldable pub insert_oldest : A → List A → List A
  insert_oldest x [] = x ∷ []
  insert_oldest x (y ∷ rest) = pick (ltb (rank x) (rank y)) (y ∷ insert_oldest x rest) (x ∷ y ∷ rest)

  unfoldable pub ordered : List A → List A
  ordered [] = []
  ordered (x ∷ line) = insert_oldest x (ordered line)

-- ---- a queue

module _ {A : Type 0} (entry_of : A → Entry) where
  abbrev pub rank_by : A → ℕ
  rank_by x = precedence_of (entry_of x)

  -- line is what waits in q, in the order of entering
  pub record Waits (q : Queue) (line : List A) : Type 0 where
    pub sound : Sound q
    pub same : waiting q ≡ map entry_of (ordered rank_by line)
