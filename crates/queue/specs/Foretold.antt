-- How long one waits: page 02, W-213 ("if, after an entry is placed on a port, r entries stand before it, and h entries of higher
-- precedence enter that port while it waits, then it is handed out at exactly the take numbered r + h + 1 after its placing, provided that
-- many takes are made"). It is said of a line in the order of entering, as in `Waits`. Higher is strictly higher, a copy that is dropped does
-- not enter, and a take that finds nobody hands nothing out. Two of a kind are told apart by their turns, of which each has its own.
-- Assumes nothing.
use Rattle.std.specs.Prelude.{ℕ, suc, ◌+◌, Bool, false, ◌≡◌, List, [], ◌∷◌, ◌++◌, length, ltb, leb, eqb}
use Rattle.checks.specs.Order.{pick}
use Rattle.queue.specs.Waits.{Chosen, nobody, one, chosen}

-- what happens to a line
pub data Deed (A : Type 0) : Type 0 where
  enters : A → Deed A
  hands_out : Deed A

module _ {A : Type 0} where
  abbrev pub entered : List (Deed A) → List A
  entered [] = []
  entered (enters y ∷ ds) = y ∷ entered ds
  entered (hands_out ∷ ds) = entered ds

  abbrev pub takes_in : List (Deed A) → ℕ
  takes_in [] = 0
  takes_in (enters y ∷ ds) = takes_in ds
  takes_in (hands_out ∷ ds) = suc (takes_in ds)

  abbrev pub how_many : (A → Bool) → List A → ℕ
  how_many test [] = 0
  how_many test (y ∷ l) = pick (test y) 1 0 + how_many test l

  -- what one take hands out, and the line that it leaves
  abbrev pub out : Chosen A → List A
  out nobody = []
  out (one y others) = y ∷ []

  abbrev pub left : Chosen A → List A
  left nobody = []
  left (one y others) = others

  -- of these, handed out one after the other, x is number k, counted from 1
  pub record AtTake (k : ℕ) (x : A) (all : List A) : Type 0 where
    pub earlier : List A
    pub later : List A
    pub are : all ≡ earlier ++ x ∷ later
    pub number : k ≡ length earlier + 1

module _ {A : Type 0} (rank : A → ℕ) where
  -- the line after these deeds, and what they hand out, in turn
  unfoldable pub line_after : List A → List (Deed A) → List A
  line_after line [] = line
  line_after line (enters y ∷ ds) = line_after (line ++ (y ∷ [])) ds
  line_after line (hands_out ∷ ds) = line_after (left (chosen rank line)) ds

  unfoldable pub handed : List A → List (Deed A) → List A
  handed line [] = []
  handed line (enters y ∷ ds) = handed (line ++ (y ∷ [])) ds
  handed line (hands_out ∷ ds) = out (chosen rank line) ++ handed (left (chosen rank line)) ds

  module _ (x : A) where
    -- r: those of the line that x joins that go out before it
    abbrev pub standing_before : List A → ℕ
    standing_before line = how_many (λ (y : A). leb (rank x) (rank y)) line

    -- h: those of higher rank that enter
    abbrev pub higher_in : List (Deed A) → ℕ
    higher_in ds = how_many (λ (y : A). ltb (rank x) (rank y)) (entered ds)

module _ {A : Type 0} (turn : A → ℕ) where
  module _ (x : A) where
    abbrev pub Other : A → Type 0
    Other y = turn y ≡ turn x → ⊥

    abbrev pub is_out : Chosen A → Bool
    is_out nobody = false
    is_out (one y others) = eqb (turn y) (turn x)

-- the deeds while x waits: those before the take that hands it out, all where none does
module _ {A : Type 0} (rank turn : A → ℕ) (x : A) where
  unfoldable pub while_waits : List A → List (Deed A) → List (Deed A)
  while_waits line [] = []
  while_waits line (enters y ∷ ds) = enters y ∷ while_waits (line ++ (y ∷ [])) ds
  while_waits line (hands_out ∷ ds) = pick (is_out turn x (chosen rank line)) [] (hands_out ∷ while_waits (left (chosen rank line)) ds)
