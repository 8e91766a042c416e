-- Where a newcomer goes among those that wait: page 01, "One received datagram, step by step" ("A newcomer goes just ahead of the first
-- entry with lower precedence, else last"). It is said of any kind of thing that has a rank, so that entries, and copies that bear the
-- turn of the call that placed them (crate history), are ordered by one definition. Assumes nothing.
use Rattle.std.specs.Prelude.{ℕ, ◌≤◌, ◌<◌, ◌≡◌, List, [], ◌∷◌, ◌++◌, ltb}
use Rattle.checks.specs.Order.{pick}

module _ {A : Type 0} where
  abbrev pub Each : (A → Type 0) → List A → Type 0
  Each P [] = Unit
  Each P (x ∷ rest) = P x × Each P rest

  -- each stands in the relation to all that are behind it
  abbrev pub InOrder : (A → A → Type 0) → List A → Type 0
  InOrder R [] = Unit
  InOrder R (x ∷ rest) = Each (R x) rest × InOrder R rest

module _ {A : Type 0} (rank : A → ℕ) where
  unfoldable pub insert_by : A → List A → List A
  insert_by e [] = e ∷ []
  insert_by e (x ∷ rest) = pick (ltb (rank x) (rank e)) (e ∷ x ∷ rest) (x ∷ insert_by e rest)

  -- none stands behind a lower one
  abbrev pub Sorted : List A → Type 0
  Sorted = InOrder (λ (x y : A). rank y ≤ rank x)

  abbrev pub StartsLower : ℕ → List A → Type 0
  StartsLower p [] = Unit
  StartsLower p (x ∷ rest) = rank x < p

  -- page 01's sentence without a recipe: e stands just ahead of the first that is lower, else last, and nothing else has changed
  pub record Placed (e : A) (old new : List A) : Type 0 where
    pub before : List A
    pub after : List A
    pub was : old ≡ before ++ after
    pub becomes : new ≡ before ++ e ∷ after
    pub before_not_lower : Each (λ (x : A). rank e ≤ rank x) before
    pub after_starts_lower : StartsLower (rank e) after
