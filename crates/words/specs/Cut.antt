-- A list cut in sections of given lengths, a section cut in records of one length, and a part of a list written anew. Assumes nothing.
use Rattle.std.specs.Prelude.{ℕ, zero, suc, ◌+◌, List, [], ◌∷◌, ◌++◌, map, take, drop, get_or}

-- ---- sections
-- the length of all sections together
unfoldable pub total : List ℕ → ℕ
total [] = 0
total (n ∷ ns) = n + total ns

-- where section c begins
abbrev pub start : List ℕ → ℕ → ℕ
start [] c = 0
start (n ∷ ns) zero = 0
start (n ∷ ns) (suc c) = n + start ns c

module _ {A : Type 0} where
  abbrev pub cuts : List ℕ → List A → List (List A)
  cuts [] l = []
  cuts (n ∷ ns) l = take n l ∷ cuts ns (drop n l)

  abbrev pub cut : List ℕ → List A → ℕ → List A
  cut ns l c = get_or (cuts ns l) c []

  abbrev pub joined : List (List A) → List A
  joined [] = []
  joined (x ∷ xs) = x ++ joined xs

  -- ---- parts
  -- the n elements from a on
  abbrev pub part : ℕ → ℕ → List A → List A
  part a n l = take n (drop a l)

  -- vs in place of the k elements from a on: what a call on `&mut l[a..a + k]` leaves
  abbrev pub pasted : List A → ℕ → ℕ → List A → List A
  pasted l a k vs = take a l ++ (vs ++ drop k (drop a l))

  -- ---- pieces
  -- n pieces of k elements each
  unfoldable pub pieces : ℕ → ℕ → List A → List (List A)
  pieces k zero l = []
  pieces k (suc n) l = take k l ∷ pieces k n (drop k l)

-- n records of k words each
abbrev pub rows : {A B : Type 0} → (List A → B) → ℕ → ℕ → List A → List B
rows read k n l = map read (pieces k n l)

-- the words of records, one record after the other
unfoldable pub flat : {A B : Type 0} → (B → List A) → List B → List A
flat write [] = []
flat write (x ∷ xs) = write x ++ flat write xs

-- the k words from i on, one by one
abbrev pub spelled : ℕ → ℕ → List ℕ → List ℕ
spelled i zero l = []
spelled i (suc k) l = get_or l i 0 ∷ spelled (suc i) k l
