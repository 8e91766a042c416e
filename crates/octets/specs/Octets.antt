-- Numbers in octets, the most significant octet first (003, 1.6.1: network byte order).
-- Assumes nothing.
use Rattle.std.specs.Prelude.{ℕ, zero, suc, ◌+◌, ◌*◌, ◌/◌, ◌%◌, List, [], ◌∷◌, ◌++◌, get_or, length, take, drop}

-- the octet at a place, 0 past the end
abbrev pub octet : List ℕ → ℕ → ℕ
octet s i = get_or s i 0

-- the number that the n octets from a place on make
unfoldable pub number : List ℕ → ℕ → ℕ → ℕ
number s at zero = 0
number s at (suc n) = number s at n * 256 + octet s (at + n)

-- the last n octets of a number
unfoldable pub octets : ℕ → ℕ → List ℕ
octets zero v = []
octets (suc n) v = octets n (v / 256) ++ (v % 256 ∷ [])

-- l with vs over it from a place on
unfoldable pub pasted : List ℕ → ℕ → List ℕ → List ℕ
pasted l at vs = take at l ++ (vs ++ drop (at + length vs) l)

-- l with vs over its front, and what stands after it as it was
abbrev pub fronted : List ℕ → List ℕ → List ℕ
fronted vs l = vs ++ drop (length vs) l
