-- Words added two at a time in 32 bits, and folded at the end, give the sum of them added one by one: both are the plain sum modulo 65535, both are 0
-- exactly where it is, and both are 16-bit words. Assumes nothing.
use Prim.Native.Nat.{ℕ, zero, suc, ◌+◌, ◌*◌, ◌%◌, ◌≤◌, ◌<◌}
use mathlib.Core.Path.{◌≡◌, refl, ap, sym, ◌∙◌}
use mathlib.Core.List.{List, [], ◌∷◌}
use native.Mathlib.Omega.{arith}
use lib.ListN.{get_or, length, take, drop, length-drop}
use lib.Dec.{lit<}
use lib.Seq.{drop-drop}
use native.Mathlib.Nat.{add-zero}
use Rattle.std.specs.Simd.{first_chunks}
use Rattle.std.proofs.lemmas.List.{get_or-take, get_or-drop}
use Rattle.octets.specs.Octets.{octet, number}
use Rattle.checksum.specs.Sum.{word, words, around, around32, ones_sum}
use Rattle.checksum.proofs.Words.{Octets, plain, plain_zero, plain_four, sum_from_plain, sum_from_zero, sum_from_none}
use Rattle.checksum.proofs.Laws.{sum_fits}

-- alike in ones' complement: equal modulo 65535, and 0 together
abbrev pub Alike : ℕ → ℕ → Type 0
Alike x y = (x % 65535 ≡ y % 65535) × ((x ≡ 0 → y ≡ 0) × (y ≡ 0 → x ≡ 0))

-- alike and 16 bits: the same
same : (x y : ℕ) → x < 65536 → y < 65536 → Alike x y → x ≡ y
same zero y a b h = sym (h.1.0 refl)
same (suc x) zero a b h = h.1.1 refl
same (suc x) (suc y) a b h = omega (arith, h.0)

-- two words q, added to a sum with r ahead of it
added : (v q a b r p : ℕ) → q ≡ a * 65536 + b → Alike (v + (a + (b + r))) p → Alike (around32 (v + q) + r) p
added v q a b r p e h = (omega (arith, h.0), (λ z. h.1.0 (omega arith), λ z. (let n = h.1.1 z in omega arith)))

-- one of the first k fours of octets, and its two words
four_at : (k i : ℕ) (l : List ℕ) → i < k → get_or (first_chunks 4 k l) i [] ≡ take 4 (drop (4 * i) l)
four_at zero i l h = absurd (omega arith)
four_at (suc k) zero l h = refl
four_at (suc k) (suc i) l h =
    let e : 4 * suc i ≡ 4 + 4 * i = omega arith in
    rw (e, four_at k i (drop 4 l) (omega arith)) (ap (take 4) (drop-drop (4 * i) 4 l))

octet_of : (l : List ℕ) (n j : ℕ) → j < 4 → octet (take 4 (drop n l)) j ≡ octet l (n + j)
octet_of l n j h = get_or-take 4 (drop n l) j 0 h ∙ get_or-drop n l j 0

words_of : (l : List ℕ) (n : ℕ) → number (take 4 (drop n l)) 0 4 ≡ word (octet l n) (octet l (n + 1)) * 65536 + word (octet l (n + 2)) (octet l (n + 3))
unfolding number
words_of l n =
    rw (octet_of l n 0 (lit< tt), octet_of l n 1 (lit< tt), octet_of l n 2 (lit< tt), octet_of l n 3 (lit< tt), add-zero n)
    (omega arith)

-- a turn of the loop
pub turn : (l : List ℕ) (k i v q p : ℕ) → i < k → 4 * k ≤ length l → q ≡ number (get_or (first_chunks 4 k l) i []) 0 4
    → Alike (v + plain (words (drop (4 * i) l))) p → Alike (around32 (v + q) + plain (words (drop (4 * (i + 1)) l))) p
turn l k i v q p h room e g =
    added v q _ _ _ p (e ∙ ap (λ (t : List ℕ). number t 0 4) (four_at k i l h) ∙ words_of l (4 * i)) (rw (plain_four l i (omega arith)) at g)

-- two words q at the end, the last ones
closed : (v q a b t p : ℕ) → q ≡ a * 65536 + b → t ≡ a + b → Alike (v + t) p → Alike (around32 (v + q)) p
closed v q a b t p e f h = (omega (arith, h.0), (λ z. h.1.0 (omega arith), λ z. (let n = h.1.1 z in omega arith)))

-- what is left at the end, as two words
last : (r : List ℕ) → length r < 4 → (v p : ℕ) → Alike (v + plain (words r)) p → Alike (around32 (v + (octet r 0 * 16777216 + octet r 1 * 65536 + octet r 2 * 256))) p
unfolding words plain
last [] h v p g = closed v _ 0 0 _ p (omega arith) (omega arith) g
last (a ∷ []) h v p g = closed v _ (word a 0) 0 _ p (omega arith) (omega arith) g
last (a ∷ b ∷ []) h v p g = closed v _ (word a b) 0 _ p (omega arith) (omega arith) g
last (a ∷ b ∷ c ∷ []) h v p g = closed v _ (word a b) (word c 0) _ p (omega arith) (omega arith) g
last (a ∷ b ∷ c ∷ d ∷ r) h v p g = absurd (omega arith)

alike_trans : (x y z : ℕ) → Alike x y → Alike y z → Alike x z
alike_trans x y z g h = (g.0 ∙ h.0, (λ e. h.1.0 (g.1.0 e), λ e. g.1.1 (h.1.1 e)))

-- a fold keeps a sum alike, and three folds leave 16 bits
fold_alike : (x : ℕ) → Alike (around x) x
fold_alike x = (omega arith, (λ z. omega arith, λ z. omega arith))

first_fold : (x : ℕ) → x < 8589934592 → around x < 196607
first_fold x h = omega arith

second_fold : (x : ℕ) → x < 196607 → around x < 65537
second_fold x h = omega arith

third_fold : (x : ℕ) → x < 65537 → around x < 65536
third_fold x h = omega arith

pub folds : (x : ℕ) → x < 8589934592 → (around x < 196607) × (around (around x) < 65537) × (around (around (around x)) < 65536)
folds x h =
    let a = first_fold x h in
    let b = second_fold (around x) a in
    (a, b, third_fold (around (around x)) b)

-- the plain sum and the ones' complement sum
sum_alike : (l : List ℕ) → Alike (plain (words l)) (ones_sum l)
unfolding ones_sum
sum_alike l = (omega (arith, sum_from_plain 0 (words l)), (sum_from_none (words l), λ z. plain_zero (words l) (sum_from_zero 0 (words l) z)))

-- the end of the loop
pub sum_of : (l : List ℕ) (n v q x : ℕ) → Octets l → length l < n + 4 → q ≡ octet (drop n l) 0 * 16777216 + octet (drop n l) 1 * 65536 + octet (drop n l) 2 * 256
    → x ≡ around32 (v + q) → x < 8589934592 → Alike (v + plain (words (drop n l))) (plain (words l)) → around (around (around x)) ≡ ones_sum l
sum_of l n v q x octets few eq ex small g =
    let short : length (drop n l) < 4 = rw (length-drop n l) (omega arith) in
    let ended : Alike x (plain (words l)) = rw (ex, eq) (last (drop n l) short v (plain (words l)) g) in
    let summed : Alike x (ones_sum l) = alike_trans x _ _ ended (sum_alike l) in
    let folded : Alike (around (around (around x))) x =
    alike_trans _ (around (around x)) _ (fold_alike (around (around x))) (alike_trans _ (around x) _ (fold_alike (around x)) (fold_alike x)) in
    same _ _ (folds x small).2 (sum_fits l octets) (alike_trans _ x _ folded summed)
