-- What holds of each element of a list, and of each pair in its order. Assumes nothing.
use mathlib.Core.List.{List, [], ◌∷◌, ◌++◌}
use lib.ListN.{drop}
use Rattle.queue.specs.Order.{Each, InOrder}

module _ {A : Type 0} where
  pub each : {P : A → Type 0} (l : List A) → ((x : A) → P x) → Each P l
  each [] h = tt
  each (x ∷ l) h = (h x, each l h)

  pub each_so : {P Q : A → Type 0} (l : List A) → ((x : A) → P x → Q x) → Each P l → Each Q l
  each_so [] f h = tt
  each_so (x ∷ l) f h = (f x h.0, each_so l f h.1)

  pub order_later : (R : A → A → Type 0) (l : List A) → InOrder R l → InOrder R (drop 1 l)
  order_later R [] h = tt
  order_later R (x ∷ l) h = h.1

  pub each_append : (P : A → Type 0) (l r : List A) → Each P l → Each P r → Each P (l ++ r)
  each_append P [] r h k = k
  each_append P (x ∷ l) r h k = (h.0, each_append P l r h.1 k)

  pub each_front : (P : A → Type 0) (l r : List A) → Each P (l ++ r) → Each P l
  each_front P [] r h = tt
  each_front P (x ∷ l) r h = (h.0, each_front P l r h.1)

  pub each_rest : (P : A → Type 0) (l r : List A) → Each P (l ++ r) → Each P r
  each_rest P [] r h = h
  each_rest P (x ∷ l) r h = each_rest P l r h.1

  module _ (R : A → A → Type 0) where
    pub order_rest : (l r : List A) → InOrder R (l ++ r) → InOrder R r
    order_rest [] r h = h
    order_rest (x ∷ l) r h = order_rest l r h.1

    pub order_front : (l : List A) (y : A) (r : List A) → InOrder R (l ++ y ∷ r) → Each (λ (x : A). R x y) l
    order_front [] y r h = tt
    order_front (x ∷ l) y r h = ((each_rest (R x) l (y ∷ r) h.0).0, order_front l y r h.1)

    pub order_append : (l r : List A) → InOrder R l → Each (λ (x : A). Each (R x) r) l → InOrder R r → InOrder R (l ++ r)
    order_append [] r h across k = k
    order_append (x ∷ l) r h across k = (each_append (R x) l r h.0 across.0, order_append l r h.1 across.1 k)

    pub order_without : (l : List A) (x : A) (r : List A) → InOrder R (l ++ x ∷ r) → InOrder R (l ++ r)
    order_without [] x r h = h.1
    order_without (y ∷ l) x r h =
        (each_append (R y) l r (each_front (R y) l (x ∷ r) h.0) (each_rest (R y) l (x ∷ r) h.0).1, order_without l x r h.1)
