-- How long one waits (page 02, W-213): it is handed out at the take numbered r + h + 1 and at no other. Those that go out before it are as
-- many as stood before it and have entered higher, less the takes made. Assumes nothing.
use Prim.Native.Nat.{ℕ, suc, ◌+◌, ◌≤◌, ◌<◌}
use mathlib.Core.Bool.{Bool, true, false}
use mathlib.Core.Path.{◌≡◌, refl, sym, ap, ◌∙◌}
use mathlib.Core.Logic.{◌↔◌}
use mathlib.Core.List.{List, [], ◌∷◌, ◌++◌, map, append_assoc}
use native.Mathlib.Omega.{arith}
use lib.Dec.{ltb, leb}
use lib.ListN.{length, length-append}
use borrow.Author.Tests.{lt-ltb, le-ltb, le-leb, lt-leb, eqb-true, eqb-false}
use Rattle.checks.specs.Order.{pick}
use Rattle.queue.specs.Order.{Each, Sorted, insert_by, Placed}
use Rattle.queue.specs.Queue.{waiting, precedence_of}
use Rattle.queue.specs.Waits.{Chosen, nobody, one, chosen, insert_oldest, ordered, rank_by, Waits}
use Rattle.queue.specs.Foretold.{Deed, enters, hands_out, entered, takes_in, how_many, out, left, AtTake, line_after, handed, standing_before, higher_in, Other, is_out, while_waits}
use Rattle.queue.specs.declared.Entry.{Entry}
use Rattle.queue.specs.declared.Queue.{Queue}
use Rattle.queue.proofs.Compare.{by_order}
use Rattle.queue.proofs.Each.{each_so, each_append, each_front, each_rest}
use Rattle.queue.proofs.Order.{insert_length, insert_each, insert_placed, after_lower, insert_ahead, insert_behind}
use Rattle.queue.proofs.Waits.{ordered_enters, ordered_each, each_of_ordered, ordered_sorted, EachOf, chosen_each, goes_out, ordered_chosen}

-- ---- counting

module _ {A : Type 0} (test : A → Bool) where
  pub many_append : (l r : List A) → how_many test (l ++ r) ≡ how_many test l + how_many test r
  many_append [] r = omega arith
  many_append (x ∷ l) r = omega (arith, many_append l r)

  many_all : (l : List A) → Each (λ (y : A). test y ≡ true) l → how_many test l ≡ length l
  many_all [] all = refl
  many_all (x ∷ l) all = rw all.0 (omega (arith, many_all l all.1))

  many_none : (l : List A) → Each (λ (y : A). test y ≡ false) l → how_many test l ≡ 0
  many_none [] all = refl
  many_none (x ∷ l) all = rw all.0 (omega (arith, many_none l all.1))

  -- in whatever order they stand
  many_oldest : (rank : A → ℕ) (x : A) (l : List A) → how_many test (insert_oldest rank x l) ≡ pick (test x) 1 0 + how_many test l
  unfolding insert_oldest
  many_oldest rank x [] = refl
  many_oldest rank x (y ∷ l) = by (many_oldest rank x l) (ltb (rank x) (rank y))
    where
      by : how_many test (insert_oldest rank x l) ≡ pick (test x) 1 0 + how_many test l
          → (t : Bool)
          → how_many test (pick t (y ∷ insert_oldest rank x l) (x ∷ y ∷ l)) ≡ pick (test x) 1 0 + (pick (test y) 1 0 + how_many test l)
      by h true = omega (arith, h)
      by h false = refl

  many_ordered : (rank : A → ℕ) (l : List A) → how_many test (ordered rank l) ≡ how_many test l
  unfolding ordered
  many_ordered rank [] = refl
  many_ordered rank (x ∷ l) = many_oldest rank x (ordered rank l) ∙ ap (λ (n : ℕ). pick (test x) 1 0 + n) (many_ordered rank l)

many_map : {A B : Type 0} (test : B → Bool) (f : A → B) (l : List A) → how_many test (map f l) ≡ how_many (λ (y : A). test (f y)) l
many_map test f [] = refl
many_map test f (x ∷ l) = ap (λ (n : ℕ). pick (test (f x)) 1 0 + n) (many_map test f l)

-- where a newcomer is placed, just those that are not lower stand before it
module _ {A : Type 0} (rank : A → ℕ) (e : A) where
  abbrev not_lower : A → Bool
  not_lower y = leb (rank e) (rank y)

  before_many : {old new : List A} → Sorted rank old → (p : Placed rank e old new) → length p.before ≡ how_many not_lower old
  before_many sorted p =
      rw p.was
      (omega (
        arith,
        many_append not_lower p.before p.after,
        many_all not_lower p.before (each_so p.before (λ y h. le-leb _ _ h) p.before_not_lower),
        many_none not_lower p.after (each_so p.after (λ y h. lt-leb _ _ h) (after_lower rank e sorted p)),
      ))

-- r is what a put makes stand before the newcomer in the queue
pub stand_before : {A : Type 0} (entry_of : A → Entry) {q : Queue} {line : List A} → Waits entry_of q line → (x : A) {new : List Entry}
    → (p : Placed precedence_of (entry_of x) (waiting q) new) → length p.before ≡ standing_before (rank_by entry_of) x line
stand_before entry_of {q} {line} waits x p =
    before_many precedence_of (entry_of x) waits.sound.sorted p
    ∙ ap (how_many (not_lower precedence_of (entry_of x))) waits.same
    ∙ many_map _ entry_of (ordered (rank_by entry_of) line)
    ∙ many_ordered _ (rank_by entry_of) line

-- ---- deeds, and more deeds

module _ {A : Type 0} where
  entered_append : (es fs : List (Deed A)) → entered (es ++ fs) ≡ entered es ++ entered fs
  entered_append [] fs = refl
  entered_append (enters y ∷ es) fs = ap (λ (t : List A). y ∷ t) (entered_append es fs)
  entered_append (hands_out ∷ es) fs = entered_append es fs

  takes_append : (es fs : List (Deed A)) → takes_in (es ++ fs) ≡ takes_in es + takes_in fs
  takes_append [] fs = omega arith
  takes_append (enters y ∷ es) fs = takes_append es fs
  takes_append (hands_out ∷ es) fs = omega (arith, takes_append es fs)

module _ {A : Type 0} (rank : A → ℕ) where
  handed_append : (line : List A) (es fs : List (Deed A)) → handed rank line (es ++ fs) ≡ handed rank line es ++ handed rank (line_after rank line es) fs
  unfolding handed line_after
  handed_append line [] fs = refl
  handed_append line (enters y ∷ es) fs = handed_append (line ++ (y ∷ [])) es fs
  handed_append line (hands_out ∷ es) fs =
      ap (λ (t : List A). out (chosen rank line) ++ t) (handed_append (left (chosen rank line)) es fs)
      ∙ sym (append_assoc (out (chosen rank line)) _ _)

  module _ (P : A → Type 0) where
    each_out : (c : Chosen A) → EachOf rank P c → Each P (out c)
    each_out nobody h = tt
    each_out (one y others) h = (h.0, tt)

    each_left : (c : Chosen A) → EachOf rank P c → Each P (left c)
    each_left nobody h = tt
    each_left (one y others) h = h.1

    each_handed : (line : List A) (ds : List (Deed A)) → Each P line → Each P (entered ds) → Each P (handed rank line ds)
    unfolding handed
    each_handed line [] here come = tt
    each_handed line (enters y ∷ ds) here come = each_handed (line ++ (y ∷ [])) ds (each_append P line (y ∷ []) here (come.0, tt)) come.1
    each_handed line (hands_out ∷ ds) here come =
        let c = chosen_each rank P line here in
        each_append P (out (chosen rank line)) _ (each_out (chosen rank line) c) (each_handed (left (chosen rank line)) ds (each_left (chosen rank line) c) come)

-- ---- where x stands in the order of going out

module _ {A : Type 0} (rank turn : A → ℕ) (x : A) where
  -- n others go out before x
  record Place (line : List A) (n : ℕ) : Type 0 where
    front : List A
    back : List A
    goes : ordered rank line ≡ front ++ x ∷ back
    number : length front ≡ n
    front_other : Each (Other turn x) front
    back_other : Each (Other turn x) back

  placed : (line : List A) → Each (Other turn x) line → Place (line ++ (x ∷ [])) (standing_before rank x line)
  placed line others =
      record {
        front = p.before;
        back = p.after;
        goes = ordered_enters rank x line ∙ p.becomes;
        number = before_many rank x (ordered_sorted rank line) p ∙ many_ordered _ rank line;
        front_other = each_front _ p.before p.after all;
        back_other = each_rest _ p.before p.after all;
      }
    where
      p : Placed rank x (ordered rank line) (insert_by rank x (ordered rank line))
      p = insert_placed rank x (ordered rank line)

      all : Each (Other turn x) (p.before ++ p.after)
      all = rw p.was at (ordered_each rank (Other turn x) line others)

  module _ {line : List A} {n : ℕ} (p : Place line n) where
    -- a higher one enters before x, and any other behind it
    enter_before : (y : A) → rank x < rank y → Other turn x y → Place (line ++ (y ∷ [])) (suc n)
    enter_before y higher other =
        record {
          front = insert_by rank y p.front;
          back = p.back;
          goes = ordered_enters rank y line ∙ ap (insert_by rank y) p.goes ∙ insert_ahead rank y p.front x p.back higher;
          number = insert_length rank y p.front ∙ ap suc p.number;
          front_other = insert_each rank y (Other turn x) p.front other p.front_other;
          back_other = p.back_other;
        }

    enter_behind : (y : A) → rank y ≤ rank x → Other turn x y → Place (line ++ (y ∷ [])) n
    enter_behind y lower other =
        record {
          front = p.front;
          back = insert_by rank y p.back;
          goes =
              ordered_enters rank y line
              ∙ ap (insert_by rank y) p.goes
              ∙ insert_behind rank y p.front x p.back (rw p.goes at (ordered_sorted rank line)) lower;
          number = p.number;
          front_other = p.front_other;
          back_other = insert_each rank y (Other turn x) p.back other p.back_other;
        }

  -- what the next take hands out: x itself, where none goes out before it, or one of those that do
  data Next (line : List A) (n : ℕ) : Type 0 where
    itself : n ≡ 0 → (others : List A) → chosen rank line ≡ one x others → Each (Other turn x) others → Next line n
    another : (m : ℕ) → n ≡ suc m → (y : A) → Other turn x y → (others : List A) → chosen rank line ≡ one y others → Place others m → Next line n

  next : {line : List A} {n : ℕ} → Place line n → Next line n
  next {line} {n} p = by p.front p.front_other p.number (chosen rank line) refl (sym (ordered_chosen rank line) ∙ p.goes)
    where
      by : (front : List A) → Each (Other turn x) front → length front ≡ n → (c : Chosen A) → chosen rank line ≡ c
          → goes_out rank c ≡ front ++ x ∷ p.back → Next line n
      by front other number nobody is goes = absurd (omega (arith, ap length goes, length-append front (x ∷ p.back)))
      by [] other number (one y others) is goes =
          let same : y ≡ x = cc in
          let rest : ordered rank others ≡ p.back = cc in
          itself (sym number) others (is ∙ ap (λ (t : A). one t others) same) (each_of_ordered rank _ others (rw rest p.back_other))
      by (z ∷ front) other number (one y others) is goes =
          let same : y ≡ z = cc in
          let rest : ordered rank others ≡ front ++ x ∷ p.back = cc in
          another (length front) (sym number) z other.0 others (is ∙ ap (λ (t : A). one t others) same)
          (record { front = front; back = p.back; goes = rest; number = refl; front_other = other.1; back_other = p.back_other })

  -- ---- while x waits, one fewer goes out before it after a take, and one more after a higher one has entered

  record Kept (line : List A) (n : ℕ) (es : List (Deed A)) : Type 0 where
    still : ℕ
    place : Place (line_after rank line es) still
    number : still + takes_in es ≡ n + higher_in rank x es
    made : length (handed rank line es) ≡ takes_in es

  kept_take : (line : List A) (n : ℕ) (es : List (Deed A)) → Next line n
      → ((others : List A) (m : ℕ) → Place others m → Each (Other turn x) (handed rank others es) → Kept others m es)
      → Each (Other turn x) (handed rank line (hands_out ∷ es)) → Kept line n (hands_out ∷ es)
  unfolding handed line_after
  kept_take line n es (itself none others is rest) further stays = absurd ((rw is at stays).0 refl)
  kept_take line n es (another m more y other others is q) further stays =
      let k : Kept others m es = further others m q (rw is at stays).1 in
      record { still = k.still; place = rw is k.place; number = omega (arith, k.number); made = rw is (ap suc k.made) }

  kept : (es : List (Deed A)) (line : List A) (n : ℕ) → Place line n → Each (Other turn x) (entered es)
      → Each (Other turn x) (handed rank line es) → Kept line n es
  unfolding handed line_after
  kept [] line n p come stays = record { still = n; place = p; number = refl; made = refl }
  kept (enters y ∷ es) line n p come stays =
      by_order (rank x) (rank y)
      (λ higher.
      let k : Kept (line ++ (y ∷ [])) (suc n) es = kept es _ (suc n) (enter_before p y higher come.0) come.1 stays in
      record { still = k.still; place = k.place; number = rw (lt-ltb _ _ higher) (omega (arith, k.number)); made = k.made })
      (λ other.
      let k : Kept (line ++ (y ∷ [])) n es = kept es _ n (enter_behind p y other come.0) come.1 stays in
      record { still = k.still; place = k.place; number = rw (le-ltb _ _ other) (omega (arith, k.number)); made = k.made })
  kept (hands_out ∷ es) line n p come stays = kept_take line n es (next p) (λ others m q s. kept es others m q come s) stays

  -- ---- at each moment while x waits

  module _
      (line : List A)
      (es : List (Deed A))
      (others : Each (Other turn x) (line ++ entered es))
      (stays : Each (Other turn x) (handed rank (line ++ (x ∷ [])) es)) where
    waited : Kept (line ++ (x ∷ [])) (standing_before rank x line) es
    waited = kept es (line ++ (x ∷ [])) _ (placed line (each_front _ line (entered es) others)) (each_rest _ line (entered es) others) stays

    -- no more takes have been made than go before it
    pub takes_at_most : takes_in es ≤ standing_before rank x line + higher_in rank x es
    takes_at_most = omega (arith, waited.number)

  -- ---- over any deeds

  abbrev joined : List A → List A
  joined line = line ++ (x ∷ [])

  -- es are all of ds, or those before the take that hands x out
  data Course (line : List A) (ds es : List (Deed A)) : Type 0 where
    never : ds ≡ es → Course line ds es
    then : (fs : List (Deed A)) → ds ≡ es ++ hands_out ∷ fs → is_out turn x (chosen rank (line_after rank line es)) ≡ true → Course line ds es

  course : (line : List A) (ds : List (Deed A)) → Course line ds (while_waits rank turn x line ds)
  unfolding while_waits line_after
  course line [] = never refl
  course line (enters y ∷ ds) = on (course (line ++ (y ∷ [])) ds)
    where
      on : {es : List (Deed A)} → Course (line ++ (y ∷ [])) ds es → Course line (enters y ∷ ds) (enters y ∷ es)
      on (never e) = never (ap (λ (t : List (Deed A)). enters y ∷ t) e)
      on (then fs e is) = then fs (ap (λ (t : List (Deed A)). enters y ∷ t) e) is
  course line (hands_out ∷ ds) = by (is_out turn x (chosen rank line)) refl (course (left (chosen rank line)) ds)
    where
      by : (t : Bool) → is_out turn x (chosen rank line) ≡ t → {es : List (Deed A)} → Course (left (chosen rank line)) ds es
          → Course line (hands_out ∷ ds) (pick t [] (hands_out ∷ es))
      by true is c = then ds refl is
      by false is (never e) = never (ap (λ (t : List (Deed A)). hands_out ∷ t) e)
      by false is (then fs e later) = then fs (ap (λ (t : List (Deed A)). hands_out ∷ t) e) later

  stays_while : (line : List A) (ds : List (Deed A)) → Each (Other turn x) (handed rank line (while_waits rank turn x line ds))
  unfolding while_waits handed
  stays_while line [] = tt
  stays_while line (enters y ∷ ds) = stays_while (line ++ (y ∷ [])) ds
  stays_while line (hands_out ∷ ds) = by (is_out turn x (chosen rank line)) refl _ (stays_while (left (chosen rank line)) ds)
    where
      not_out : (c : Chosen A) → is_out turn x c ≡ false → Each (Other turn x) (out c)
      not_out nobody h = tt
      not_out (one y others) h = (eqb-false _ _ h, tt)

      by : (t : Bool) → is_out turn x (chosen rank line) ≡ t → (es : List (Deed A)) → Each (Other turn x) (handed rank (left (chosen rank line)) es)
          → Each (Other turn x) (handed rank line (pick t [] (hands_out ∷ es)))
      by true is es h = tt
      by false is es h = each_append _ (out (chosen rank line)) _ (not_out (chosen rank line) is) h

  -- x stands once in a list
  one_place : (a b c d : List A) → Each (Other turn x) a → Each (Other turn x) b → a ++ x ∷ b ≡ c ++ x ∷ d → length a ≡ length c
  one_place [] b [] d h k e = refl
  one_place [] b (y ∷ c) d h k e =
      let rest : b ≡ c ++ x ∷ d = cc in
      absurd ((each_rest _ c (x ∷ d) (rw rest at k)).0 refl)
  one_place (y ∷ a) b [] d h k e = let same : y ≡ x = cc in absurd (h.0 (ap turn same))
  one_place (y ∷ a) b (z ∷ c) d h k e = let rest : a ++ x ∷ b ≡ c ++ x ∷ d = cc in ap suc (one_place a b c d h.1 k rest)

  never_out : (all : List A) (k n takes : ℕ) → Each (Other turn x) all → takes ≤ n → AtTake k x all ↔ ((k ≡ n + 1) × (k ≤ takes))
  never_out all k n takes others few =
      (λ at. absurd ((each_rest _ at.earlier (x ∷ at.later) (rw at.are at others)).0 refl), λ h. absurd (omega (arith, h.0, h.1)))

  once_out : (all a b : List A) (k n takes : ℕ) → all ≡ a ++ x ∷ b → Each (Other turn x) a → Each (Other turn x) b → length a ≡ n → n < takes
      → AtTake k x all ↔ ((k ≡ n + 1) × (k ≤ takes))
  once_out all a b k n takes are before-other after-other number enough = (
    λ at.
        let same : length a ≡ length at.earlier = one_place a b at.earlier at.later before-other after-other (sym are ∙ at.are) in
        let is : k ≡ n + 1 = omega (arith, at.number) in
        (is, omega arith),
    λ h. record { earlier = a; later = b; are = are; number = omega (arith, h.0) },
  )

  then_out : (line : List A) (es fs : List (Deed A)) (k : ℕ) → Each (Other turn x) (line ++ entered (es ++ hands_out ∷ fs))
      → is_out turn x (chosen rank (line_after rank (joined line) es)) ≡ true
      → Each (Other turn x) (handed rank (joined line) es)
      → AtTake k x (handed rank (joined line) (es ++ hands_out ∷ fs))
      ↔ ((k ≡ standing_before rank x line + higher_in rank x es + 1) × (k ≤ takes_in (es ++ hands_out ∷ fs)))
  unfolding handed
  then_out line es fs k others is stays = by (next before.place)
    where
      all : Each (Other turn x) (line ++ (entered es ++ entered fs))
      all = rw (entered_append es (hands_out ∷ fs)) at others

      come : Each (Other turn x) (entered es ++ entered fs)
      come = each_rest _ line _ all

      before : Kept (joined line) (standing_before rank x line) es
      before = waited line es (each_append _ line (entered es) (each_front _ line _ all) (each_front _ (entered es) (entered fs) come)) stays

      by : Next (line_after rank (joined line) es) before.still
          → AtTake k x (handed rank (joined line) (es ++ hands_out ∷ fs))
          ↔ ((k ≡ standing_before rank x line + higher_in rank x es + 1) × (k ≤ takes_in (es ++ hands_out ∷ fs)))
      by (itself none rest this rest-other) =
          once_out _ (handed rank (joined line) es) (handed rank rest fs) k _ _
          (handed_append rank (joined line) es (hands_out ∷ fs)
          ∙ ap (λ (c : Chosen A). handed rank (joined line) es ++ (out c ++ handed rank (left c) fs)) this)
          stays
          (each_handed rank _ rest fs rest-other (each_rest _ (entered es) (entered fs) come))
          (omega (arith, before.made, before.number))
          (omega (arith, before.number, takes_append es (hands_out ∷ fs)))
      by (another m more y other rest this q) = absurd (other (eqb-true _ _ (rw this at is)))

  -- W-213: take number k hands x out exactly where k is r + h + 1 and that many takes are made
  pub foretold : (line : List A) (ds : List (Deed A)) → Each (Other turn x) (line ++ entered ds) → (k : ℕ)
      → AtTake k x (handed rank (line ++ (x ∷ [])) ds)
      ↔ ((k ≡ standing_before rank x line + higher_in rank x (while_waits rank turn x (line ++ (x ∷ [])) ds) + 1) × (k ≤ takes_in ds))
  foretold line ds others k = by (while_waits rank turn x (joined line) ds) (course (joined line) ds) (stays_while (joined line) ds)
    where
      by : (es : List (Deed A)) → Course (joined line) ds es → Each (Other turn x) (handed rank (joined line) es)
          → AtTake k x (handed rank (joined line) ds) ↔ ((k ≡ standing_before rank x line + higher_in rank x es + 1) × (k ≤ takes_in ds))
      by es (never e) stays = rw e (never_out (handed rank (joined line) es) k _ _ stays (takes_at_most line es (rw e at others) stays))
      by es (then fs e is) stays = rw e (then_out line es fs k (rw e at others) is stays)
