-- Every promise to C leaves no choice: two results that it allows are equal, for each of the calls. Assumes nothing.
use mathlib.Core.Path.{◌≡◌, sym, ◌∙◌}
use mathlib.Core.List.{List}
use Prim.Native.Nat.{ℕ}
use Rattle.routes.specs.declared.Record.{Record}
use Rattle.lent_state.proofs.Same.{board_injective, lent_injective}
use Rattle.contracts.specs.Promised.{Things, Result, Promise, Allows, Exported, promised}

-- equal where all parts are
abbrev things : List ℕ → List ℕ → List Record → List ℕ → List ℕ → Things
things board mission routes output numbers =
    record { board = board; mission = mission; routes = routes; output = output; numbers = numbers }

pub same_things : {b b' m m' : List ℕ} {rs rs' : List Record} {o o' n n' : List ℕ}
    → b ≡ b' → m ≡ m' → rs ≡ rs' → o ≡ o' → n ≡ n' → things b m rs o n ≡ things b' m' rs' o' n'
same_things e f g h i = rw (e, f, g, h, i)

abbrev result : ℕ → Things → Result
result answer left = record { answer = answer; left = left }

same_parts : {a a' : ℕ} {t t' : Things} → a ≡ a' → t ≡ t' → result a t ≡ result a' t'
same_parts e f = rw (e, f)

-- Two results that a promise allows are equal.
pub allowed_once : (p : Promise) (x y : Result) → Allows p x → Allows p y → x ≡ y
allowed_once p x y h k =
    same_parts (h.answer ∙ sym k.answer)
    (same_things
    (board_injective x.left.board y.left.board (h.board ∙ sym k.board))
    (lent_injective x.left.mission y.left.mission (h.mission ∙ sym k.mission))
    (h.routes ∙ sym k.routes)
    (h.output ∙ sym k.output)
    (h.numbers ∙ sym k.numbers))

-- Of each call from C, two results that its promise allows are equal: the answer, every word, every record and every octet of the output.
pub one_result_each : (c : Exported) (x y : Result) → Allows (promised c) x → Allows (promised c) y → x ≡ y
one_result_each c = allowed_once (promised c)
