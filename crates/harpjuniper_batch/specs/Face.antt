-- What a batch answers, leaves and sends on, of the words lent: page 02, W-201. b is the board's words, w the mission's. Assumes nothing.
use Rattle.std.specs.Prelude.{ℕ, ◌≡◌, List}
use Rattle.routes.specs.declared.Record.{Record}
use Rattle.lent_state.specs.View.{lent}
use Rattle.batch.specs.Items.{Lists}
use Rattle.batch.specs.Many.{items_held, items_answered, items_sent, many_refusal, many_heard}

-- the contract: what is answered, and the words, the answers and the output that are left. Where the call is refused no item is heard, and all are as they were lent.
abbrev pub ReceivesMany : List ℕ → List ℕ → List Record → Lists → List ℕ → List ℕ → ℕ → List ℕ → List ℕ → List ℕ → Type 0
ReceivesMany b w rs x answers output refusal words told left =
    let n = many_heard rs x answers output in
    (refusal ≡ many_refusal rs x answers output)
    × ((lent words ≡ items_held b (lent w) rs x n)
    × ((told ≡ items_answered b (lent w) rs x answers n) × (left ≡ items_sent b (lent w) rs x output n)))
