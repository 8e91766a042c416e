-- What answering an echo request answers, leaves and sends, of the words lent: page 02, W-203. b is the board's words, w the mission's. Assumes nothing.
use Rattle.std.specs.Prelude.{ℕ, ◌≡◌, List, length}
use Rattle.checks.specs.Order.{pick}
use Rattle.routes.specs.declared.Record.{Record}
use Rattle.state.specs.Seen.{Board, State}
use Rattle.lent_state.specs.View.{Lent, lent, told_both, changed_both, too_long}
use Rattle.replies.specs.Replied.{replied_output}
use Rattle.answering.specs.Echoed.{echo_answering, echo_reply, replied_state}
use Rattle.answering.specs.Split.{number_for}

-- a list over 512 records is refused by 21 even before the words are counted; words of the wrong number hold no port, 16
unfoldable pub echo_answer : List ℕ → List ℕ → List Record → ℕ → List ℕ → ℕ → ℕ
echo_answer b w rs port octets room =
    pick (too_long rs) 21 (told_both (λ (x : Board) (s : State). number_for (echo_reply x s rs port octets room)) 16 b w)

unfoldable pub echo_words : List ℕ → List ℕ → List Record → ℕ → ℕ → List ℕ → ℕ → Lent State
echo_words b w rs port slot octets room =
    changed_both (λ (x : Board) (s : State). replied_state x s (record { 0 = slot }) (echo_reply x s rs port octets room)) b w

unfoldable pub echo_output : List ℕ → List ℕ → List Record → ℕ → List ℕ → List ℕ → List ℕ
echo_output b w rs port octets output =
    told_both
    (λ (x : Board) (s : State).
    replied_output (echo_answering x s rs port octets (length output)) (echo_reply x s rs port octets (length output)) octets output) output b w

-- the contract: what is answered, and the words and the output that are left
abbrev pub AnswersEcho : List ℕ → List ℕ → List Record → ℕ → ℕ → List ℕ → List ℕ → ℕ → List ℕ → List ℕ → Type 0
AnswersEcho b w rs port slot octets output answer words left =
    (answer ≡ echo_answer b w rs port octets (length output))
    × ((lent words ≡ echo_words b w rs port slot octets (length output)) × (left ≡ echo_output b w rs port octets output))
