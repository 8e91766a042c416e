-- One turn is what hearing one datagram does: item i asked about, its route found, and carried out. Assumes nothing.
use Prim.Native.Nat.{ℕ}
use mathlib.Core.Path.{◌≡◌, sym, ap, ap₂, ◌∙◌}
use mathlib.Core.List.{List}
use lib.ListN.{length}
use Rattle.routes.specs.declared.Record.{Record}
use Rattle.state.specs.Seen.{Board, State}
use Rattle.lent_state.specs.View.{lent, changed_both}
use Rattle.listing.specs.declared.Scan.{Scan}
use Rattle.listing.specs.Scan.{scan_of}
use Rattle.judge.specs.declared.Asked.{Asked}
use Rattle.judge.specs.declared.Ending.{Ending}
use Rattle.judge.specs.Ending.{output_room}
use Rattle.judge.specs.Remembered.{remembered_by}
use Rattle.answers.specs.Answers.{receive_number}
use Rattle.relay.specs.Outgoing.{sent_output}
use Rattle.relay.specs.Received.{received_state}
use Rattle.relay.specs.Split.{asked_of, query_of, ending_after, answer_after, words_after, output_after}
use Rattle.relay.specs.Hearing.{answered_in, held_in, sent_in}
use Rattle.relay.proofs.Hearing.{promised}

module _ (b w : List ℕ) (rs : List Record) (port slot second : ℕ) (octets output : List ℕ) (long : length output ≡ output_room) (a : Asked)
    (asks : a ≡ asked_of b w (length rs) port second octets output_room) where
  abbrev found : Asked → Scan
  found x = scan_of (query_of x) rs

  abbrev asked : Asked
  asked = asked_of b w (length rs) port second octets (length output)

  here : a ≡ asked
  here = asks ∙ ap (asked_of b w (length rs) port second octets) (sym long)

  ended : ending_after b w a (found a) ≡ ending_after b w asked (found asked)
  ended = ap (λ (x : Asked). ending_after b w x (found x)) here

  pub turn_answers : answer_after b w a (found a) ≡ answered_in b (lent w) rs port second octets output_room
  turn_answers =
      ap receive_number ended ∙ (promised b w rs port slot second octets output).0 ∙ ap (answered_in b (lent w) rs port second octets) long

  pub turn_holds : words_after b w slot second a (found a) ≡ held_in b (lent w) rs port slot second octets output_room
  turn_holds =
      ap₂
      (λ (x : Asked) (e : Ending).
      changed_both (λ (y : Board) (z : State). received_state y z (record { 0 = slot }) (remembered_by second x z.memory) e) b w) here ended
      ∙ (promised b w rs port slot second octets output).1.0
      ∙ ap (held_in b (lent w) rs port slot second octets) long

  pub turn_sends : output_after b w octets output a (found a) ≡ sent_in b (lent w) rs port second octets output
  turn_sends = ap (λ (e : Ending). sent_output e octets output) ended ∙ (promised b w rs port slot second octets output).1.1
