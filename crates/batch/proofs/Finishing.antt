-- An item carried out: on its stretch of octets, and its answer and output in their places. Assumes nothing.
use Prim.Native.Nat.{ℕ, ◌+◌, ◌-◌, ◌*◌}
use mathlib.Core.Path.{◌≡◌, ap, ap₂, subst⁻¹, ◌∙◌}
use mathlib.Core.List.{List}
use lib.ListN.{length, get_or, set, take, drop}
use borrow.Rule.Slice.PartMut.{put_mid}
use Rattle.octets.specs.Octets.{pasted}
use Rattle.lent_state.specs.View.{lent}
use Rattle.listing.specs.declared.Scan.{Scan}
use Rattle.judge.specs.declared.Asked.{Asked}
use Rattle.judge.specs.Ending.{output_room, refused_by}
use Rattle.answers.specs.Answers.{receive_number}
use Rattle.relay.specs.Split.{answer_after, words_after, output_after, words_refused, Following}
use Rattle.relay.proofs.Received.{after_refused}
use Rattle.batch.specs.Items.{octets_at, room_at}
use Rattle.batch.specs.Turn.{Finishable, Finishes}
use Rattle.batch.specs.declared.Progress.{Progress}
use Rattle.batch.proofs.Stretches.{item_octets, room_length, room_cut, room_written, room_kept}

module _ (b w lengths slots seconds octets answers output : List ℕ) (i : ℕ) (at : Progress) (a : Asked)
    (f : Finishable b w lengths slots seconds octets answers output i at a) where
  abbrev heard : List ℕ
  heard = take (at.from + get_or lengths i 0 - at.from) (drop at.from octets)

  abbrev room : List ℕ
  room = take (output_room * i + output_room - output_room * i) (drop (output_room * i) output)

  heard_is : heard ≡ octets_at lengths octets i
  heard_is = item_octets lengths octets i at f.0

  room_is : room ≡ room_at output i
  room_is = room_cut output i f.1.1.1.1.0

  room_long : length room ≡ output_room
  room_long = ap length room_is ∙ room_length output i f.1.1.1.1.0

  -- the item was asked about on this stretch
  pub follows : Following b w (get_or seconds i 0) heard (length room) a
  follows =
      subst⁻¹ (λ (l : List ℕ). Following b w (get_or seconds i 0) l (length room) a) heard_is
      (subst⁻¹ (λ (n : ℕ). Following b w (get_or seconds i 0) (octets_at lengths octets i) n a) room_long f.1.1.1.1.1)

  pub finished : (s : Scan) (next : Progress) (words mid : List ℕ) (answer : ℕ) → next.from ≡ at.from + get_or lengths i 0
      → (answer ≡ answer_after b w a s)
      × ((lent words ≡ words_after b w (get_or slots i 0) (get_or seconds i 0) a s) × (mid ≡ output_after b w heard room a s))
      → length mid ≡ length room
      → Finishes b w lengths slots seconds octets answers output i at a s next words (set answers i answer)
      (put_mid (output_room * i) (output_room * i + output_room - output_room * i) output mid)
  finished s next words mid answer on done long = (
    on,
    (
      done.1.0,
      (
        ap (set answers i) done.0,
        room_written output i f.1.1.1.1.0 mid (long ∙ room_long)
            ∙ ap (pasted output (output_room * i)) (done.1.1 ∙ ap₂ (λ (l m : List ℕ). output_after b w l m a s) heard_is room_is),
      ),
    ),
  )

  -- an item that is refused: nothing of its stretch is written
  pub refused_item : (s : Scan) (next : Progress) (words : List ℕ) (answer : ℕ) → (a.refusal ≡ 0 → ⊥) → next.from ≡ at.from + get_or lengths i 0
      → answer ≡ receive_number (refused_by a.refusal)
      → lent words ≡ words_refused b w (record { 0 = get_or slots i 0 }) (get_or seconds i 0) a.refusal
      → Finishes b w lengths slots seconds octets answers output i at a s next words (set answers i answer) output
  refused_item s next words answer some on told left =
      let done = after_refused b w (octets_at lengths octets i) (room_at output i) (get_or slots i 0) (get_or seconds i 0) a s words some told left in (
        on,
        (
          done.1.0,
          (
            ap (set answers i) done.0,
            room_kept output i f.1.1.1.1.0 ∙ ap (pasted output (output_room * i)) done.1.1,
          ),
        ),
      )
