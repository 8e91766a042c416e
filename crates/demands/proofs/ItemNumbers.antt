-- By which numbers an item of a batch is refused (page 02, W-201; docs/DECISIONS.md): never by 17, for it has the room of eight headers; and by 1 where it has no
-- octets, if neither 16 nor 29 comes first. Assumes nothing.
use native.Mathlib.Omega.{arith}
use Prim.Native.Nat.{ℕ}
use mathlib.Core.Path.{◌≡◌, refl, sym, ap, subst, ◌∙◌}
use mathlib.Core.Bool.{Bool, false, not}
use mathlib.Core.Logic.{◌≢◌, ◌⊎◌, inl, inr, ⊎_elim}
use mathlib.Core.List.{List, []}
use lib.Dec.{eqb, ltb}
use lib.ListN.{drop}
use borrow.Author.Tests.{eqb-false}
use Rattle.checks.specs.Order.{pick, first_of}
use Rattle.checks.proofs.Laws.{either}
use Rattle.routes.specs.declared.Record.{Record}
use Rattle.state.specs.Relay.{Relay, port_set_up}
use Rattle.state.specs.Seen.{Board, State}
use Rattle.lent_state.specs.View.{Lent, Held, Other, lent_board, by_lent, told_board, too_long}
use Rattle.judge.specs.Ending.{output_room}
use Rattle.judge.specs.declared.Ending.{Ending}
use Rattle.answers.specs.Answers.{part_at, receive_number}
use Rattle.page.specs.Table.{step_rows}
use Rattle.page.proofs.Exactly.{refusal_number_lem}
use Rattle.page.proofs.Rows.{every_check}
use Rattle.relay.specs.Received.{heard_ending}
use Rattle.relay.specs.Hearing.{answered_in}
use Rattle.history.specs.Seat.{Seat, relay_with, heard_by}
use Rattle.history.proofs.Heard.{heard_is}
use Rattle.history.proofs.ReadBack.{read_back}

-- ---- the numbers of any relay
abbrev NotSeventeen : ℕ → Type 0
NotSeventeen n = n ≢ 17

-- 1, or a number that comes before it
abbrev Empty : ℕ → Type 0
Empty n = (n ≡ 16) ⊎ ((n ≡ 29) ⊎ (n ≡ 1))

module _ (r : Relay) (at second : ℕ) where
  no_17 : (octets : List ℕ) → first_of (step_rows r at second octets output_room) ≢ 17
  unfolding step_rows first_of
  no_17 octets =
      let other : (n : ℕ) → eqb n 17 ≡ false → NotSeventeen n = λ n. eqb-false n 17 in
      either NotSeventeen (not (port_set_up r at)) (other 16 refl)
      (every_check NotSeventeen (drop 2 (step_rows r at second octets output_room))
      (other 29 refl, (other 1 refl, (other 2 refl, (other 1 refl, (other 4 refl, (other 3 refl, (other 5 refl, (other 8 refl, (other 7 refl, (other 6 refl, (other 28 refl, tt))))))))))) (other 0 refl))

  only_empty : Empty (first_of (step_rows r at second [] output_room))
  unfolding step_rows first_of
  only_empty = either Empty (not (port_set_up r at)) (inl refl) (either Empty (ltb second r.memory.last) (inr (inl refl)) (inr (inr refl)))

-- ---- what C is told, where the list of routes is not too long
module _ (rs : List Record) (short : too_long rs ≡ false) (at second : ℕ) (octets : List ℕ) where
  abbrev heard : Seat → Ending
  heard seat = heard_by seat rs at second octets output_room

  held_so : (P : ℕ → Type 0) → ((seat : Seat) → P (receive_number (heard seat))) → (x : Board) (s : State)
      → P (receive_number (heard_ending x s rs at second octets output_room))
  unfolding heard_ending
  held_so P right x s = right (record { board = x; number = s.number; mission = s.mission; memory = s.memory })

  -- words of the wrong number are told 16
  told_so : (P : ℕ → Type 0) → P 16 → ((seat : Seat) → P (receive_number (heard seat))) → (b : List ℕ) (l : Lent State)
      → P (answered_in b l rs at second octets output_room)
  unfolding told_board
  told_so P wrong right b l =
      subst (λ (t : Bool). P (pick t 21 (answered_by (lent_board b) l))) (sym short) (by (lent_board b) l)
    where
      answered_by : Lent Board → Lent State → ℕ
      answered_by v k = by_lent (λ (x : Board). by_lent (λ (s : State). receive_number (heard_ending x s rs at second octets output_room)) 16 k) 16 v

      by : (v : Lent Board) (k : Lent State) → P (answered_by v k)
      by (Held x) (Held s) = held_so P right x s
      by (Held x) (Other w) = wrong
      by (Other w) k = wrong

  refusal_is : (seat : Seat) → (heard seat).refusal ≡ first_of (step_rows (relay_with seat rs) at second octets output_room)
  refusal_is seat =
      ap (λ (e : Ending). e.refusal) (heard_is seat rs at second octets output_room false short)
      ∙ refusal_number_lem (relay_with seat rs) at second octets output_room

  pub never_17 : (b : List ℕ) (l : Lent State) → part_at 0 (answered_in b l rs at second octets output_room) ≢ 17
  never_17 =
      told_so (λ (n : ℕ). part_at 0 n ≢ 17) (eqb-false 16 17 refl)
      (λ seat e.
      no_17 (relay_with seat rs) at second octets
      (sym (refusal_is seat) ∙ sym (read_back seat rs at second octets output_room).refusal ∙ e))

  pub none_told : octets ≡ [] → (b : List ℕ) (l : Lent State) → Empty (answered_in b l rs at second octets output_room)
  none_told none = told_so Empty (inl refl) right
    where
      some : (n : ℕ) → Empty n → n ≡ 0 → ⊥
      some n is z = ⊎_elim (λ e. omega (arith, e, z)) (⊎_elim (λ e. omega (arith, e, z)) (λ e. omega (arith, e, z))) is

      right : (seat : Seat) → Empty (receive_number (heard seat))
      right seat =
          let rows : Empty (first_of (step_rows (relay_with seat rs) at second octets output_room)) =
          subst (λ (s : List ℕ). Empty (first_of (step_rows (relay_with seat rs) at second s output_room))) (sym none)
          (only_empty (relay_with seat rs) at second) in
          let is = subst Empty (sym (refusal_is seat)) rows in
          subst Empty (sym ((read_back seat rs at second octets output_room).alone (some (heard seat).refusal is))) is
