-- What is known before the search, by the number of routes and of words lent; and back. Assumes nothing.
use Rattle.std.specs.Prelude.{Option}
use Prim.Native.Nat.{ℕ, ◌≤◌, ◌<◌}
use mathlib.Core.Path.{◌≡◌, refl, sym, ap, subst, subst⁻¹, ◌∙◌}
use mathlib.Core.Bool.{Bool, true, false}
use mathlib.Core.List.{List}
use lib.ListN.{length}
use lib.Dec.{eqb, ltb}
use borrow.Author.Tests.{lt-ltb, le-ltb, ltb-true, ltb-false, eqb-true, eqb-false}
use Rattle.state.specs.Seen.{Board, State, seated}
use Rattle.state.specs.Layout.{board_words, mission_words, decode_board, decode}
use Rattle.lent_state.proofs.Calls.{both_held_told, no_board_told, no_mission_told}
use Rattle.replies.specs.Reply.{no_answer}
use Rattle.replies.specs.Replied.{answering_of, replied_to, Made, Goes}
use Rattle.replies.specs.declared.Answering.{Answering}
use Rattle.replies.specs.declared.sending.Replied.{Replied}
use Rattle.verdict.specs.declared.Way.{Way}
use Rattle.replies.proofs.Made.{made_holds}
use Rattle.replies.proofs.Goes.{goes_holds}
use Rattle.answering.specs.Split.{answering_in, Following}

module _ (b w : List ℕ) (port : ℕ) (octets : List ℕ) (room : ℕ) where
  abbrev answered_by : Board → State → Answering
  answered_by x s = answering_of (seated x s) s.number x.drop port octets room

  pub asked_long : {a : Answering} (count : ℕ) → 512 < count → a ≡ no_answer 21 → a ≡ answering_in b w count port octets room
  unfolding answering_in
  asked_long count h e = simp (lt-ltb 512 count h) e

  pub asked_no_board : {a : Answering} (count : ℕ) → count ≤ 512 → (length b ≡ board_words → ⊥) → a ≡ no_answer 16 → a ≡ answering_in b w count port octets room
  unfolding answering_in
  asked_no_board count h wrong e = simp (le-ltb 512 count h) (e ∙ no_board_told b w wrong answered_by (no_answer 16))

  pub asked_no_mission : {a : Answering} (count : ℕ) → count ≤ 512 → (length w ≡ mission_words → ⊥) → a ≡ no_answer 16
      → a ≡ answering_in b w count port octets room
  unfolding answering_in
  asked_no_mission count h wrong e = simp (le-ltb 512 count h) (e ∙ no_mission_told b w wrong answered_by (no_answer 16))

  pub asked_right : {a : Answering} (count : ℕ) → count ≤ 512 → length b ≡ board_words → length w ≡ mission_words
      → a ≡ answering_of (seated (decode_board b) (decode w)) (decode w).number (decode_board b).drop port octets room
      → a ≡ answering_in b w count port octets room
  unfolding answering_in
  asked_right count h eb ew e = simp (le-ltb 512 count h) (both_held_told b w eb ew answered_by (no_answer 16) e)

-- ---- and back: where a reply is made, the words are of the right number, and the octets were judged
module _ (b w octets : List ℕ) (room : ℕ) (a : Answering) where
  abbrev Judged : Type 0
  Judged = (length b ≡ board_words) × ((length w ≡ mission_words)
      × ((port : ℕ) × (a ≡ answering_of (seated (decode_board b) (decode w)) (decode w).number (decode_board b).drop port octets room)))

  module _ (f : Following b w octets room a) (made : a.made ≡ 0 → ⊥) where
    not_so : (n : ℕ) → no_answer n ≡ answering_in b w f.count f.port octets room → Judged
    not_so n e = absurd (made (ap (λ (x : Answering). x.made) (f.asked ∙ sym e)))

    by_mission : ltb 512 f.count ≡ false → length b ≡ board_words → (t : Bool) → eqb (length w) mission_words ≡ t → Judged
    by_mission k eb true e =
        let ew = eqb-true (length w) mission_words e in
        (eb, (ew, (f.port, f.asked ∙ sym (asked_right b w f.port octets room f.count (ltb-false 512 f.count k) eb ew refl))))
    by_mission k eb false e =
        not_so 16 (asked_no_mission b w f.port octets room f.count (ltb-false 512 f.count k) (eqb-false (length w) mission_words e) refl)

    by_board : ltb 512 f.count ≡ false → (t : Bool) → eqb (length b) board_words ≡ t → Judged
    by_board k true e = by_mission k (eqb-true (length b) board_words e) (eqb (length w) mission_words) refl
    by_board k false e =
        not_so 16 (asked_no_board b w f.port octets room f.count (ltb-false 512 f.count k) (eqb-false (length b) board_words e) refl)

    by_count : (t : Bool) → ltb 512 f.count ≡ t → Judged
    by_count true e = not_so 21 (asked_long b w f.port octets room f.count (ltb-true 512 f.count e) refl)
    by_count false e = by_board e (eqb (length b) board_words) refl

    pub was_judged : Judged
    was_judged = by_count (ltb 512 f.count) refl

-- so the numbers of its header are within their bits; and where a port takes it, it fits the room
pub is_made_lem : (b w octets : List ℕ) (room : ℕ) (a : Answering) → Following b w octets room a → (a.made ≡ 0 → ⊥) → Made a
is_made_lem b w octets room a f made =
    let j = was_judged b w octets room a f made in
    let is = j.1.1.1 in
    subst⁻¹ Made is
    (made_holds (seated (decode_board b) (decode w)) (decode w).number (decode_board b).drop j.1.1.0 octets room
    (subst (λ (x : Answering). x.made ≡ 0 → ⊥) is made))

pub would_go : (b w octets output : List ℕ) (a : Answering) → Following b w octets (length output) a → (a.made ≡ 0 → ⊥)
    → (way : Option Way) (e : Replied) → e ≡ replied_to (seated (decode_board b) (decode w)) a way (length output) → (e.ruling.took ≡ 0 → ⊥) → Goes a e octets output
would_go b w octets output a f made way e is took =
    let j = was_judged b w octets (length output) a f made in
    let r = seated (decode_board b) (decode w) in
    let here = j.1.1.1 in
    let ended = is ∙ ap (λ (x : Answering). replied_to r x way (length output)) here in
    subst⁻¹ (λ (x : Answering). Goes x e octets output) here
    (subst⁻¹ (λ (y : Replied). Goes (answering_of r (decode w).number (decode_board b).drop j.1.1.0 octets (length output)) y octets output) ended
    (goes_holds r (decode w).number (decode_board b).drop j.1.1.0 octets (length output) way
    (subst (λ (y : Replied). y.ruling.took ≡ 0 → ⊥) ended took) output refl))
