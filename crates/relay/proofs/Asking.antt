-- What is asked, by the number of routes and of words lent; and back. Assumes nothing.
use native.Mathlib.Omega.{arith}
use Prim.Native.Nat.{ℕ, ◌≤◌, ◌<◌}
use mathlib.Core.Path.{◌≡◌, refl, sym, ap, subst⁻¹, ◌∙◌}
use mathlib.Core.Bool.{Bool, true, false}
use mathlib.Core.List.{List}
use lib.ListN.{length}
use lib.Dec.{eqb, ltb}
use borrow.Author.Tests.{lt-ltb, le-ltb, ltb-true, ltb-false, eqb-true, eqb-false}
use Rattle.state.specs.Seen.{Board, State, seated}
use Rattle.state.specs.Layout.{board_words, mission_words, decode_board, decode}
use Rattle.lent_state.proofs.Calls.{both_held_told, no_board_told, no_mission_told}
use Rattle.listing.specs.declared.Sought.{Sought}
use Rattle.listing.specs.declared.Query.{Query}
use Rattle.judge.specs.declared.Asked.{Asked}
use Rattle.judge.specs.Ending.{output_room}
use Rattle.judge.specs.Asked.{refused_asked, datagram_asked, searched_in, address_in}
use Rattle.judge.proofs.Took.{WasRead, asked_good}
use Rattle.judge.proofs.Remembering.{asked_placed}
use Rattle.floods.specs.Memory.{InPlaces}
use Rattle.relay.specs.Split.{asked_of, best_if, query_of, Following}

-- ---- what is asked
module _ (b w : List ℕ) (port second : ℕ) (octets : List ℕ) (room : ℕ) where
  abbrev judged_of : Board → State → Asked
  judged_of x s = datagram_asked (seated x s) s.number port second octets room

  pub asked_long : {a : Asked} (count : ℕ) → 512 < count → a ≡ refused_asked 21 → a ≡ asked_of b w count port second octets room
  unfolding asked_of
  asked_long count h e = simp (lt-ltb 512 count h) e

  pub asked_no_board : {a : Asked} (count : ℕ) → count ≤ 512 → (length b ≡ board_words → ⊥) → a ≡ refused_asked 16 → a ≡ asked_of b w count port second octets room
  unfolding asked_of
  asked_no_board count h wrong e = simp (le-ltb 512 count h) (e ∙ no_board_told b w wrong judged_of (refused_asked 16))

  pub asked_no_mission : {a : Asked} (count : ℕ) → count ≤ 512 → (length w ≡ mission_words → ⊥) → a ≡ refused_asked 16 → a ≡ asked_of b w count port second octets room
  unfolding asked_of
  asked_no_mission count h wrong e = simp (le-ltb 512 count h) (e ∙ no_mission_told b w wrong judged_of (refused_asked 16))

  pub asked_right : {a : Asked} (count : ℕ) → count ≤ 512 → length b ≡ board_words → length w ≡ mission_words
      → a ≡ datagram_asked (seated (decode_board b) (decode w)) (decode w).number port second octets room
      → a ≡ asked_of b w count port second octets room
  unfolding asked_of
  asked_right count h eb ew e = simp (le-ltb 512 count h) (both_held_told b w eb ew judged_of (refused_asked 16) e)

-- ---- and back: where neither 16 nor 21 refuses, the words are of the right number, and the datagram was judged
module _ (b w : List ℕ) (second : ℕ) (octets : List ℕ) (room : ℕ) (a : Asked) where
  abbrev Judged : Type 0
  Judged = (length b ≡ board_words) × ((length w ≡ mission_words)
      × ((port : ℕ) × (a ≡ datagram_asked (seated (decode_board b) (decode w)) (decode w).number port second octets room)))

  module _ (f : Following b w second octets room a) (n16 : a.refusal ≡ 16 → ⊥) (n21 : a.refusal ≡ 21 → ⊥) where
    by_mission : ltb 512 f.count ≡ false → length b ≡ board_words → (t : Bool) → eqb (length w) mission_words ≡ t → Judged
    by_mission k eb true e =
        let ew = eqb-true (length w) mission_words e in
        (eb, (ew, (f.port, f.asked ∙ sym (asked_right b w f.port second octets room f.count (ltb-false 512 f.count k) eb ew refl))))
    by_mission k eb false e =
        absurd (n16 (ap (λ (x : Asked). x.refusal) (f.asked
        ∙ sym (asked_no_mission b w f.port second octets room f.count (ltb-false 512 f.count k) (eqb-false (length w) mission_words e) refl))))

    by_board : ltb 512 f.count ≡ false → (t : Bool) → eqb (length b) board_words ≡ t → Judged
    by_board k true e = by_mission k (eqb-true (length b) board_words e) (eqb (length w) mission_words) refl
    by_board k false e =
        absurd (n16 (ap (λ (x : Asked). x.refusal) (f.asked
        ∙ sym (asked_no_board b w f.port second octets room f.count (ltb-false 512 f.count k) (eqb-false (length b) board_words e) refl))))

    by_count : (t : Bool) → ltb 512 f.count ≡ t → Judged
    by_count true e =
        absurd (n21 (ap (λ (x : Asked). x.refusal) (f.asked ∙ sym (asked_long b w f.port second octets room f.count (ltb-true 512 f.count e) refl))))
    by_count false e = by_board e (eqb (length b) board_words) refl

    pub was_judged : Judged
    was_judged = by_count (ltb 512 f.count) refl

-- nothing refused it
pub judged_good : (b w : List ℕ) (second : ℕ) (octets : List ℕ) (room : ℕ) (a : Asked) → Following b w second octets room a → a.refusal ≡ 0
    → Judged b w second octets room a
judged_good b w second octets room a f zero = was_judged b w second octets room a f (λ e. omega (arith, zero, e)) (λ e. omega (arith, zero, e))

-- there is room for the headers of all ports, and the octets were read
pub judged_read : (b w : List ℕ) (second : ℕ) (octets : List ℕ) (room : ℕ) (a : Asked) → Following b w second octets room a → a.refusal ≡ 0
    → (output_room ≤ room) × WasRead octets a
judged_read b w second octets room a f zero =
    let j = judged_good b w second octets room a f zero in
    let is = j.1.1.1 in
    subst⁻¹ (λ (x : Asked). (output_room ≤ room) × WasRead octets x) is
    (asked_good (seated (decode_board b) (decode w)) (decode w).number j.1.1.0 second octets room (sym (ap (λ (x : Asked). x.refusal) is) ∙ zero))

-- and a place that its pair is kept in is one of the 64
pub judged_placed : (b w : List ℕ) (second : ℕ) (octets : List ℕ) (room : ℕ) (a : Asked) → Following b w second octets room a → a.refusal ≡ 0
    → InPlaces a.case.flood
judged_placed b w second octets room a f zero =
    let j = judged_good b w second octets room a f zero in
    subst⁻¹ (λ (x : Asked). InPlaces x.case.flood) j.1.1.1
    (asked_placed (seated (decode_board b) (decode w)) (decode w).number j.1.1.0 second octets room)

-- ---- what is asked of the list of routes, where these are the answers of the three functions that are called for it
pub queried : (a : Asked) {searched : Bool} {s : Sought} {d : ℕ} → searched ≡ searched_in a → s ≡ best_if searched → d ≡ address_in a.destination
    → ◌≡◌ {A = Query} (record { refusal = a.refusal; sought = s; address = d; mask = 0; mission = a.number; own = a.ready }) (query_of a)
queried a {d = d} told e ed =
    ap (λ (x : Sought). record { refusal = a.refusal; sought = x; address = d; mask = 0; mission = a.number; own = a.ready }) (e ∙ ap best_if told)
    ∙ ap (λ (x : ℕ). record { refusal = a.refusal; sought = best_if (searched_in a); address = x; mask = 0; mission = a.number; own = a.ready }) ed
