-- How a datagram ends, and what is remembered then: by 21 where the list lent with it is too long, else as page 01's relay gives it, which the mission
-- sees with that list (page 02, W-208 and W-207). Assumes nothing.
use native.Mathlib.Omega.{arith}
use Prim.Native.Nat.{ℕ}
use mathlib.Core.Path.{◌≡◌, refl, sym, ap, ◌∙◌}
use mathlib.Core.Bool.{Bool, true, false, ◌||◌}
use mathlib.Core.List.{List}
use lib.Dec.{eqb}
use borrow.Author.Tests.{eqb-true, eqb-false}
use Rattle.checks.specs.Order.{pick, Checks, first_of, NoneHolds}
use Rattle.checks.proofs.Laws.{either, zero_none, first_number}
use Rattle.header.specs.Read.{read_checks, read_of, Read}
use Rattle.header.specs.declared.Header.{Header}
use Rattle.checks.specs.Told.{Good, Refused}
use Rattle.header.proofs.Refusals.{read_refused, never_zero}
use Rattle.meaning.specs.Arrival.{arrival_checks}
use Rattle.meaning.specs.Flood.{pair_of}
use Rattle.meaning.specs.Names.{aim_of}
use Rattle.routes.specs.declared.Record.{Record}
use Rattle.state.specs.Relay.{Memory, put_last, Relay}
use Rattle.lent_state.specs.View.{too_long}
use Rattle.verdict.specs.declared.Flood.TheVariants.{Plain}
use Rattle.floods.specs.Memory.{remembering}
use Rattle.floods.specs.Sweep.{is_past}
use Rattle.judge.specs.Ruling.{flood_for}
use Rattle.judge.specs.Ending.{refused_by, or_else, call_checks, ruled_ending, header_ending, octets_ending, arrival_at, ending_of}
use Rattle.judge.specs.Remembered.{header_memory, octets_memory, memory_of, is_unheard}
use Rattle.judge.specs.declared.ruling.Arrival.{Arrival}
use Rattle.judge.specs.declared.Ending.{Ending}
use Rattle.page.proofs.Rows.{every_check}
use Rattle.relay.specs.Received.{heard_ending, heard_memory}
use Rattle.history.specs.Seat.{Seat, relay_with, heard_by, memory_by}

module _ (seat : Seat) (rs : List Record) (port second : ℕ) (octets : List ℕ) (room : ℕ) where
  -- which of the two it is
  pub heard_is : (t : Bool) → too_long rs ≡ t
      → heard_by seat rs port second octets room ≡ pick t (refused_by 21) (ending_of (relay_with seat rs) port second octets room)
  unfolding heard_ending
  heard_is true long = rw long
  heard_is false short = rw short

  -- what holds of both holds of the ending
  pub heard_so : (P : Ending → Type 0) → P (refused_by 21) → P (ending_of (relay_with seat rs) port second octets room)
      → P (heard_by seat rs port second octets room)
  heard_so P long short = rw (heard_is (too_long rs) refl) (either P (too_long rs) long short)

-- ---- which numbers accept no second
-- the reader's are none of 21, 16, 17 and 29
read_heard : (s : List ℕ) (n : ℕ) → read_of s ≡ Refused n → is_unheard n ≡ false
unfolding read_checks
read_heard s n e =
    let is = first_number (read_checks s) n ((read_refused s n (λ z. never_zero s (e ∙ ap Refused z))).0 e) in
    ap is_unheard (sym is) ∙ every_check (λ (m : ℕ). is_unheard m ≡ false) (read_checks s) (refl, (refl, (refl, (refl, (refl, (refl, tt)))))) refl

-- ---- the ending and what is remembered, together. What holds where the second is not accepted, of every refusal after it, and of every header that is
-- read and good, holds of the hearing.
module _ (seat : Seat) (rs : List Record) (port second : ℕ) (octets : List ℕ) (P : Ending → Memory → Type 0) where
  abbrev r : Relay
  r = relay_with seat rs

  abbrev at : Arrival
  at = arrival_at r port

  -- the header is good, and the pairs are asked of it
  abbrev pub Ruled : Type 0
  Ruled = is_past seat.memory second ≡ false → (h : Header) → read_of octets ≡ Good h → NoneHolds (arrival_checks at.address h.fields)
      → P (ruled_ending r at h)
      (remembering (flood_for r at (aim_of at.address.0 h.fields.addresses) h) (pair_of at.address.0 h.fields) second seat.memory)

  module _ (unheard : (n : ℕ) → is_unheard n ≡ true → P (refused_by n) seat.memory)
      (refused : is_past seat.memory second ≡ false → (n : ℕ) → (n ≡ 0 → ⊥) → is_unheard n ≡ false → P (refused_by n) (put_last seat.memory second))
      (ruled : Ruled) where
    module _ (now : is_past seat.memory second ≡ false) where
      by_header : (h : Header) → read_of octets ≡ Good h → P (header_ending r at h) (header_memory r at second h)
      unfolding header_ending header_memory remembering
      by_header h is = by_number (eqb (first_of cs) 0) refl
        where
          cs : Checks
          cs = arrival_checks at.address h.fields

          by_number : (t : Bool) → eqb (first_of cs) 0 ≡ t
              → P (pick t (ruled_ending r at h) (refused_by (first_of cs)))
              (remembering (pick t (flood_for r at (aim_of at.address.0 h.fields.addresses) h) Plain) (pair_of at.address.0 h.fields) second seat.memory)
          by_number true e =
              ruled now h is
              (zero_none cs ((λ z. omega arith), ((λ z. omega arith), ((λ z. omega arith), ((λ z. omega arith), ((λ z. omega arith), tt))))) (eqb-true (first_of cs) 0 e))
          by_number false e =
              refused now (first_of cs) (eqb-false (first_of cs) 0 e)
              (every_check (λ (n : ℕ). is_unheard n ≡ false) cs (refl, (refl, (refl, (refl, (refl, tt))))) refl)

      by_read : (x : Read) → read_of octets ≡ x → P (octets_ending r at x) (octets_memory r at second x)
      by_read (Good h) is = by_header h is
      by_read (Refused n) is = refused now n (λ z. never_zero octets (is ∙ ap Refused z)) (read_heard octets n is)

    by_call : (room : ℕ) → P (ending_of r port second octets room) (memory_of r port second octets room)
    unfolding ending_of memory_of call_checks
    by_call room = by_number (eqb (first_of cs) 0) refl
      where
        cs : Checks
        cs = call_checks r port second room

        by_number : (t : Bool) → eqb (first_of cs) 0 ≡ t
            → P (pick t (octets_ending r at (read_of octets)) (refused_by (first_of cs))) (pick t (octets_memory r at second (read_of octets)) seat.memory)
        by_number true e =
            let none = zero_none cs ((λ z. omega arith), ((λ z. omega arith), ((λ z. omega arith), tt))) (eqb-true (first_of cs) 0 e) in
            by_read none.1.1.0 (read_of octets) refl
        by_number false e =
            unheard (first_of cs)
            (ap (λ (b : Bool). b || is_unheard (first_of cs)) (sym e)
            ∙ every_check (λ (n : ℕ). (eqb n 0 || is_unheard n) ≡ true) cs (refl, (refl, (refl, tt))) refl)

    pub hearing_so : (room : ℕ) → P (heard_by seat rs port second octets room) (memory_by seat rs port second octets room)
    unfolding heard_ending heard_memory
    hearing_so room = by-long (too_long rs)
      where
        by-long : (t : Bool) → P (or_else (pick t 21 0) (ending_of r port second octets room)) (pick t seat.memory (memory_of r port second octets room))
        by-long true = unheard 21 refl
        by-long false = by_call room
