-- Where nothing refuses, the output has room, the octets hold a header, and it is handed on: what the headers that go out are made of. Assumes nothing.
use native.Mathlib.Omega.{arith}
use Prim.Native.Nat.{ℕ, ◌≤◌, ◌<◌}
use mathlib.Core.Path.{◌≡◌, refl, sym, ap, ◌∙◌}
use mathlib.Core.Bool.{Bool, true, false}
use mathlib.Core.List.{List}
use lib.ListN.{get_or, length}
use lib.Dec.{eqb}
use borrow.Author.Tests.{eqb-true, eqb-false, ltb-false}
use Rattle.checks.specs.Order.{pick, first_of}
use Rattle.checks.proofs.Laws.{zero_none}
use Rattle.header.specs.Form.{places_of}
use Rattle.header.specs.Read.{header_of, read_of}
use Rattle.header.specs.Onward.{renewal_of, found_of, Found}
use Rattle.header.specs.declared.Header.{Header}
use Rattle.checks.specs.Told.{Good, Refused}
use Rattle.header.specs.declared.Renewal.{Renewal}
use Rattle.header.proofs.Answers.{read_in_range, read_bounds}
use Rattle.header.proofs.FoundLaws.{found_good, found_refused}
use Rattle.header.proofs.Passed.{passed}
use Rattle.header.proofs.Refusals.{never_zero}
use Rattle.meaning.specs.Names.{aim_of}
use Rattle.meaning.specs.Arrival.{arrival_checks}
use Rattle.meaning.specs.declared.Aim.{Aim}
use Rattle.meaning.specs.declared.Aim.TheVariants as aim
use Rattle.next_leg.specs.Leg.{Sound}
use Rattle.state.specs.Relay.{Relay}
use Rattle.judge.specs.declared.ruling.Arrival.{Arrival}
use Rattle.judge.specs.declared.Asked.{Asked}
use Rattle.judge.specs.Ending.{output_room, call_checks, arrival_at}
use Rattle.judge.specs.Asked.{refused_asked, else_asked, node_asked, path_asked, aim_asked, carried_asked, octets_asked, datagram_asked}

-- what is handed on from the reader: the header, and where it differs when it is sent on
abbrev HandsOn : Asked → Header → Renewal → Type 0
HandsOn a h c = (a.header ≡ h) × (a.renewal ≡ c)

-- where nothing refuses
module _ (h : Header) (c : Renewal) where
  aim_hands : (r : Relay) (number : ℕ) (at : Arrival) (x : Aim) → (aim_asked r number at h c x).refusal ≡ 0 → HandsOn (aim_asked r number at h c x) h c
  unfolding aim_asked node_asked path_asked
  aim_hands r number at (aim.Node a) k = (refl, refl)
  aim_hands r number at (aim.Path p) k = (refl, refl)
  aim_hands r number at aim.Uncarried k = absurd (omega (arith, k))

  else_hands : (n : ℕ) (a : Asked) → (a.refusal ≡ 0 → HandsOn a h c) → (else_asked n a).refusal ≡ 0 → HandsOn (else_asked n a) h c
  else_hands n a f k = by_number (eqb n 0) refl k
    where
      by_number : (t : Bool) → eqb n 0 ≡ t → (pick t a (refused_asked n)).refusal ≡ 0 → HandsOn (pick t a (refused_asked n)) h c
      by_number true e j = f j
      by_number false e j = absurd (eqb-false n 0 e j)

  carried_hands : (r : Relay) (number : ℕ) (at : Arrival) → (carried_asked r number at h c).refusal ≡ 0 → HandsOn (carried_asked r number at h c) h c
  unfolding carried_asked
  carried_hands r number at k =
      let x = aim_of at.address.0 h.fields.addresses in
      else_hands (first_of (arrival_checks at.address h.fields)) (aim_asked r number at h c x) (aim_hands r number at x) k

-- the octets were read, and what was found is handed on
pub record WasRead (s : List ℕ) (a : Asked) : Type 0 where
  pub read : read_of s ≡ Good a.header
  pub is : a.header ≡ header_of s
  pub inside : (places_of s).size ≤ length s
  pub renewal : a.renewal ≡ renewal_of s

pub octets_read : (r : Relay) (number : ℕ) (at : Arrival) (s : List ℕ) (x : Found) → found_of s ≡ x → (octets_asked r number at x).refusal ≡ 0
    → WasRead s (octets_asked r number at x)
octets_read r number at s (Good (h, c)) e k =
    let g = found_good s h c e in
    let p = passed s h g.0 in
    let on = carried_hands h c r number at k in
    record {
      read = g.0 ∙ ap Good (sym on.0);
      is = on.0 ∙ p.is;
      inside = omega (arith, p.fits, p.inside);
      renewal = on.1 ∙ g.1;
    }
octets_read r number at s (Refused n) e k = absurd (never_zero s (found_refused s n e ∙ ap Refused k))

-- nothing refuses: there is room, and the octets were read
pub asked_good : (r : Relay) (number port second : ℕ) (octets : List ℕ) (room : ℕ) → (datagram_asked r number port second octets room).refusal ≡ 0
    → (output_room ≤ room) × WasRead octets (datagram_asked r number port second octets room)
unfolding datagram_asked call_checks
asked_good r number port second octets room k = by_number (eqb n 0) refl k
  where
    n : ℕ
    n = first_of (call_checks r port second room)

    a : Asked
    a = octets_asked r number (arrival_at r port) (found_of octets)

    by_number : (t : Bool) → eqb n 0 ≡ t → (pick t a (refused_asked n)).refusal ≡ 0 → (output_room ≤ room) × WasRead octets (pick t a (refused_asked n))
    by_number true e j =
        let none = zero_none (call_checks r port second room) ((λ z. omega arith), ((λ z. omega arith), ((λ z. omega arith), tt))) (eqb-true n 0 e) in
        (ltb-false room output_room none.1.0, octets_read r number (arrival_at r port) octets (found_of octets) refl j)
    by_number false e j = absurd (eqb-false n 0 e j)

-- what was read is as the reader leaves a header
pub was_sound : (s : List ℕ) (a : Asked) → ((i : ℕ) → get_or s i 0 < 256) → WasRead s a → Sound a.header
was_sound s a small w =
    let b = read_bounds s a.header small w.read in
    let r = read_in_range s a.header small w.read in
    record { fits = b.1.1.0; short = b.1.1.1.1; tpid = r.tpid; checksum = r.checksum; intermediate = r.intermediate }
