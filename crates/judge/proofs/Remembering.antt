-- What is remembered, by what is known before the search, is what the definition of the whole says. Assumes nothing.
use native.Mathlib.Omega.{arith}
use Prim.Native.Nat.{ℕ}
use mathlib.Core.Path.{◌≡◌, refl, sym, ap, ◌∙◌}
use mathlib.Core.Bool.{Bool, true, false}
use mathlib.Core.List.{List, [], ◌∷◌}
use lib.Dec.{eqb}
use borrow.Author.Tests.{ne_eqb, eqb-true, eqb-false}
use Rattle.checks.specs.Order.{pick, Checks, first_of}
use Rattle.checks.proofs.Bools.{true_false}
use Rattle.checks.proofs.Laws.{zero_none}
use Rattle.header.specs.Onward.{found_of, Found}
use Rattle.header.specs.Read.{read_of, read_checks, header_of}
use Rattle.header.specs.declared.Header.{Header}
use Rattle.header.specs.declared.Renewal.{Renewal}
use Rattle.checks.specs.Told.{Good, Refused}
use Rattle.header.proofs.FoundLaws.{found_good, found_refused}
use Rattle.header.proofs.Refusals.{never_zero}
use Rattle.meaning.specs.Names.{aim_of, bad_aim}
use Rattle.meaning.specs.Flood.{pair_of}
use Rattle.meaning.specs.Arrival.{arrival_checks}
use Rattle.meaning.specs.declared.Aim.{Aim}
use Rattle.meaning.specs.declared.Aim.TheVariants as aim
use Rattle.state.specs.Relay.{Memory, put_last, Relay}
use Rattle.verdict.specs.declared.Flood.TheVariants.{Plain}
use Rattle.verdict.specs.declared.Target.TheVariants as target
use Rattle.floods.specs.Memory.{remembering, InPlaces}
use Rattle.floods.proofs.Placed.{flood_in_places}
use Rattle.judge.specs.Ruling.{target_asked, flood_for}
use Rattle.judge.specs.Ending.{call_checks, arrival_at}
use Rattle.judge.specs.Asked.{refused_asked, else_asked, node_asked, path_asked, aim_asked, carried_asked, octets_asked, datagram_asked}
use Rattle.judge.specs.Remembered.{header_memory, octets_memory, memory_of, is_unheard, remembered_by}
use Rattle.judge.specs.declared.ruling.Arrival.{Arrival}
use Rattle.judge.specs.declared.Asked.{Asked}

-- ---- the numbers of a list of checks
-- every number of the list, and 0, passes the test
abbrev AllOf : (ℕ → Bool) → Bool → Checks → Type 0
AllOf test is [] = Unit {0}
AllOf test is (c ∷ cs) = (test c.1 ≡ is) × AllOf test is cs

first_of_lem : (test : ℕ → Bool) (is : Bool) (cs : Checks) → AllOf test is cs → (first_of cs ≡ 0 → ⊥) → test (first_of cs) ≡ is
unfolding first_of
first_of_lem test is [] all some = absurd (some refl)
first_of_lem test is (c ∷ cs) all some = by_first c.0 (λ z. first_of_lem test is cs all.1 z) some
  where
    by_first : (t : Bool) → ((first_of cs ≡ 0 → ⊥) → test (first_of cs) ≡ is) → (pick t c.1 (first_of cs) ≡ 0 → ⊥) → test (pick t c.1 (first_of cs)) ≡ is
    by_first true rest z = all.0
    by_first false rest z = rest z

-- ---- what is remembered
-- of a refusal
refused_kept : (second : ℕ) (k : Memory) (n : ℕ) (is : Bool) → (n ≡ 0 → ⊥) → is_unheard n ≡ is → remembered_by second (refused_asked n) k ≡ pick is k (put_last k second)
unfolding remembered_by
refused_kept second k n is some e = rw (ne_eqb n 0 some, e)

-- the reader's numbers are none of these
read_heard : (s : List ℕ) (n : ℕ) → read_of s ≡ Refused n → is_unheard n ≡ false
unfolding read_of read_checks
read_heard s n e = by_number (eqb (first_of (read_checks s)) 0) refl e
  where
    by_number : (t : Bool) → eqb (first_of (read_checks s)) 0 ≡ t → pick t (Good (header_of s)) (Refused (first_of (read_checks s))) ≡ Refused n
        → is_unheard n ≡ false
    by_number true z is = true_false cc
    by_number false z is =
        let same : first_of (read_checks s) ≡ n = cc in
        ap is_unheard (sym same)
        ∙ first_of_lem is_unheard false (read_checks s) (refl, (refl, (refl, (refl, (refl, (refl, tt)))))) (eqb-false (first_of (read_checks s)) 0 z)

module _ (r : Relay) (number second : ℕ) where
  abbrev by : Asked → Memory
  by a = remembered_by second a r.memory

  module _ (at : Arrival) (h : Header) (n : Renewal) where
    aim_kept : (x : Aim) → bad_aim x ≡ false
        → by (aim_asked r number at h n x) ≡ remembering (flood_for r at x h) (pair_of at.address.0 h.fields) second r.memory
    unfolding remembered_by aim_asked node_asked path_asked
    aim_kept (aim.Node a) g = refl
    aim_kept (aim.Path p) g = refl
    aim_kept aim.Uncarried g = true_false g

    header_kept : by (carried_asked r number at h n) ≡ header_memory r at second h
    unfolding carried_asked header_memory remembering
    header_kept = by_number (eqb (first_of cs) 0) refl
      where
        cs : Checks
        cs = arrival_checks at.address h.fields

        x : Aim
        x = aim_of at.address.0 h.fields.addresses

        by_number : (t : Bool) → eqb (first_of cs) 0 ≡ t
            → by (pick t (aim_asked r number at h n x) (refused_asked (first_of cs)))
            ≡ remembering (pick t (flood_for r at x h) Plain) (pair_of at.address.0 h.fields) second r.memory
        by_number true e =
            let none = zero_none cs ((λ z. omega arith), ((λ z. omega arith), ((λ z. omega arith), ((λ z. omega arith), ((λ z. omega arith), tt))))) (eqb-true (first_of cs) 0 e) in
            aim_kept x none.1.1.0
        by_number false e =
            let some = eqb-false (first_of cs) 0 e in
            refused_kept second r.memory (first_of cs) false some (first_of_lem is_unheard false cs (refl, (refl, (refl, (refl, (refl, tt))))) some)

  octets_kept : (at : Arrival) (s : List ℕ) (x : Found) → found_of s ≡ x → by (octets_asked r number at x) ≡ octets_memory r at second (read_of s)
  octets_kept at s (Good (h, n)) e = rw (found_good s h n e).0 (header_kept at h n)
  octets_kept at s (Refused n) e =
      rw (found_refused s n e)
      (refused_kept second r.memory n false (λ z. never_zero s (found_refused s n e ∙ ap Refused z)) (read_heard s n (found_refused s n e)))

  -- by what was asked, what the definition of the whole says
  pub remembered_is : (port : ℕ) (octets : List ℕ) (room : ℕ) → by (datagram_asked r number port second octets room) ≡ memory_of r port second octets room
  unfolding datagram_asked memory_of call_checks
  remembered_is port octets room = by_number (eqb (first_of cs) 0) refl
    where
      cs : Checks
      cs = call_checks r port second room

      by_number : (t : Bool) → eqb (first_of cs) 0 ≡ t
          → by (pick t (octets_asked r number (arrival_at r port) (found_of octets)) (refused_asked (first_of cs)))
          ≡ pick t (octets_memory r (arrival_at r port) second (read_of octets)) r.memory
      by_number true e = octets_kept (arrival_at r port) octets (found_of octets) refl
      by_number false e =
          let some = eqb-false (first_of cs) 0 e in
          refused_kept second r.memory (first_of cs) true some (first_of_lem is_unheard true cs (refl, (refl, (refl, tt))) some)

-- ---- a place that a pair is kept in is one of the 64
module _ (r : Relay) (number : ℕ) where
  else_placed : (n : ℕ) (a : Asked) → InPlaces a.case.flood → InPlaces (else_asked n a).case.flood
  else_placed n a h = by_number (eqb n 0)
    where
      by_number : (t : Bool) → InPlaces (pick t a (refused_asked n)).case.flood
      by_number true = h
      by_number false = tt

  aim_placed : (at : Arrival) (h : Header) (n : Renewal) (x : Aim) → InPlaces (aim_asked r number at h n x).case.flood
  unfolding aim_asked node_asked path_asked
  aim_placed at h n (aim.Node a) = flood_in_places r.router (target_asked r a) r.memory at.address.0 h.fields
  aim_placed at h n (aim.Path p) = flood_in_places r.router target.Path r.memory at.address.0 h.fields
  aim_placed at h n aim.Uncarried = tt

  found_placed : (at : Arrival) (x : Found) → InPlaces (octets_asked r number at x).case.flood
  unfolding carried_asked
  found_placed at (Good (h, n)) =
      else_placed (first_of (arrival_checks at.address h.fields)) (aim_asked r number at h n (aim_of at.address.0 h.fields.addresses))
      (aim_placed at h n (aim_of at.address.0 h.fields.addresses))
  found_placed at (Refused n) = tt

  pub asked_placed : (port second : ℕ) (octets : List ℕ) (room : ℕ) → InPlaces (datagram_asked r number port second octets room).case.flood
  unfolding datagram_asked
  asked_placed port second octets room =
      else_placed (first_of (call_checks r port second room)) (octets_asked r number (arrival_at r port) (found_of octets)) (found_placed (arrival_at r port) (found_of octets))
