-- The plan of a batch: the names of the ports, and how many items are heard. Assumes nothing.
use native.Mathlib.Omega.{arith}
use Prim.Native.Nat.{ℕ, ◌*◌, ◌≤◌, ◌<◌}
use mathlib.Core.Path.{◌≡◌, refl, sym, subst, ◌∙◌}
use mathlib.Core.Bool.{Bool, true, false, not}
use mathlib.Core.List.{List}
use lib.Dec.{eqb, ltb}
use lib.ListN.{length}
use borrow.Author.Tests.{eq-eqb, ne_eqb, lt-ltb, le-ltb, eqb-true, eqb-false, ltb-false, not-false}
use Rattle.checks.specs.Order.{pick, first_of, Numbered}
use Rattle.checks.proofs.Laws.{zero_none}
use Rattle.sets.specs.Limits.{route_places}
use Rattle.state.specs.Seen.{ports_seen}
use Rattle.state.specs.Layout.{board_words, decode_board, mission_words, decode}
use Rattle.survey.specs.Names.{no_names, NamesOf}
use Rattle.survey.specs.declared.names.Names.{Names}
use Rattle.survey.proofs.Naming.{unlooked}
use Rattle.judge.specs.Ending.{output_room}
use Rattle.relay.specs.Split.{Naming}
use Rattle.batch.specs.Items.{most_items, start_of, many_checks}
use Rattle.batch.specs.Many.{items_heard}
use Rattle.batch.specs.Turn.{NamesIn, NamesPlanned}

-- ---- the names of the ports that a mission of this number sees
pub named : (b w : List ℕ) (k : Names) {n : ℕ} → length b ≡ board_words → length w ≡ mission_words → n ≡ (decode w).number
    → NamesOf (ports_seen n (decode_board b)) k → NamesIn b w k
named b w k held here e h =
    record {
      right = λ x y. subst (λ (m : ℕ). NamesOf (ports_seen m (decode_board b)) k) e h;
      wrong_board = λ not. absurd (not held);
      wrong_mission = λ not. absurd (not here);
    }

-- none in words of the wrong number
pub none_on_board : (b w : List ℕ) (k : Names) → (length b ≡ board_words → ⊥) → k ≡ no_names → NamesIn b w k
none_on_board b w k not e = record { right = λ held here. absurd (not held); wrong_board = λ x. e; wrong_mission = λ x. e }

pub none_of_mission : (b w : List ℕ) (k : Names) → (length w ≡ mission_words → ⊥) → k ≡ no_names → NamesIn b w k
none_of_mission b w k not e = record { right = λ held here. absurd (not here); wrong_board = λ x. e; wrong_mission = λ x. e }

-- such names are what an item asks for, in whichever plan
pub naming : (b w : List ℕ) (refusal : ℕ) (k : Names) → NamesPlanned b w refusal k → Naming b w k
naming b w refusal k names = by_refusal (eqb refusal 0) refl
  where
    by_refusal : (t : Bool) → eqb refusal 0 ≡ t → Naming b w k
    by_refusal true is held here = λ looked. ((names.heard (eqb-true refusal 0 is)).right held here).1
    by_refusal false is held here = unlooked (ports_seen (decode w).number (decode_board b)) k (names.refused (eqb-false refusal 0 is))

-- ---- how many items are heard

-- none where the whole call is refused
pub none_heard : (refusal count : ℕ) → (refusal ≡ 0 → ⊥) → 0 ≡ items_heard refusal count
none_heard refusal count h = simp (ne_eqb refusal 0 h)

-- ---- what refuses the whole call, past the lists and the number of items
module _ (lengths : List ℕ) (routes ports slots seconds octets answers output : ℕ) (fit : routes ≤ route_places) (as_ports : ports ≡ length lengths)
    (as_slots : slots ≡ length lengths) (as_seconds : seconds ≡ length lengths) (as_answers : answers ≡ length lengths)
    (few : length lengths ≤ most_items) where
  abbrev passes : Bool
  passes = ltb octets (start_of lengths (length lengths))

  abbrev short : Bool
  short = ltb output (output_room * length lengths)

  past_lists : (n : ℕ) → n ≡ pick passes 27 (pick short 27 0) → n ≡ first_of (many_checks lengths routes ports slots seconds octets answers output)
  unfolding first_of
  past_lists n e =
      simp (
        le-ltb route_places routes fit,
        eq-eqb ports (length lengths) as_ports,
        eq-eqb slots (length lengths) as_slots,
        eq-eqb seconds (length lengths) as_seconds,
        eq-eqb answers (length lengths) as_answers,
        le-ltb most_items (length lengths) few,
      ) e

  module _ {t : Bool} (told : t ≡ passes) where
    pub sum_refused : t ≡ true → 27 ≡ first_of (many_checks lengths routes ports slots seconds octets answers output)
    sum_refused is = past_lists 27 (rw (sym told ∙ is))

    pub room_refused : t ≡ false → output < output_room * length lengths
        → 27 ≡ first_of (many_checks lengths routes ports slots seconds octets answers output)
    room_refused is less = past_lists 27 (rw (sym told ∙ is, lt-ltb output (output_room * length lengths) less))

    pub none_refused : t ≡ false → output_room * length lengths ≤ output
        → 0 ≡ first_of (many_checks lengths routes ports slots seconds octets answers output)
    none_refused is enough = past_lists 0 (rw (sym told ∙ is, le-ltb output (output_room * length lengths) enough))

-- ---- and where nothing refuses it
pub record Unrefused (lengths : List ℕ) (ports slots seconds octets answers output : ℕ) : Type 0 where
  pub as_ports : ports ≡ length lengths
  pub as_slots : slots ≡ length lengths
  pub as_seconds : seconds ≡ length lengths
  pub as_answers : answers ≡ length lengths
  pub inside : start_of lengths (length lengths) ≤ octets
  pub wide : output_room * length lengths ≤ output

pub unrefused : (lengths : List ℕ) (routes ports slots seconds octets answers output : ℕ)
    → first_of (many_checks lengths routes ports slots seconds octets answers output) ≡ 0 → Unrefused lengths ports slots seconds octets answers output
unrefused lengths routes ports slots seconds octets answers output e =
    let none = zero_none (many_checks lengths routes ports slots seconds octets answers output) numbered e in
    record {
      as_ports = same ports none.1.0;
      as_slots = same slots none.1.1.0;
      as_seconds = same seconds none.1.1.1.0;
      as_answers = same answers none.1.1.1.1.0;
      inside = ltb-false octets (start_of lengths (length lengths)) none.1.1.1.1.1.1.0;
      wide = ltb-false output (output_room * length lengths) none.1.1.1.1.1.1.1.0;
    }
  where
    numbered : Numbered (many_checks lengths routes ports slots seconds octets answers output)
    numbered = omega arith

    same : (n : ℕ) → not (eqb n (length lengths)) ≡ false → n ≡ length lengths
    same n h = eqb-true n (length lengths) (not-false (eqb n (length lengths)) h)

-- an item is heard only then, and then all are
pub some_heard : (i items refusal count : ℕ) → items ≡ items_heard refusal count → i < items → (refusal ≡ 0) × (items ≡ count)
some_heard i items refusal count e h = by_refusal (eqb refusal 0) refl e
  where
    by_refusal : (t : Bool) → eqb refusal 0 ≡ t → items ≡ pick t count 0 → (refusal ≡ 0) × (items ≡ count)
    by_refusal true z k = (eqb-true refusal 0 z, k)
    by_refusal false z k = absurd (omega (arith, h, k))
