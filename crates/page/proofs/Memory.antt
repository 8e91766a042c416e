-- What is remembered is the page's: for any relay, port, second, octets and room, receiving leaves the memory that specs/Memory.antt says. Assumes nothing.
use Prim.Native.Nat.{ℕ, ◌<◌}
use mathlib.Core.Path.{◌≡◌, refl, sym, ap, ◌∙◌}
use mathlib.Core.Bool.{Bool, true, false, not, ◌&&◌, ◌||◌}
use mathlib.Core.List.{List}
use lib.Dec.{eqb}
use lib.ListN.{set}
use borrow.Author.Tests.{eqb-true}
use Rattle.checks.specs.Order.{pick, first_of}
use Rattle.checks.proofs.Bools.{true_false}
use Rattle.header.specs.Read.{header_of, read_checks, read_of}
use Rattle.header.specs.declared.Header.{Header}
use Rattle.checks.specs.Told.{Good, Refused}
use Rattle.meaning.specs.Names.{bad_aim}
use Rattle.meaning.specs.Flood.{is_flooded, pair_of}
use Rattle.meaning.specs.Arrival.{arrival_checks}
use Rattle.meaning.specs.declared.Aim.{Aim}
use Rattle.meaning.specs.declared.Aim.TheVariants.{Node, Path, Uncarried}
use Rattle.records.specs.declared.Pair.{Pair}
use Rattle.routes.specs.Search.{longer_mask}
use Rattle.state.specs.Relay.{Memory, put_last, Relay, port_in}
use Rattle.verdict.specs.declared.Flood.{Flood}
use Rattle.verdict.specs.declared.Flood.TheVariants.{Plain, Unsent}
use Rattle.floods.specs.Memory.{unless_here, kept, remembering}
use Rattle.judge.specs.Ruling.{flood_for}
use Rattle.judge.specs.Ending.{call_checks, arrival_at}
use Rattle.judge.specs.Remembered.{header_memory, octets_memory, memory_of}
use Rattle.page.specs.Table.{aim_at, step_rows, equals_port, is_limited, broadcast_of_ours, is_multicast, is_host, flooded_with, pair_held, some_free}
use Rattle.page.specs.Memory.{no_second, is_kept, lowest_free, page_memory}
use Rattle.page.proofs.Pairs.{pairs_say}
use Rattle.page.proofs.Halves.{by_tests_lem, flood_node, path_plain}
use Rattle.page.proofs.Rows.{every_check}
use Rattle.page.proofs.Verdict.{steps_are, arrival_inside, aim_carried, flooded_named, flag_small, masks_choose}

-- a memory with the second, and with the pair at this place where it is kept
abbrev keeping : Bool → ℕ → Pair → ℕ → Memory → Memory
keeping keep place q second k = record { last = second; pairs = pick keep (set k.pairs place (record { pair = q; second = second })) k.pairs }

-- what is for this node looks no pair up
unless_case : (own ours limited multicast : Bool) (say : Flood) → unless_here (by_tests_lem own ours limited multicast) say ≡ pick (own || limited) Unsent say
unless_case true ours limited multicast say = refl
unless_case false true true multicast say = refl
unless_case false false true multicast say = refl
unless_case false true false true say = refl
unless_case false true false false say = refl
unless_case false false false true say = refl
unless_case false false false false say = refl

kept_case : (flooded host own pair free : Bool) (place : ℕ) (q : Pair) (second : ℕ) (k : Memory)
    → kept (pick (flooded && not host) (pick own Unsent (pairs_say pair free place)) Plain) q second (put_last k second)
    ≡ keeping ((flooded && (not host && not own)) && (not pair && free)) place q second k
kept_case false host own pair free place q second k = refl
kept_case true true own pair free place q second k = refl
kept_case true false true pair free place q second k = refl
kept_case true false false true free place q second k = refl
kept_case true false false false true place q second k = refl
kept_case true false false false false place q second k = refl

module _ (r : Relay) (at second : ℕ) (octets : List ℕ) (room : ℕ) where
  abbrev h : Header
  h = header_of octets

  abbrev x : Aim
  x = aim_at r at octets

  abbrev pair : Pair
  pair = pair_of (port_in r at).address.0 h.fields

  -- ---- where no step refuses
  module _ (inside : at < 8) where
    by_aim : (y : Aim) → bad_aim y ≡ false → flooded_with y h.fields true ≡ (is_flooded h.fields && true)
        → kept (flood_for r (arrival_at r at) y h) pair second (put_last r.memory second)
        ≡ keeping (is_kept r at y h.fields) (lowest_free r) pair second r.memory
    by_aim (Node a) good named =
        let own = equals_port r (Node a) in
        let say = pairs_say (pair_held r at h.fields) (some_free r) (lowest_free r) in
        ap (λ (f : Flood). kept f pair second (put_last r.memory second))
        (flood_node longer_mask r (masks_choose r) at inside h (flag_small r at second octets room) a
        ∙ ap (λ (f : Flood). pick (is_flooded h.fields && not (is_host r)) f Plain) (unless_case own (broadcast_of_ours r (Node a)) (is_limited a) (is_multicast a) say))
        ∙ kept_case (is_flooded h.fields) (is_host r) (own || is_limited a) (pair_held r at h.fields) (some_free r) (lowest_free r) pair second r.memory
    by_aim (Path y) good named =
        ap (λ (f : Flood). kept f pair second (put_last r.memory second))
        (path_plain longer_mask r (masks_choose r) at inside h (flag_small r at second octets room) y)
        ∙ plain (is_flooded h.fields) named
      where
        plain : (t : Bool) → false ≡ (t && true)
            → put_last r.memory second
            ≡ keeping ((t && (not (is_host r) && not (equals_port r (Path y) || false))) && (not (pair_held r at h.fields) && some_free r)) (lowest_free r) pair second r.memory
        plain true e = true_false (sym e)
        plain false e = refl
    by_aim Uncarried good named = true_false good

  judged_memory : first_of (step_rows r at second octets room) ≡ 0
      → kept (flood_for r (arrival_at r at) x h) pair second (put_last r.memory second)
      ≡ keeping (is_kept r at x h.fields) (lowest_free r) pair second r.memory
  judged_memory e = by_aim (arrival_inside r at second octets room e) x (aim_carried r at second octets room e) (flooded_named r at second octets room e true)

  -- ---- by the numbers of step 1, of the reader and of the steps behind it
  abbrev c : ℕ
  c = first_of (call_checks r at second room)

  abbrev m : ℕ
  m = first_of (read_checks octets)

  abbrev k : ℕ
  k = first_of (arrival_checks (port_in r at).address h.fields)

  call_unheard : (eqb c 0 || no_second c) ≡ true
  unfolding call_checks
  call_unheard = every_check (λ (n : ℕ). (eqb n 0 || no_second n) ≡ true) (call_checks r at second room) (refl, (refl, (refl, tt))) refl

  read_heard : no_second m ≡ false
  unfolding read_checks
  read_heard = every_check (λ (n : ℕ). no_second n ≡ false) (read_checks octets) (refl, (refl, (refl, (refl, (refl, (refl, tt)))))) refl

  arrival_heard : no_second k ≡ false
  arrival_heard =
      every_check (λ (n : ℕ). no_second n ≡ false) (arrival_checks (port_in r at).address h.fields) (refl, (refl, (refl, (refl, (refl, tt))))) refl

  abbrev flood : Flood
  flood = flood_for r (arrival_at r at) x h

  abbrev heard : Bool → Memory
  heard u = remembering (pick u flood Plain) pair second r.memory

  read_is : octets_memory r (arrival_at r at) second (read_of octets) ≡ pick (eqb m 0) (heard (eqb k 0)) (put_last r.memory second)
  unfolding read_of header_memory
  read_is = by (eqb m 0)
    where
      by : (t : Bool) → octets_memory r (arrival_at r at) second (pick t (Good h) (Refused m)) ≡ pick t (heard (eqb k 0)) (put_last r.memory second)
      by true = refl
      by false = refl

  abbrev paged : ℕ → Memory
  paged n = pick (no_second n) r.memory (keeping (eqb n 0 && is_kept r at x h.fields) (lowest_free r) pair second r.memory)

  paged_heard : (n : ℕ) → no_second n ≡ false → (t : Bool) → eqb n 0 ≡ t → paged n ≡ keeping (t && is_kept r at x h.fields) (lowest_free r) pair second r.memory
  paged_heard n heard t e =
      ap (λ (u : Bool). pick u r.memory (keeping (eqb n 0 && is_kept r at x h.fields) (lowest_free r) pair second r.memory)) heard
      ∙ ap (λ (u : Bool). keeping (u && is_kept r at x h.fields) (lowest_free r) pair second r.memory) e

  paged_unheard : (n : ℕ) → no_second n ≡ true → paged n ≡ r.memory
  paged_unheard n unheard = ap (λ (u : Bool). pick u r.memory (keeping (eqb n 0 && is_kept r at x h.fields) (lowest_free r) pair second r.memory)) unheard

  by_numbers : (s t u : Bool) → eqb c 0 ≡ s → eqb m 0 ≡ t → eqb k 0 ≡ u → first_of (step_rows r at second octets room) ≡ pick s (pick t k m) c
      → pick s (pick t (heard u) (put_last r.memory second)) r.memory ≡ paged (pick s (pick t k m) c)
  unfolding remembering
  by_numbers true true true es et eu is = judged_memory (is ∙ eqb-true k 0 eu) ∙ sym (paged_heard k arrival_heard true eu)
  by_numbers true true false es et eu is = sym (paged_heard k arrival_heard false eu)
  by_numbers true false u es et eu is = sym (paged_heard m read_heard false et)
  by_numbers false t u es et eu is = sym (paged_unheard c (ap (λ (b : Bool). b || no_second c) (sym es) ∙ call_unheard))

  -- What is remembered is what the page says.
  pub memory_is_the_page : memory_of r at second octets room ≡ page_memory r at second octets room
  unfolding memory_of page_memory
  memory_is_the_page =
      ap (λ (y : Memory). pick (eqb c 0) y r.memory) read_is
      ∙ by_numbers (eqb c 0) (eqb m 0) (eqb k 0) refl refl refl (steps_are r at second octets room)
      ∙ sym (ap paged (steps_are r at second octets room))
