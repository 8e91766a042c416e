-- A flooded datagram in the page's words (page 02, W-207): what becomes of one whose pair is held, of one for which no place is free, and of one that is new; 30
-- exactly when; and that the pairs change exactly with a new one. Of receiving, for any relay, and then of the tables. Assumes nothing.
use native.Mathlib.Omega.{arith}
use Prim.Native.Nat.{ℕ, ◌<◌}
use mathlib.Core.Path.{◌≡◌, refl, sym, ap, subst, ◌∙◌}
use mathlib.Core.Logic.{◌↔◌, ◌≢◌, inl, inr, ⊎_elim}
use mathlib.Core.Bool.{Bool, true, false, not, ◌&&◌, ◌||◌}
use mathlib.Core.List.{List}
use lib.Dec.{eqb}
use lib.ListN.{length, set, get_or, drop}
use lib.Seq.{get_or-set_same}
use borrow.Author.Tests.{eqb-true, eqb-false, eq-eqb, not-true}
use Rattle.checks.specs.Order.{pick, first_of, NoneHolds}
use Rattle.checks.proofs.Bools.{true_false, and_true, or_true, or_false, refuted}
use Rattle.checks.proofs.Laws.{none_zero}
use Rattle.sets.specs.Limits.{port_count, pair_places}
use Rattle.sets.specs.Sets.{in_set}
use Rattle.header.specs.Build.{source_flag, format_of}
use Rattle.header.specs.Read.{header_of}
use Rattle.header.specs.declared.Header.{Header}
use Rattle.meaning.specs.Flood.{is_flooded, pair_of}
use Rattle.meaning.specs.declared.Aim.{Aim}
use Rattle.records.specs.Fresh.{fresh_pair}
use Rattle.records.specs.Held.{is_free}
use Rattle.records.specs.declared.PairPlace.{PairPlace}
use Rattle.routes.specs.Search.{longer_mask}
use Rattle.routes.specs.declared.Route.{Route}
use Rattle.state.specs.Relay.{Memory, pair_at, Relay, port_set_up}
use Rattle.verdict.specs.Numbers.{onward_number}
use Rattle.judge.specs.Ending.{ending_of}
use Rattle.judge.specs.Remembered.{memory_of}
use Rattle.judge.specs.declared.Ending.{Ending}
use Rattle.page.specs.Table.{Ports, first_row, aim_at, some_port, step_rows, destination_is, equals_port, is_limited, local_half, best_port, best_code, Line, not_asked, refused, wanted, is_host, other_ports, flooded_with, pair_held, some_free, onward_rows, onward_line, copy_rows, line_number, line_grants, Verdict, verdict_by}
use Rattle.page.specs.Ends.{Agrees, Chooses}
use Rattle.page.specs.Memory.{no_second, is_kept, lowest_free, kept_place, page_memory}
use Rattle.page.specs.Sought.{FloodSought, FloodNew, FloodNumber}
use Rattle.page.proofs.Pairs.{first_where}
use Rattle.page.proofs.Rows.{every_row}
use Rattle.page.proofs.Verdict.{flooded_named, ends, masks_choose}
use Rattle.page.proofs.Memory.{memory_is_the_page}
use Rattle.page.proofs.Exactly.{is_copied, never_zero, copies_known, copies_not, refusal_number_lem, passed, onward_number_lem, thirty_exactly, granted_line}
use Rattle.page.proofs.Sought.{granted_passed}

-- ---- the numbers of a new flood: 11, or a copy's
number_is : (n : ℕ) → n ≢ 0 → is_copied n ≡ true → FloodNumber n
number_is n some copied =
    ⊎_elim (λ t. absurd (some (eqb-true n 0 t)))
    (λ e. ⊎_elim (λ t. inr (inl (eqb-true n 10 t)))
    (λ e. ⊎_elim (λ t. inr (inr (inr (inl (eqb-true n 13 t)))))
    (λ e. ⊎_elim (λ t. inr (inr (inr (inr (inl (eqb-true n 14 t))))))
    (λ e. ⊎_elim (λ t. inr (inr (inr (inr (inr (eqb-true n 15 t))))))
    (λ t. inl (eqb-true n 1 t)) (or_true _ _ e)) (or_true _ _ e)) (or_true _ _ e)) (or_true _ _ e)) (or_true _ _ copied)

module _ (r : Relay) (at second : ℕ) (octets : List ℕ) (room : ℕ) where
  abbrev h : Header
  h = header_of octets

  abbrev x : Aim
  x = aim_at r at octets

  abbrev ending : Ending
  ending = ending_of r at second octets room

  abbrev onward : ℕ
  onward = onward_number ending.ruling.onward

  abbrev flooded : Bool
  flooded = is_flooded h.fields

  abbrev held : Bool
  held = pair_held r at h.fields

  abbrev no_other : Bool
  no_other = not (some_port (other_ports r at))

  -- for this node, and delivered or 26
  abbrev own : Bool
  own = equals_port r x || destination_is x is_limited

  abbrev heard : Bool
  heard = not (eqb (local_half r at x h.fields) 0)

  -- ---- the line: the flood's rows, with their conditions in plain words
  abbrev flood_rows : (pair free none : Bool) → Line
  flood_rows pair free none = pick pair not_asked (pick (not free) (refused 30) (pick none (refused 11) (wanted (other_ports r at) 0)))

  abbrev rows_with : (first host heard a b c d : Bool) → Line → Line
  rows_with first host heard a b c d rest =
      pick first not_asked
      (pick (host && heard) not_asked
      (pick host (refused 9) (pick a not_asked (pick b (refused 30) (pick c (refused 11) (pick d (wanted (other_ports r at) 0) rest))))))

  abbrev all_rows : (first host heard flood pair free none : Bool) → Line → Line
  all_rows first host heard flood pair free none rest = rows_with first host heard (flood && pair) (flood && not free) (flood && none) (flood && true) rest

  -- the rows behind, which give no 30
  abbrev routed : Line
  routed = wanted (best_port longer_mask r x) (best_code longer_mask r x)

  abbrev behind : Line
  behind = first_row (drop 7 (onward_rows r at x h.fields)) routed

  behind_not : line_number r at h behind ≢ 30
  behind_not =
      every_row (λ (l : Line). line_number r at h l ≢ 30) (drop 7 (onward_rows r at x h.fields)) routed
      (zero, (no _ 0, (zero, (eleven, (no _ 0, (eleven, (zero, (no _ 0, (eleven, tt))))))))) (no _ _)
    where
      zero : ◌≢◌ {A = ℕ} 0 30
      zero z = omega arith

      eleven : ◌≢◌ {A = ℕ} 11 30
      eleven z = omega arith

      no : (ports : Ports) (code : ℕ) → first_of (copy_rows r at h ports code) ≢ 30
      no ports code = copies_not r at h ports code 30 refl

  line_is : NoneHolds (step_rows r at second octets room)
      → onward_line longer_mask r at x h.fields ≡ all_rows own (is_host r) heard flooded held (some_free r) no_other behind
  unfolding onward_line
  line_is none =
      let named = flooded_named r at second octets room (none_zero (step_rows r at second octets room) none) in
      let c = flooded_with x h.fields no_other in
      let d = flooded_with x h.fields true in
      ap (λ (t : Bool). rows_with own (is_host r) heard t (flooded_with x h.fields (not (some_free r))) c d behind) (named held)
      ∙ ap (λ (t : Bool). rows_with own (is_host r) heard (flooded && held) t c d behind) (named (not (some_free r)))
      ∙ ap (λ (t : Bool). rows_with own (is_host r) heard (flooded && held) (flooded && not (some_free r)) t d behind) (named no_other)
      ∙ ap (λ (t : Bool). rows_with own (is_host r) heard (flooded && held) (flooded && not (some_free r)) (flooded && no_other) t behind) (named true)

  sought_case : (first host heard flood pair free none : Bool) (rest : Line) → first ≡ false → host ≡ false → flood ≡ true
      → all_rows first host heard flood pair free none rest ≡ flood_rows pair free none
  sought_case true host heard flood pair free none rest e f g = true_false e
  sought_case false true heard flood pair free none rest e f g = true_false f
  sought_case false false heard false pair free none rest e f g = true_false (sym g)
  sought_case false false heard true pair free none rest e f g = refl

  sought_line : FloodSought r at second octets room → onward_line longer_mask r at x h.fields ≡ flood_rows held (some_free r) no_other
  sought_line s =
      line_is s.judged ∙ sought_case own (is_host r) heard flooded held (some_free r) no_other behind s.not_own s.router s.flooded

  -- A flood is sought where receiving refuses nothing: so said without the tables' rows.
  pub flood_sought : ending.refusal ≡ 0 → is_host r ≡ false → is_flooded (header_of octets).fields ≡ true
      → (equals_port r (aim_at r at octets) || destination_is (aim_at r at octets) is_limited) ≡ false → FloodSought r at second octets room
  flood_sought none router is other =
      record {
        judged = (passed r at second octets room).0 (sym (refusal_number_lem r at second octets room) ∙ none);
        router = router;
        flooded = is;
        not_own = other;
      }

  -- what a flood's line is, is what becomes of it
  by_line : FloodSought r at second octets room → (l : Line) → flood_rows held (some_free r) no_other ≡ l
      → (onward ≡ line_number r at h l) × ((p : ℕ) → p < 8 → in_set p ending.ruling.granted ≡ line_grants r at h l p)
  by_line s l is = (
    onward_number_lem r at second octets room longer_mask (masks_choose r) s.judged ∙ ap (line_number r at h) (sought_line s ∙ is),
    λ p inside.
        granted_line r at second octets room longer_mask (masks_choose r) p inside s.judged ∙ ap (λ (k : Line). line_grants r at h k p) (sought_line s ∙ is),
  )

  -- "not asked for a held pair": and nobody is granted a copy.
  pub flood_held : FloodSought r at second octets room → pair_held r at (header_of octets).fields ≡ true
      → (onward ≡ 0) × ((p : ℕ) → p < port_count → in_set p ending.ruling.granted ≡ false)
  flood_held s is = by_line s not_asked (ap (λ (t : Bool). flood_rows t (some_free r) no_other) is)

  -- "with all places held 30".
  pub flood_full : FloodSought r at second octets room → pair_held r at (header_of octets).fields ≡ false → some_free r ≡ false
      → (onward ≡ 30) × ((p : ℕ) → p < port_count → in_set p ending.ruling.granted ≡ false)
  flood_full s new none = by_line s (refused 30) (ap (λ (t : Bool). flood_rows t (some_free r) no_other) new ∙ ap (λ (t : Bool). flood_rows false t no_other) none)

  -- ---- a new one: "every other set-up port is wanted, 11 if none, and 10, 13, 14 and 15 apply"
  abbrev new_line_lem : Bool → Line
  new_line_lem none = pick none (refused 11) (wanted (other_ports r at) 0)

  new_line : FloodNew r at second octets room
      → (onward ≡ line_number r at h (new_line_lem no_other)) × ((p : ℕ) → p < 8 → in_set p ending.ruling.granted ≡ line_grants r at h (new_line_lem no_other) p)
  new_line n =
      by_line n.sought (new_line_lem no_other)
      (ap (λ (t : Bool). flood_rows t (some_free r) no_other) n.not_held ∙ ap (λ (t : Bool). flood_rows false t no_other) n.free)

  number_case : (none : Bool) → FloodNumber (line_number r at h (new_line_lem none))
  number_case true = inr (inr (inl refl))
  number_case false = number_is _ (never_zero r at h (other_ports r at) 0) (copies_known r at h (other_ports r at) 0)

  eleven_case : (none : Bool) → (line_number r at h (new_line_lem none) ≡ 11) ↔ (none ≡ true)
  eleven_case true = (λ e. refl, λ d. refl)
  eleven_case false = (λ e. absurd (copies_not r at h (other_ports r at) 0 11 refl e), λ d. true_false (sym d))

  others_case : (none : Bool) (p : ℕ) → line_grants r at h (new_line_lem none) p ≡ true → (p ≢ at) × (port_set_up r p ≡ true)
  others_case true p e = true_false (sym e)
  others_case false p e =
      let both = and_true (port_set_up r p) (not (eqb p at)) (granted_passed r at h p (other_ports r at) 0 e).0 in
      (eqb-false p at (not-true (eqb p at) both.1), both.0)

  -- Its number is one of these, and a port that is granted a copy is another one, and set up.
  pub flood_new : FloodNew r at second octets room
      → FloodNumber onward × ((p : ℕ) → p < port_count → in_set p ending.ruling.granted ≡ true → (p ≢ at) × (port_set_up r p ≡ true))
  flood_new n =
      let is = new_line n in
      (subst FloodNumber (sym is.0) (number_case no_other), λ p inside granted. others_case no_other p (sym (is.1 p inside) ∙ granted))

  -- 11 exactly where no other port is set up.
  pub flood_alone_exactly : FloodNew r at second octets room → (onward ≡ 11) ↔ (some_port (other_ports r at) ≡ false)
  flood_alone_exactly n =
      let is = (new_line n).0 in (
        λ e. not-true (some_port (other_ports r at)) ((eleven_case no_other).0 (sym is ∙ e)),
        λ d. is ∙ (eleven_case no_other).1 (ap not d),
      )

  -- ---- 30
  abbrev AllHeld : (first host flood pair free : Bool) → Type 0
  AllHeld first host flood pair free = ((first ≡ false) × ((host ≡ false) × (flood ≡ true))) × ((pair ≡ false) × (free ≡ false))

  thirty_case : (first host heard flood pair free none : Bool) (rest : Line) → line_number r at h rest ≢ 30
      → line_number r at h (all_rows first host heard flood pair free none rest) ≡ 30 → AllHeld first host flood pair free
  thirty_case true host heard flood pair free none rest other e = absurd (omega arith)
  thirty_case false true true flood pair free none rest other e = absurd (omega arith)
  thirty_case false true false flood pair free none rest other e = absurd (omega arith)
  thirty_case false false heard false pair free none rest other e = absurd (other e)
  thirty_case false false heard true true free none rest other e = absurd (omega arith)
  thirty_case false false heard true false false none rest other e = ((refl, (refl, refl)), (refl, refl))
  thirty_case false false heard true false true true rest other e = absurd (omega arith)
  thirty_case false false heard true false true false rest other e = absurd (copies_not r at h (other_ports r at) 0 30 refl e)

  -- 30: flooded on, its pair is not held, and no place is free.
  pub pairs_held_exactly : (onward ≡ 30)
      ↔ (FloodSought r at second octets room × ((pair_held r at (header_of octets).fields ≡ false) × (some_free r ≡ false)))
  pairs_held_exactly = (
    λ e. (let d = (thirty_exactly r at second octets room longer_mask (masks_choose r)).0 e in
        let all =
        thirty_case own (is_host r) heard flooded held (some_free r) no_other behind behind_not
        (ap (line_number r at h) (sym (line_is d.0) ∙ d.1)) in
        (record { judged = d.0; router = all.0.1.0; flooded = all.0.1.1; not_own = all.0.0 }, all.1)),
    λ d. (flood_full d.0 d.1.0 d.1.1).0,
  )

  -- ---- what is kept
  abbrev n : ℕ
  n = first_of (step_rows r at second octets room)

  abbrev keeps : Bool
  keeps = eqb n 0 && is_kept r at x h.fields

  abbrev new_pairs : List PairPlace
  new_pairs = set r.memory.pairs (lowest_free r) (kept_place r at second octets)

  abbrev remembered : Memory
  remembered = memory_of r at second octets room

  -- 16, 17 and 29 leave the memory as it was, and any other end accepts the second.
  pub unheard_same : no_second ending.refusal ≡ true → remembered ≡ r.memory
  unfolding page_memory
  unheard_same e =
      memory_is_the_page r at second octets room
      ∙ ap (λ (t : Bool). pick t r.memory (record { last = second; pairs = pick keeps new_pairs r.memory.pairs }))
      (ap no_second (sym (refusal_number_lem r at second octets room)) ∙ e)

  pub heard_last : no_second ending.refusal ≡ false → remembered.last ≡ second
  unfolding page_memory
  heard_last e =
      ap (λ (k : Memory). k.last) (memory_is_the_page r at second octets room)
      ∙ ap (λ (t : Bool). (pick t r.memory (record { last = second; pairs = pick keeps new_pairs r.memory.pairs })).last)
      (ap no_second (sym (refusal_number_lem r at second octets room)) ∙ e)

  pairs_are : remembered.pairs ≡ pick keeps new_pairs r.memory.pairs
  unfolding page_memory
  pairs_are = ap (λ (k : Memory). k.pairs) (memory_is_the_page r at second octets room) ∙ by (no_second n) refl (eqb n 0) refl
    where
      by : (t : Bool) → no_second n ≡ t → (u : Bool) → eqb n 0 ≡ u
          → (pick t r.memory (record { last = second; pairs = pick (u && is_kept r at x h.fields) new_pairs r.memory.pairs })).pairs
          ≡ pick (u && is_kept r at x h.fields) new_pairs r.memory.pairs
      by true e true z = true_false (sym e ∙ ap no_second (eqb-true n 0 z))
      by true e false z = refl
      by false e u z = refl

  keeps_case : (flood host own pair free : Bool) → ((flood && (not host && not own)) && (not pair && free)) ≡ true
      → ((own ≡ false) × ((host ≡ false) × (flood ≡ true))) × ((pair ≡ false) × (free ≡ true))
  keeps_case true false false false true e = ((refl, (refl, refl)), (refl, refl))
  keeps_case true false false false false e = true_false (sym e)
  keeps_case true false false true free e = true_false (sym e)
  keeps_case true false true pair free e = true_false (sym e)
  keeps_case true true own pair free e = true_false (sym e)
  keeps_case false host own pair free e = true_false (sym e)

  keeps_exactly : (keeps ≡ true) ↔ FloodNew r at second octets room
  keeps_exactly = (
    λ e. (let both = and_true (eqb n 0) (is_kept r at x h.fields) e in
        let all = keeps_case flooded (is_host r) own held (some_free r) both.1 in
        record {
          sought = record {
            judged = refusal_none.0 (eqb-true n 0 both.0);
            router = all.0.1.0;
            flooded = all.0.1.1;
            not_own = all.0.0;
          };
          not_held = all.1.0;
          free = all.1.1;
        }),
    λ d. (let s = d.sought in
        rw (eq-eqb n 0 (refusal_none.1 s.judged), s.flooded, s.router, s.not_own, d.not_held) d.free),
  )
    where
      refusal_none : (n ≡ 0) ↔ NoneHolds (step_rows r at second octets room)
      refusal_none = passed r at second octets room

  -- "else the pair is kept whatever follows": it stands in the lowest free place, with its second ..
  pub new_kept : FloodNew r at second octets room → remembered.pairs ≡ set r.memory.pairs (lowest_free r) (kept_place r at second octets)
  new_kept d = pairs_are ∙ ap (λ (t : Bool). pick t new_pairs r.memory.pairs) (keeps_exactly.1 d)

  -- .. and nothing is kept of any other.
  pub others_unkept : (FloodNew r at second octets room → ⊥) → remembered.pairs ≡ r.memory.pairs
  others_unkept old = pairs_are ∙ ap (λ (t : Bool). pick t new_pairs r.memory.pairs) (refuted keeps (λ e. old (keeps_exactly.0 e)))

  -- the place was free, and holds a pair now: 28 leaves no flood without a timestamp
  pub free_place_lem : some_free r ≡ true → (lowest_free r < pair_places) × (is_free (pair_at r.memory (lowest_free r)) ≡ true)
  unfolding some_free lowest_free
  free_place_lem e = first_where (λ (i : ℕ). is_free (pair_at r.memory i)) pair_places e

  pub kept_held : FloodSought r at second octets room → is_free (kept_place r at second octets) ≡ false
  unfolding step_rows pair_of
  kept_held s = (or_false (eqb (source_flag h.fields.addresses) 0) (eqb (format_of h.fields.stamp) 0) (dated flooded s.flooded s.judged.1.1.1.1.1.1.1.1.1.1.1.1.0)).1
    where
      dated : (flood : Bool) {t : Bool} → flood ≡ true → (flood && t) ≡ false → t ≡ false
      dated true e f = f
      dated false e f = true_false (sym e)

  -- So the pairs change exactly with a new one, where there are the 64 places.
  pub kept_exactly : length r.memory.pairs ≡ pair_places → (remembered.pairs ≢ r.memory.pairs) ↔ FloodNew r at second octets room
  kept_exactly all = (
    λ other. keeps_exactly.0 (by other keeps refl),
    λ d same.
        let place = free_place_lem d.free in
        let was : kept_place r at second octets ≡ pair_at r.memory (lowest_free r) =
        sym (get_or-set_same r.memory.pairs (lowest_free r) (kept_place r at second octets) fresh_pair (omega (arith, place.0, all)))
        ∙ ap (λ (l : List PairPlace). get_or l (lowest_free r) fresh_pair) (sym (new_kept d) ∙ same) in
        true_false (sym place.1 ∙ ap is_free (sym was) ∙ kept_held d.sought),
  )
    where
      by : remembered.pairs ≢ r.memory.pairs → (t : Bool) → keeps ≡ t → t ≡ true
      by other true e = refl
      by other false e = absurd (other (pairs_are ∙ ap (λ (t : Bool). pick t new_pairs r.memory.pairs) e))

  -- ---- the same of the tables
  module _ (more : Route → Route → Bool) (chooses : Chooses more r) where
    abbrev verdict : Verdict
    verdict = verdict_by more r at second octets room

    abbrev agrees : Agrees ending.ruling verdict
    agrees = (ends more r chooses at second octets room).ruling

    pub page_held : FloodSought r at second octets room → pair_held r at (header_of octets).fields ≡ true
        → (verdict.onward ≡ 0) × ((p : ℕ) → p < port_count → verdict.granted p ≡ false)
    page_held s is =
        let d = flood_held s is in
        (sym agrees.onward ∙ d.0, λ p inside. sym (agrees.granted p inside) ∙ d.1 p inside)

    pub page_full : FloodSought r at second octets room → pair_held r at (header_of octets).fields ≡ false → some_free r ≡ false
        → (verdict.onward ≡ 30) × ((p : ℕ) → p < port_count → verdict.granted p ≡ false)
    page_full s new none =
        let d = flood_full s new none in
        (sym agrees.onward ∙ d.0, λ p inside. sym (agrees.granted p inside) ∙ d.1 p inside)

    pub page_new : FloodNew r at second octets room
        → FloodNumber verdict.onward × ((p : ℕ) → p < port_count → verdict.granted p ≡ true → (p ≢ at) × (port_set_up r p ≡ true))
    page_new d =
        let is = flood_new d in
        (subst FloodNumber agrees.onward is.0, λ p inside granted. is.1 p inside (agrees.granted p inside ∙ granted))

  pub page_kept_exactly : length r.memory.pairs ≡ pair_places
      → ((page_memory r at second octets room).pairs ≢ r.memory.pairs) ↔ FloodNew r at second octets room
  page_kept_exactly all =
      subst (λ (k : Memory). (k.pairs ≢ r.memory.pairs) ↔ FloodNew r at second octets room) (memory_is_the_page r at second octets room) (kept_exactly all)
