-- When each number is given: exactly where the condition of a row that says it holds, and none before it. First for all rows of a table at
-- once, then number by number in the page's words. Assumes nothing.
use native.Mathlib.Omega.{arith}
use Prim.Native.Nat.{ℕ, ◌*◌, ◌<◌, ◌≤◌}
use mathlib.Core.Path.{◌≡◌, refl, sym, ap, subst, ◌∙◌}
use mathlib.Core.Logic.{◌↔◌, ◌≢◌, ◌⊎◌, inl, inr, ⊎_elim}
use mathlib.Core.Bool.{Bool, true, false, not, ◌&&◌, ◌||◌}
use mathlib.Core.List.{List, [], ◌∷◌}
use lib.Dec.{eqb, ltb}
use lib.ListN.{take, drop}
use borrow.Author.Tests.{eqb-true, eqb-false, eq-eqb, ne_eqb, ltb-true, ltb-false, lt-ltb, le-ltb}
use Rattle.checks.specs.Order.{pick, Checks, first_of, NoneHolds, FirstHolds}
use Rattle.checks.proofs.Bools.{true_false, not-false, and_true, or_true}
use Rattle.checks.proofs.Laws.{either, number_first, first_number}
use Rattle.refusals.proofs.Chains.{decided}
use Rattle.sets.specs.Limits.{port_count}
use Rattle.sets.specs.Sets.{in_set}
use Rattle.address.specs.declared.Address.{Address}
use Rattle.header.specs.Limits.{longest_header}
use Rattle.header.specs.Build.{source_flag, format_of}
use Rattle.header.specs.Read.{header_of}
use Rattle.header.specs.declared.Header.{Header}
use Rattle.meaning.specs.Asked.{is_assigned}
use Rattle.meaning.specs.Flood.{is_flooded, unmarked}
use Rattle.meaning.specs.Names.{aim_of}
use Rattle.meaning.specs.declared.Aim.{Aim}
use Rattle.meaning.specs.declared.Aim.TheVariants.{Node}
use Rattle.routes.specs.Routes.{candidate}
use Rattle.routes.specs.Search.{longer_mask}
use Rattle.routes.specs.declared.Route.{Route}
use Rattle.state.specs.Relay.{Relay, port_in, route_in, port_set_up}
use Rattle.verdict.specs.Numbers.{local_number, onward_number}
use Rattle.judge.specs.Ending.{ending_of}
use Rattle.judge.specs.declared.Ending.{Ending}
use Rattle.page.specs.Table.{Ports, first_row, Decides, GivenBy, step_rows, destination_is, equals_port, is_limited, broadcast_of_ours, is_multicast, is_ours, local_rows, local_half, some_matches, best_port, best_code, Line, not_asked, refused, wanted, is_host, onward_rows, onward_line, has_room, copy_rows, line_number, GivesNumber, line_grants, line_code, Verdict, judged, refused_with, verdict_by}
use Rattle.page.specs.Ends.{Agrees, Chooses}
use Rattle.page.proofs.Best.{no_match}
use Rattle.page.proofs.Rows.{row_decides, every_row, every_check, only_row}
use Rattle.page.proofs.Verdict.{ends, masks_choose, steps_numbers}

-- ---- a line's number
-- a number of the rows on copies, or none
abbrev pub is_copied : ℕ → Bool
is_copied n = eqb n 0 || (eqb n 10 || (eqb n 13 || (eqb n 14 || (eqb n 15 || eqb n 1))))

module _ (r : Relay) (at : ℕ) (h : Header) (ports : Ports) (code : ℕ) where
  -- the last row of copies always holds
  pub never_zero : first_of (copy_rows r at h ports code) ≡ 0 → ⊥
  unfolding copy_rows
  never_zero e = true_false ((decided (copy_rows r at h ports code) refl).0.0 e).1.1.1.1.0

  copies_say : (n : ℕ) → (first_of (copy_rows r at h ports code) ≡ n) ↔ FirstHolds (copy_rows r at h ports code) n
  copies_say n = (λ e. number_first (copy_rows r at h ports code) n (λ z. never_zero (e ∙ z)) e, first_number (copy_rows r at h ports code) n)

  -- copies give 10, 13, 14, 15 and 1 alone
  pub copies_known : is_copied (first_of (copy_rows r at h ports code)) ≡ true
  unfolding copy_rows
  copies_known = every_check (λ (m : ℕ). is_copied m ≡ true) (copy_rows r at h ports code) (refl, (refl, (refl, (refl, (refl, tt))))) refl

  pub copies_not : (n : ℕ) → is_copied n ≡ false → first_of (copy_rows r at h ports code) ≢ n
  copies_not n other e = true_false (sym copies_known ∙ ap is_copied e ∙ other)

gives_is : (r : Relay) (at : ℕ) (h : Header) (n : ℕ) (line : Line) → (line_number r at h line ≡ n) ↔ GivesNumber r at h n line
gives_is r at h n not_asked = (λ e. e, λ e. e)
gives_is r at h n (refused m) = (λ e. e, λ e. e)
gives_is r at h n (wanted ports code) = copies_say r at h ports code n

-- ---- the local half, by whether it is ours and its TP-ID is assigned
abbrev half : Bool → Bool → ℕ
half ours assigned = first_of ((ours && not assigned, 26) ∷ (ours, 1) ∷ [])

half_one : (o t : Bool) → (half o t ≡ 1) ↔ ((o ≡ true) × (t ≡ true))
unfolding first_of
half_one true true = (λ e. (refl, refl), λ h. refl)
half_one true false = (λ e. absurd (omega arith), λ h. true_false (sym h.1))
half_one false t = (λ e. absurd (omega arith), λ h. true_false (sym h.0))

half_unknown : (o t : Bool) → (half o t ≡ 26) ↔ ((o ≡ true) × (t ≡ false))
unfolding first_of
half_unknown true true = (λ e. absurd (omega arith), λ h. true_false h.1)
half_unknown true false = (λ e. (refl, refl), λ h. refl)
half_unknown false t = (λ e. absurd (omega arith), λ h. true_false (sym h.0))

half_none : (o t : Bool) → not (eqb (half o t) 0) ≡ o
unfolding first_of
half_none true true = refl
half_none true false = refl
half_none false t = refl

-- a number that is another's is given where that is
by_number : {m k n : ℕ} {D : Type 0} → m ≡ k → (k ≡ n) ↔ D → (m ≡ n) ↔ D
by_number e d = (λ f. d.0 (sym e ∙ f), λ f. e ∙ d.1 f)

-- 28's test
unmarked_is : (flooded : Bool) (source format : ℕ)
    → ((flooded && (eqb source 0 || eqb format 0)) ≡ true) ↔ ((flooded ≡ true) × ((source ≡ 0) ⊎ (format ≡ 0)))
unmarked_is flooded source format = (
  λ e. (let both = and_true flooded (eqb source 0 || eqb format 0) e in
      (both.0, ⊎_elim (λ u. inl (eqb-true source 0 u)) (λ u. inr (eqb-true format 0 u)) (or_true (eqb source 0) (eqb format 0) both.1))),
  λ d. rw d.0 (⊎_elim (λ (u : source ≡ 0). rw (eq-eqb source 0 u)) (λ (u : format ≡ 0). rw (eq-eqb format 0 u) (either_true (eqb source 0))) d.1),
)
  where
    either_true : (t : Bool) → (t || true) ≡ true
    either_true true = refl
    either_true false = refl

-- ---- the whole call
module _ (r : Relay) (at second : ℕ) (octets : List ℕ) (room : ℕ) where
  abbrev rows : Checks
  rows = step_rows r at second octets room

  abbrev h : Header
  h = header_of octets

  -- what the destination names
  abbrev x : Aim
  x = aim_of (port_in r at).address.0 h.fields.addresses

  abbrev ending : Ending
  ending = ending_of r at second octets room

  module _ (more : Route → Route → Bool) where
    abbrev verdict : Verdict
    verdict = verdict_by more r at second octets room

    refusal_is : verdict.refusal ≡ first_of rows
    unfolding verdict_by judged
    refusal_is = by (first_of rows) (eqb (first_of rows) 0) refl
      where
        by : (n : ℕ) (t : Bool) → eqb n 0 ≡ t → (pick t (judged more r at x h) (refused_with n)).refusal ≡ n
        by n true e = sym (eqb-true n 0 e)
        by n false e = refl

    judged_is : first_of rows ≡ 0 → verdict ≡ judged more r at x h
    unfolding verdict_by
    judged_is e = ap (λ (t : Bool). pick t (judged more r at x h) (refused_with (first_of rows))) (eq-eqb (first_of rows) 0 e)

    refused_is : first_of rows ≢ 0 → verdict ≡ refused_with (first_of rows)
    unfolding verdict_by
    refused_is n = ap (λ (t : Bool). pick t (judged more r at x h) (refused_with (first_of rows))) (ne_eqb (first_of rows) 0 n)

  pub refusal_number_lem : ending.refusal ≡ first_of rows
  refusal_number_lem = (ends longer_mask r (masks_choose r) at second octets room).refusal ∙ refusal_is longer_mask

  -- Steps 1 to 6: each number exactly where its row decides.
  pub refusal_exactly : GivenBy rows ending.refusal
  refusal_exactly = subst (GivenBy rows) (sym refusal_number_lem) (decided rows (steps_numbers r at second octets room))

  -- 29: the second is under the last accepted one, and neither 16 nor 17 stands before.
  pub past_exactly : (ending.refusal ≡ 29) ↔ (((port_set_up r at ≡ true) × (port_count * longest_header ≤ room)) × (second < r.memory.last))
  unfolding step_rows
  past_exactly = by_number refusal_number_lem (
    λ e. (let d = row.0 e in
        ((not-false (port_set_up r at) d.0.0, ltb-false room _ d.0.1.0), ltb-true second r.memory.last d.1)),
    λ d. row.1 ((ap not d.0.0, (le-ltb room _ d.0.1, tt)), lt-ltb second r.memory.last d.1),
  )
    where
      row : (first_of rows ≡ 29) ↔ (NoneHolds (take 2 rows) × (ltb second r.memory.last ≡ true))
      row = only_row (take 2 rows) (drop 3 rows) (ltb second r.memory.last) 29 (λ z. omega arith) refl refl

  -- 28: the datagram is flooded, it has no source or no timestamp, and no step before refuses.
  pub unmarked_exactly : (ending.refusal ≡ 28)
      ↔ (NoneHolds (take 12 rows)
      × ((is_flooded h.fields ≡ true) × ((source_flag h.fields.addresses ≡ 0) ⊎ (format_of h.fields.stamp ≡ 0))))
  unfolding step_rows
  unmarked_exactly = by_number refusal_number_lem (
    λ e. (let d = row.0 e in (d.0, (unmarked_is (is_flooded h.fields) _ _).0 d.1)),
    λ d. row.1 (d.0, (unmarked_is (is_flooded h.fields) _ _).1 d.1),
  )
    where
      row : (first_of rows ≡ 28) ↔ (NoneHolds (take 12 rows) × (unmarked h.fields ≡ true))
      row = only_row (take 12 rows) [] (unmarked h.fields) 28 (λ z. omega arith) refl refl

  -- no row holds exactly where their number is 0
  pub passed : (first_of rows ≡ 0) ↔ NoneHolds rows
  passed = (decided rows (steps_numbers r at second octets room)).0

  -- a half that has a number other than 0 was judged
  was_judged : (n m : ℕ) → n ≢ 0 → m ≡ n → (first_of rows ≢ 0 → m ≡ 0) → NoneHolds rows
  was_judged n m some e Refused-none = passed.0 (by (eqb (first_of rows) 0) refl)
    where
      by : (t : Bool) → eqb (first_of rows) 0 ≡ t → first_of rows ≡ 0
      by true z = eqb-true (first_of rows) 0 z
      by false z = absurd (some (sym e ∙ Refused-none (eqb-false (first_of rows) 0 z)))

  -- so what is so where no step refuses is so of any call
  in_any_call : {m n : ℕ} {D : Type 0} → n ≢ 0 → (first_of rows ≢ 0 → m ≡ 0) → (NoneHolds rows → (m ≡ n) ↔ D) → (m ≡ n) ↔ (NoneHolds rows × D)
  in_any_call {m} {n} some Refused-none is = (
    λ e. let none = was_judged n m some e Refused-none in (none, (is none).0 e),
    λ d. (is d.0).1 d.1,
  )

  -- ---- the local half
  abbrev local : ℕ
  local = local_number ending.ruling.local

  local_none : first_of rows ≢ 0 → local ≡ 0
  local_none n = (ends longer_mask r (masks_choose r) at second octets room).ruling.local ∙ ap (λ (v : Verdict). v.local) (refused_is longer_mask n)

  pub local_number_lem : NoneHolds rows → local ≡ local_half r at x h.fields
  unfolding judged
  local_number_lem none =
      (ends longer_mask r (masks_choose r) at second octets room).ruling.local ∙ ap (λ (v : Verdict). v.local) (judged_is longer_mask (passed.1 none))

  abbrev ours : Bool
  ours = is_ours r at x h.fields

  abbrev assigned : Bool
  assigned = is_assigned h.fields.tpid

  half_is : NoneHolds rows → local ≡ half ours assigned
  unfolding local_rows
  half_is none = local_number_lem none

  -- Where no step refuses, 26 and 1 exactly where their rows decide, and 0 exactly where neither does.
  pub local_exactly : NoneHolds rows → GivenBy (local_rows r at x h.fields) local
  unfolding local_rows
  local_exactly none = subst (GivenBy (local_rows r at x h.fields)) (sym (local_number_lem none)) (decided (local_rows r at x h.fields) refl)

  -- So of any call: 26 and 1 exactly where no step refuses and their rows decide.
  pub local_given : (n : ℕ) → n ≢ 0 → (local ≡ n) ↔ (NoneHolds rows × FirstHolds (local_rows r at x h.fields) n)
  local_given n some = in_any_call some local_none (λ none. (local_exactly none).1 n some)

  -- Delivered: it is ours, and its TP-ID is assigned.
  pub delivered_exactly : (local ≡ 1) ↔ (NoneHolds rows × ((ours ≡ true) × (assigned ≡ true)))
  delivered_exactly = in_any_call (λ z. omega arith) local_none (λ none. by_number (half_is none) (half_one ours assigned))

  -- 26: it is ours, and its TP-ID is not assigned.
  pub unknown_exactly : (local ≡ 26) ↔ (NoneHolds rows × ((ours ≡ true) × (assigned ≡ false)))
  unknown_exactly = in_any_call (λ z. omega arith) local_none (λ none. by_number (half_is none) (half_unknown ours assigned))

  -- ---- the onward half
  module _ (more : Route → Route → Bool) (chooses : Chooses more r) where
    abbrev onward : ℕ
    onward = onward_number ending.ruling.onward

    onward_none : first_of rows ≢ 0 → onward ≡ 0
    onward_none n = (ends more r chooses at second octets room).ruling.onward ∙ ap (λ (v : Verdict). v.onward) (refused_is more n)

    pub onward_number_lem : NoneHolds rows → onward ≡ line_number r at h (onward_line more r at x h.fields)
    unfolding judged
    onward_number_lem none =
        (ends more r chooses at second octets room).ruling.onward ∙ ap (λ (v : Verdict). v.onward) (judged_is more (passed.1 none))

    -- What the route asks of a header is what the line says.
    pub code_number : NoneHolds rows → (verdict more).code ≡ line_code (onward_line more r at x h.fields)
    unfolding judged
    code_number none = ap (λ (v : Verdict). v.code) (judged_is more (passed.1 none))

    -- a line of the table says n, and so decides
    abbrev pub LineGives : ℕ → Type 0
    LineGives n = Decides (GivesNumber r at h n) (onward_rows r at x h.fields) (wanted (best_port more r x) (best_code more r x))

    -- Where no step refuses, each number, 0 for not asked too, exactly where its line decides.
    pub onward_exactly : NoneHolds rows → (n : ℕ) → (onward ≡ n) ↔ LineGives n
    unfolding onward_line
    onward_exactly none n =
        let gives = gives_is r at h n (onward_line more r at x h.fields) in
        let decides = row_decides (GivesNumber r at h n) (onward_rows r at x h.fields) (wanted (best_port more r x) (best_code more r x)) in
        (λ e. decides.0 (gives.0 (sym (onward_number_lem none) ∙ e)), λ d. onward_number_lem none ∙ gives.1 (decides.1 d))

    -- So of any call: 9, 10, 11, 13, 14, 15, 30 and 1 exactly where no step refuses and their line decides.
    pub onward_given : (n : ℕ) → n ≢ 0 → (onward ≡ n) ↔ (NoneHolds rows × LineGives n)
    onward_given n some = in_any_call some onward_none (λ none. onward_exactly none n)

    -- ---- by the line that decides
    abbrev line : Line
    line = onward_line more r at x h.fields

    -- A line decides exactly where its row does.
    pub line_exactly : (l : Line) → (line ≡ l) ↔ Decides (λ k. k ≡ l) (onward_rows r at x h.fields) (wanted (best_port more r x) (best_code more r x))
    unfolding onward_line
    line_exactly l = row_decides (λ k. k ≡ l) (onward_rows r at x h.fields) (wanted (best_port more r x) (best_code more r x))

    -- the numbers that lines have themselves
    abbrev Known : Line → Type 0
    Known not_asked = Unit
    Known (refused m) = (m ≡ 9) ⊎ ((m ≡ 11) ⊎ (m ≡ 30))
    Known (wanted ports code) = Unit

    known : Known line
    unfolding onward_line
    known =
        every_row Known (onward_rows r at x h.fields) (wanted (best_port more r x) (best_code more r x))
        (tt, (tt, (inl refl, (tt, (thirty, (eleven, (tt, (tt, (tt, (tt, (eleven, (tt, (eleven, (tt, (tt, (eleven, tt)))))))))))))))) tt
      where
        eleven : Known (refused 11)
        eleven = inr (inl refl)

        thirty : Known (refused 30)
        thirty = inr (inr refl)

    not_asked_line : (l : Line) → Known l → (line_number r at h l ≡ 0) ↔ (l ≡ not_asked)
    not_asked_line l k = (there l k, λ e. ap (line_number r at h) e)
      where
        there : (k : Line) → Known k → line_number r at h k ≡ 0 → k ≡ not_asked
        there not_asked n e = refl
        there (refused m) n e =
            absurd (⊎_elim (λ (f : m ≡ 9). omega (arith, e, f)) (⊎_elim (λ (f : m ≡ 11). omega (arith, e, f)) (λ (f : m ≡ 30). omega (arith, e, f))) n)
        there (wanted ports code) n e = absurd (never_zero r at h ports code e)

    copies_line : (n : ℕ) → n ≢ 0 → n ≢ 9 → n ≢ 11 → n ≢ 30 → (l : Line) → Known l
        → (line_number r at h l ≡ n) ↔ ((ports : Ports) × (code : ℕ) × (l ≡ wanted ports code) × FirstHolds (copy_rows r at h ports code) n)
    copies_line n zero nine eleven thirty l k = (there l k, λ d. ap (line_number r at h) d.2 ∙ (copies_say r at h d.0 d.1 n).1 d.3)
      where
        there : (l : Line) → Known l → line_number r at h l ≡ n → (ports : Ports) × (code : ℕ) × (l ≡ wanted ports code) × FirstHolds (copy_rows r at h ports code) n
        there not_asked k e = absurd (zero (sym e))
        there (refused m) k e =
            absurd (⊎_elim (λ (f : m ≡ 9). nine (sym e ∙ f)) (⊎_elim (λ (f : m ≡ 11). eleven (sym e ∙ f)) (λ (f : m ≡ 30). thirty (sym e ∙ f))) k)
        there (wanted ports code) k e = (ports, code, refl, (copies_say r at h ports code n).0 e)

    -- a number that copies do not give is the line's own
    own_line : (n : ℕ) → is_copied n ≡ false → (l : Line) → (line_number r at h l ≡ n) ↔ (l ≡ refused n)
    own_line n other l = (there l, λ e. ap (line_number r at h) e)
      where
        there : (l : Line) → line_number r at h l ≡ n → l ≡ refused n
        there not_asked e = true_false (ap is_copied e ∙ other)
        there (refused m) e = ap refused e
        there (wanted ports code) e = absurd (copies_not r at h ports code n other e)

    -- Not asked, where no step refuses: such a line decides.
    pub not_asked_exactly : NoneHolds rows → (onward ≡ 0) ↔ (line ≡ not_asked)
    not_asked_exactly none = by_number (onward_number_lem none) (not_asked_line line known)

    -- 11: such a line decides.
    pub eleven_exactly : (onward ≡ 11) ↔ (NoneHolds rows × (line ≡ refused 11))
    eleven_exactly = in_any_call (λ z. omega arith) onward_none (λ none. by_number (onward_number_lem none) (own_line 11 refl line))

    -- 30: such a line decides.
    pub thirty_exactly : (onward ≡ 30) ↔ (NoneHolds rows × (line ≡ refused 30))
    thirty_exactly = in_any_call (λ z. omega arith) onward_none (λ none. by_number (onward_number_lem none) (own_line 30 refl line))

    -- 10, 13, 14, 15 and 1: ports are wanted, and the number's row on copies decides.
    pub wanted_exactly : (n : ℕ) → n ≢ 0 → n ≢ 9 → n ≢ 11 → n ≢ 30
        → (onward ≡ n) ↔ (NoneHolds rows × ((ports : Ports) × (code : ℕ) × (line ≡ wanted ports code) × FirstHolds (copy_rows r at h ports code) n))
    wanted_exactly n zero nine eleven thirty =
        in_any_call zero onward_none (λ none. by_number (onward_number_lem none) (copies_line n zero nine eleven thirty line known))

    -- ---- the copies
    module _ (p : ℕ) (inside : p < 8) where
      abbrev agrees : Agrees ending.ruling (verdict more)
      agrees = (ends more r chooses at second octets room).ruling

      granted_none : first_of rows ≢ 0 → in_set p ending.ruling.granted ≡ false
      granted_none n = agrees.granted p inside ∙ ap (λ (v : Verdict). v.granted p) (refused_is more n)

      pub granted_line : NoneHolds rows → in_set p ending.ruling.granted ≡ line_grants r at h line p
      unfolding judged
      granted_line none = agrees.granted p inside ∙ ap (λ (v : Verdict). v.granted p) (judged_is more (passed.1 none))

      -- A port is granted a copy exactly where no step refuses and the line that decides grants it one.
      pub granted_exactly : (in_set p ending.ruling.granted ≡ true) ↔ (NoneHolds rows × (line_grants r at h line p ≡ true))
      granted_exactly = (
        λ e. (let none = passed.0 (by e (eqb (first_of rows) 0) refl) in (none, sym (granted_line none) ∙ e)),
        λ d. granted_line d.0 ∙ d.1,
      )
        where
          by : in_set p ending.ruling.granted ≡ true → (t : Bool) → eqb (first_of rows) 0 ≡ t → first_of rows ≡ 0
          by e true z = eqb-true (first_of rows) 0 z
          by e false z = true_false (sym e ∙ granted_none (eqb-false (first_of rows) 0 z))

  module _ (p : ℕ) (inside : p < 8) where
    abbrev by_masks : Agrees ending.ruling (verdict longer_mask)
    by_masks = (ends longer_mask r (masks_choose r) at second octets room).ruling

    abbrev Shared : Verdict → Type 0
    Shared v = (v.took p ≡ (v.granted p && has_room r p)) × (v.dropped p ≡ (v.granted p && not (has_room r p)))

    shared : Shared (verdict longer_mask)
    unfolding verdict_by judged
    shared = either Shared (eqb (first_of rows) 0) (refl, refl) (refl, refl)

    -- A port takes the copy that it is granted where fewer than 32 wait, and else drops it.
    pub took_exactly : in_set p ending.ruling.took ≡ (in_set p ending.ruling.granted && has_room r p)
    took_exactly = by_masks.took p inside ∙ shared.0 ∙ ap (λ (t : Bool). t && has_room r p) (sym (by_masks.granted p inside))

    pub dropped_exactly : in_set p ending.ruling.dropped ≡ (in_set p ending.ruling.granted && not (has_room r p))
    dropped_exactly = by_masks.dropped p inside ∙ shared.1 ∙ ap (λ (t : Bool). t && not (has_room r p)) (sym (by_masks.granted p inside))

  -- ---- 9
  -- the rows below the host's give no 9
  abbrev below : List (Bool × Line)
  below = drop 3 (onward_rows r at x h.fields)

  abbrev routed : Line
  routed = wanted (best_port longer_mask r x) (best_code longer_mask r x)

  below_host : line_number r at h (first_row below routed) ≢ 9
  below_host =
      every_row (λ (line : Line). line_number r at h line ≢ 9) below routed
      (zero, (thirty, (eleven, (no _ 0, (zero, (no _ 0, (zero, (eleven, (no _ 0, (eleven, (zero, (no _ 0, (eleven, tt))))))))))))) (no _ _)
    where
      zero : ◌≢◌ {A = ℕ} 0 9
      zero z = omega arith

      eleven : ◌≢◌ {A = ℕ} 11 9
      eleven z = omega arith

      thirty : ◌≢◌ {A = ℕ} 30 9
      thirty z = omega arith

      no : (ports : Ports) (code : ℕ) → first_of (copy_rows r at h ports code) ≢ 9
      no ports code = copies_not r at h ports code 9 refl

  nine_case : (first host heard : Bool) (rest : Line) → line_number r at h rest ≢ 9 → (first ≡ true → heard ≡ true)
      → (line_number r at h (pick first not_asked (pick (host && heard) not_asked (pick host (refused 9) rest))) ≡ 9)
      ↔ ((host ≡ true) × (heard ≡ false))
  nine_case true host heard rest other is = (λ e. absurd (omega arith), λ d. true_false (sym (is refl) ∙ d.1))
  nine_case false true true rest other is = (λ e. absurd (omega arith), λ d. true_false d.1)
  nine_case false true false rest other is = (λ e. (refl, refl), λ d. refl)
  nine_case false false heard rest other is = (λ e. absurd (other e), λ d. true_false (sym d.0))

  first_ours : (equals_port r x || destination_is x is_limited) ≡ true → ours ≡ true
  unfolding is_ours
  first_ours e = rw e

  nine_line : (line_number r at h (onward_line longer_mask r at x h.fields) ≡ 9) ↔ ((is_host r ≡ true) × (ours ≡ false))
  unfolding onward_line local_rows
  nine_line =
      subst (λ (t : Bool). (line_number r at h (pick (equals_port r x || destination_is x is_limited) not_asked
      (pick (is_host r && t) not_asked (pick (is_host r) (refused 9)
      (first_row below routed)))) ≡ 9) ↔ ((is_host r ≡ true) × (ours ≡ false)))
      (sym (half_none ours assigned))
      (nine_case _ (is_host r) ours _ below_host first_ours)

  -- 9: a host, and the datagram is not ours.
  pub not_for_us_exactly : (onward_number ending.ruling.onward ≡ 9) ↔ (NoneHolds rows × ((is_host r ≡ true) × (ours ≡ false)))
  not_for_us_exactly =
      in_any_call (λ z. omega arith) (onward_none longer_mask (masks_choose r)) λ none.
      by_number (onward_number_lem longer_mask (masks_choose r) none) nine_line

  -- ---- 11, where the route line decides: a router, a datagram that is not flooded, and an address that is no port's, no broadcast of ours and no group's
  module _ (a : Address) (named : x ≡ Node a) (router : is_host r ≡ false) (not_flooded : is_flooded h.fields ≡ false) (first : (equals_port r (Node a) || is_limited a) ≡ false)
      (not_ours : broadcast_of_ours r (Node a) ≡ false) (no_group : is_multicast a ≡ false) where
    route_line_lem : onward_line longer_mask r at (Node a) h.fields
        ≡ pick (not (some_matches r (Node a))) (refused 11) (wanted (best_port longer_mask r (Node a)) (best_code longer_mask r (Node a)))
    unfolding onward_line
    route_line_lem = simp (first, router, not_flooded, not_ours, no_group)

    eleven_case : (some : Bool) (ports : Ports) (code : ℕ) → (line_number r at h (pick (not some) (refused 11) (wanted ports code)) ≡ 11) ↔ (some ≡ false)
    eleven_case true ports code = (λ e. absurd (copies_not r at h ports code 11 refl e), λ d. true_false d)
    eleven_case false ports code = (λ e. refl, λ d. refl)

    -- "'No route', 11, is said exactly when no up entry matches" (page 02, W-204).
    pub no_route_exactly : NoneHolds rows → (onward_number ending.ruling.onward ≡ 11) ↔ ((q : ℕ) → candidate (route_in r q) a ≡ false)
    no_route_exactly none =
        let is =
        onward_number_lem longer_mask (masks_choose r) none
        ∙ ap (λ (y : Aim). line_number r at h (onward_line longer_mask r at y h.fields)) named
        ∙ ap (line_number r at h) route_line_lem in
        let case = eleven_case (some_matches r (Node a)) (best_port longer_mask r (Node a)) (best_code longer_mask r (Node a)) in
        by_number is (λ e. (no_match r a).0 (case.0 e), λ d. case.1 ((no_match r a).1 d))
