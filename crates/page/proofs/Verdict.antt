-- The verdict is the page's: for any relay, port, second, octets and room, receiving ends as the tables say. Assumes nothing.
use native.Mathlib.Nat.{mod-lt, zero-lt-suc}
use Prim.Native.Nat.{ℕ, ◌/◌, ◌<◌}
use mathlib.Core.Path.{◌≡◌, refl, sym, ap, subst, ◌∙◌}
use mathlib.Core.Logic.{◌↔◌}
use mathlib.Core.Bool.{Bool, true, false, ◌&&◌, ◌||◌}
use mathlib.Core.List.{List, [], ◌∷◌, ◌++◌}
use lib.Dec.{eqb, ltb}
use borrow.Author.Tests.{eqb-true, eqb-false, ltb-true, lt-ltb}
use Rattle.checks.specs.Order.{pick, Checks, first_of}
use Rattle.checks.proofs.Bools.{true_false, not-false, and_true, or_false, refuted}
use Rattle.checks.proofs.Laws.{zero_none}
use Rattle.checks.proofs.Steps.{joined}
use Rattle.refusals.proofs.Chains.{are_numbers, numbered, others_decide, first_decides}
use Rattle.address.proofs.Masks.{form_ones, form_count, mask_order}
use Rattle.address.specs.declared.Address.{Address}
use Rattle.header.specs.Build.{source_flag, format_of}
use Rattle.header.specs.Form.{control_of}
use Rattle.header.specs.Read.{fields_of, header_of, read_checks, read_of}
use Rattle.header.specs.declared.Addresses.{Addresses}
use Rattle.header.specs.declared.Addresses.TheVariants.{BasicPath, ExtendedPath, BasicEndSystem, ExtendedEndSystem, Ipv6}
use Rattle.header.specs.declared.Header.{Header}
use Rattle.checks.specs.Told.{Good, Refused}
use Rattle.meaning.specs.Names.{aim_of, origin_of, not_carried, no_domain, bad_aim, bad_source}
use Rattle.meaning.specs.Flood.{is_flooded, unmarked}
use Rattle.meaning.specs.Arrival.{arrival_checks}
use Rattle.routes.specs.Routes.{route_at}
use Rattle.routes.specs.Search.{longer_mask}
use Rattle.routes.specs.declared.Route.{Route}
use Rattle.routes.proofs.Candidates.{candidate_is}
use Rattle.routes.proofs.Longest.{Contiguous}
use Rattle.state.specs.Relay.{Relay, port_in, among_ports, port_set_up}
use Rattle.verdict.specs.declared.Local.TheVariants.{No}
use Rattle.verdict.specs.declared.Onward.TheVariants.{NotAsked}
use Rattle.judge.specs.Ruling.{rule_of}
use Rattle.judge.specs.Ending.{refused_by, or_else, call_checks, ruled_ending, header_ending, octets_ending, arrival_at, ending_of}
use Rattle.judge.specs.declared.Ending.{Ending}
use Rattle.page.specs.Table.{step_rows, destination_is, more_ones, flooded_with, judged, refused_with, verdict_by, verdict_of}
use Rattle.page.specs.Ends.{Ends, Chooses}
use Rattle.page.proofs.Copies.{empty_agrees}
use Rattle.page.proofs.Halves.{aim_agrees}

-- ---- steps 1 to 6 are one list

-- one list behind another
behind : (xs ys : Checks) → are_numbers xs ≡ true → first_of (xs ++ ys) ≡ pick (eqb (first_of xs) 0) (first_of ys) (first_of xs)
behind xs ys numbers = by (eqb (first_of xs) 0) refl
  where
    by : (t : Bool) → eqb (first_of xs) 0 ≡ t → first_of (xs ++ ys) ≡ pick t (first_of ys) (first_of xs)
    by true e = others_decide xs ys (numbered xs numbers) (eqb-true (first_of xs) 0 e)
    by false e = first_decides xs ys (first_of xs) (eqb-false (first_of xs) 0 e) refl

-- a refusal of one list or of the next is one of both
chained : (n m k : ℕ) (e : Ending) (s t : Bool) → eqb n 0 ≡ s → eqb m 0 ≡ t
    → pick s (pick t (or_else k e) (refused_by m)) (refused_by n) ≡ or_else (pick s (pick t k m) n) e
chained n m k e true true hs ht = refl
chained n m k e true false hs ht = sym (rw ht)
chained n m k e false t hs ht = sym (rw hs)

-- what is flooded has a source, and so names an address
named_case : (port : ℕ) (a : Addresses) (flooded undated t : Bool) → bad_aim (aim_of port a) ≡ false → (flooded && (eqb (source_flag a) 0 || undated)) ≡ false
    → destination_is (aim_of port a) (λ d. flooded && t) ≡ (flooded && t)
unfolding aim_of
named_case port (BasicPath z) true undated t good marked = true_false marked
named_case port (BasicPath z) false undated t good marked = refl
named_case port (ExtendedPath p) true undated t good marked = true_false marked
named_case port (ExtendedPath p) false undated t good marked = refl
named_case port (BasicEndSystem d s) flooded undated t good marked = refl
named_case port (ExtendedEndSystem d s) flooded undated t good marked = refl
named_case port (Ipv6 d s) flooded undated t good marked = true_false good

module _ (r : Relay) (at second : ℕ) (octets : List ℕ) (room : ℕ) where
  abbrev header : Header
  header = header_of octets

  abbrev own : Address
  own = (port_in r at).address

  abbrev last_rows : Checks
  last_rows =
      (not_carried header.fields, 8)
      ∷ (no_domain own header.fields.addresses, 7)
      ∷ (bad_aim (aim_of own.0 header.fields.addresses) || bad_source (origin_of own.0 header.fields.addresses), 6)
      ∷ (unmarked header.fields, 28)
      ∷ []

  last_is : first_of last_rows ≡ first_of (arrival_checks own header.fields)
  unfolding first_of
  last_is =
      ap (λ (n : ℕ). pick (not_carried header.fields) 8 (pick (no_domain own header.fields.addresses) 7 n))
      (joined (bad_aim (aim_of own.0 header.fields.addresses)) (bad_source (origin_of own.0 header.fields.addresses)) 6 ((unmarked header.fields, 28) ∷ []))

  rows_are : step_rows r at second octets room ≡ (call_checks r at second room ++ (read_checks octets ++ last_rows))
  unfolding step_rows call_checks read_checks
  rows_are = refl

  call_numbers : are_numbers (call_checks r at second room) ≡ true
  unfolding call_checks
  call_numbers = refl

  read_numbers : are_numbers (read_checks octets) ≡ true
  unfolding read_checks
  read_numbers = refl

  pub steps_are : first_of (step_rows r at second octets room)
      ≡ pick (eqb (first_of (call_checks r at second room)) 0)
      (pick (eqb (first_of (read_checks octets)) 0) (first_of (arrival_checks own header.fields)) (first_of (read_checks octets)))
      (first_of (call_checks r at second room))
  steps_are =
      ap first_of rows_are
      ∙ behind (call_checks r at second room) (read_checks octets ++ last_rows) call_numbers
      ∙ ap (λ (n : ℕ). pick (eqb (first_of (call_checks r at second room)) 0) n (first_of (call_checks r at second room)))
      (behind (read_checks octets) last_rows read_numbers
      ∙ ap (λ (n : ℕ). pick (eqb (first_of (read_checks octets)) 0) n (first_of (read_checks octets))) last_is)

  read_is : octets_ending r (arrival_at r at) (read_of octets)
      ≡ pick (eqb (first_of (read_checks octets)) 0) (header_ending r (arrival_at r at) header) (refused_by (first_of (read_checks octets)))
  unfolding read_of
  read_is = by (eqb (first_of (read_checks octets)) 0)
    where
      by : (t : Bool) → octets_ending r (arrival_at r at) (pick t (Good header) (Refused (first_of (read_checks octets))))
          ≡ pick t (header_ending r (arrival_at r at) header) (refused_by (first_of (read_checks octets)))
      by true = refl
      by false = refl

  -- The first row that holds refuses; where none does, the halves are judged.
  pub ending_by_steps : ending_of r at second octets room ≡ or_else (first_of (step_rows r at second octets room)) (ruled_ending r (arrival_at r at) header)
  unfolding ending_of header_ending
  ending_by_steps =
      let n = first_of (call_checks r at second room) in
      let m = first_of (read_checks octets) in
      let k = first_of (arrival_checks own header.fields) in
      ap (λ (e : Ending). pick (eqb n 0) e (refused_by n)) read_is
      ∙ chained n m k (ruled_ending r (arrival_at r at) header) (eqb n 0) (eqb m 0) refl refl
      ∙ ap (λ (i : ℕ). or_else i (ruled_ending r (arrival_at r at) header)) (sym steps_are)

  -- ---- where no row holds
  pub steps_numbers : are_numbers (step_rows r at second octets room) ≡ true
  unfolding step_rows
  steps_numbers = refl

  -- the arrival port is one of the eight
  pub arrival_inside : first_of (step_rows r at second octets room) ≡ 0 → at < 8
  unfolding step_rows among_ports
  arrival_inside e =
      let none = zero_none (step_rows r at second octets room) (numbered (step_rows r at second octets room) steps_numbers) e in
      ltb-true at 8 (and_true (ltb at 8) _ (not-false (port_set_up r at) none.0)).0

  -- and what is named is carried
  pub aim_carried : first_of (step_rows r at second octets room) ≡ 0 → bad_aim (aim_of own.0 header.fields.addresses) ≡ false
  unfolding step_rows
  aim_carried e =
      let none = zero_none (step_rows r at second octets room) (numbered (step_rows r at second octets room) steps_numbers) e in
      (or_false (bad_aim (aim_of own.0 header.fields.addresses)) _ none.1.1.1.1.1.1.1.1.1.1.1.0).0

  -- and what is flooded names an address, since 28 leaves it no path
  pub flooded_named : first_of (step_rows r at second octets room) ≡ 0
      → (t : Bool) → flooded_with (aim_of own.0 header.fields.addresses) header.fields t ≡ (is_flooded header.fields && t)
  unfolding step_rows
  flooded_named e t =
      let none = zero_none (step_rows r at second octets room) (numbered (step_rows r at second octets room) steps_numbers) e in
      named_case own.0 header.fields.addresses (is_flooded header.fields) (eqb (format_of header.fields.stamp) 0) t (aim_carried e)
      none.1.1.1.1.1.1.1.1.1.1.1.1.0

  -- the flag is one bit
  pub flag_small : header.fields.intermediate < 2
  unfolding header_of fields_of
  flag_small = mod-lt ((control_of octets).third / 16) (zero-lt-suc 1)

module _ (more : Route → Route → Bool) (r : Relay) (chooses : Chooses more r) (at second : ℕ) (octets : List ℕ) (room : ℕ) where
  abbrev h : Header
  h = header_of octets

  by_steps : (n : ℕ) (t : Bool) → eqb n 0 ≡ t → (n ≡ 0 → at < 8) → (n ≡ 0 → bad_aim (aim_of (port_in r at).address.0 h.fields.addresses) ≡ false)
      → Ends (pick t (ruled_ending r (arrival_at r at) h) (refused_by n))
      (pick t (judged more r at (aim_of (port_in r at).address.0 h.fields.addresses) h) (refused_with n))
  unfolding rule_of judged
  by_steps n true e inside carried = record {
    refusal = refl;
    ruling = (aim_agrees more r chooses at (inside (eqb-true n 0 e)) h (flag_small r at second octets room) (aim_of (port_in r at).address.0 h.fields.addresses) (carried (eqb-true n 0 e))).0;
  }
  by_steps n false e inside carried = record {
    refusal = refl;
    ruling = empty_agrees No NotAsked (refused_with n) refl refl (λ p l. refl) (λ p l. refl) (λ p l. refl);
  }

  -- Receiving ends as page 01 says, by any comparison that so chooses.
  pub ends : Ends (ending_of r at second octets room) (verdict_by more r at second octets room)
  unfolding verdict_by
  ends =
      let n = first_of (step_rows r at second octets room) in
      subst (λ (e : Ending). Ends e (verdict_by more r at second octets room)) (sym (ending_by_steps r at second octets room))
      (by_steps n (eqb n 0) refl (arrival_inside r at second octets room) (aim_carried r at second octets room))

-- ---- more ones is the greater mask, where masks are ones and then zeros
tests_agree : {a b c d : ℕ} → (a < b) ↔ (c < d) → ltb a b ≡ ltb c d
tests_agree {a} {b} {c} {d} f = by (ltb c d) refl
  where
    by : (t : Bool) → ltb c d ≡ t → ltb a b ≡ t
    by true e = lt-ltb a b (f.1 (ltb-true c d e))
    by false e = refuted (ltb a b) (λ t. true_false (sym (lt-ltb c d (f.0 (ltb-true a b t))) ∙ e))

-- Masks as numbers choose so on any relay, and ones where masks are ones and then zeros, as 22 leaves them.
pub masks_choose : (r : Relay) → Chooses longer_mask r
masks_choose r a p q hp hq = refl

pub ones_choose : (r : Relay) → Contiguous r.routes → Chooses more_ones r
ones_choose r contiguous a p q hp hq =
    let rs = r.routes in
    let fp = contiguous p ((candidate_is (route_at rs p) a).0 hp).0 in
    let fq = contiguous q ((candidate_is (route_at rs q) a).0 hq).0 in
    let mp = (form_ones _ _).0 fp.1 in
    let mq = (form_ones _ _).0 fq.1 in
    rw (form_count _ _ fp.1, form_count _ _ fq.1, mp.1, mq.1) (tests_agree (mask_order fq.0 fp.0 mq.0 mp.0))

-- For any relay whatever receiving ends as page 01 says, masks compared as numbers ..
pub verdict_of_any_relay : (r : Relay) (at second : ℕ) (octets : List ℕ) (room : ℕ)
    → Ends (ending_of r at second octets room) (verdict_by longer_mask r at second octets room)
verdict_of_any_relay r = ends longer_mask r (masks_choose r)

-- .. and by their ones, in the page's own words, where they are ones and then zeros.
pub verdict_is_the_page : (r : Relay) → Contiguous r.routes → (at second : ℕ) (octets : List ℕ) (room : ℕ)
    → Ends (ending_of r at second octets room) (verdict_of r at second octets room)
verdict_is_the_page r contiguous = ends more_ones r (ones_choose r contiguous)
