-- The headers of the copies are those that W-214 gives them: for any relay, port, second, octets and room each port that took a copy gets its header, rewritten
-- exactly where the tables say so. Assumes nothing.
use native.Mathlib.Omega.{arith}
use Prim.Native.Nat.{ℕ, ◌<◌}
use mathlib.Core.Path.{◌≡◌, refl, sym, ap, subst, ◌∙◌}
use mathlib.Core.Logic.{◌≢◌}
use mathlib.Core.Bool.{Bool, true, false, not, ◌&&◌}
use mathlib.Core.List.{List}
use lib.Dec.{eqb}
use borrow.Author.Tests.{eqb-true}
use Rattle.checks.specs.Order.{pick, first_of, NoneHolds}
use Rattle.checks.proofs.Bools.{true_false, and_true, refuted}
use Rattle.checks.proofs.Laws.{none_zero}
use Rattle.sets.specs.Sets.{in_set}
use Rattle.header.specs.Read.{header_of}
use Rattle.header.specs.declared.Fields.{Fields}
use Rattle.header.specs.declared.Header.{Header}
use Rattle.meaning.specs.Names.{bad_aim}
use Rattle.meaning.specs.declared.Aim.{Aim}
use Rattle.next_leg.specs.Leg.{adds, rewrites, next_size, next_header}
use Rattle.next_leg.specs.declared.Leg.{Leg}
use Rattle.routes.specs.Search.{longer_mask}
use Rattle.routes.specs.declared.Route.{Route}
use Rattle.routes.proofs.Longest.{Contiguous}
use Rattle.state.specs.Relay.{Relay, port_in, port_set_up}
use Rattle.survey.specs.Survey.{in_domain}
use Rattle.verdict.specs.Rule.{except_by}
use Rattle.judge.specs.Ruling.{sought_of, flood_for, code_for, leg_for, survey_for, rule_of, legs_for}
use Rattle.judge.specs.Ending.{refused_by, ruled_ending, arrival_at, ending_of}
use Rattle.judge.specs.declared.Ending.{Ending}
use Rattle.page.specs.Table.{Ports, some_port, nobody, aim_at, step_rows, more_ones, Line, not_asked, refused, wanted, onward_line, lies_far, has_room, line_grants, line_code, judged, refused_with, verdict_by, verdict_of}
use Rattle.page.specs.Ends.{HeadersAs, Chooses}
use Rattle.survey.proofs.Bits.{in_none, in_except}
use Rattle.page.proofs.Sets.{empty_is}
use Rattle.page.proofs.Ports.{domain_in}
use Rattle.page.proofs.Copies.{Coded}
use Rattle.page.proofs.Small.{aim_small}
use Rattle.page.proofs.Halves.{Ruled, aim_agrees}
use Rattle.page.proofs.Legs.{legs_rewritten, legs_header, legs_size}
use Rattle.page.proofs.Verdict.{ending_by_steps, arrival_inside, aim_carried, flag_small, masks_choose, ones_choose}
use Rattle.page.proofs.Exactly.{code_number}
use Rattle.page.proofs.Sought.{granted_passed, line_passed}

-- an element is added only where a route asks for it
added_asked : (code : ℕ) (f : Fields) → adds code f ≡ true → code ≢ 0
added_asked code f so z = true_false (sym so ∙ ap (λ (n : ℕ). adds n f) z)

-- ---- what a line grants: by the code, and with one to one port alone
module _ (r : Relay) (at : ℕ) (h : Header) (code : ℕ) where
  line_code_lem : (l : Line) → Coded code l → (p : ℕ) → line_grants r at h l p ≡ true → code ≡ line_code l
  line_code_lem not_asked c p e = true_false (sym e)
  line_code_lem (refused n) c p e = true_false (sym e)
  line_code_lem (wanted ports n) c p e = c.0

  line_alone : (l : Line) → Coded code l → code ≢ 0 → (p q : ℕ) → p < 8 → q < 8 → line_grants r at h l p ≡ true → line_grants r at h l q ≡ true → p ≡ q
  line_alone not_asked c some p q lp lq ep eq = true_false (sym ep)
  line_alone (refused n) c some p q lp lq ep eq = true_false (sym ep)
  line_alone (wanted ports n) c some p q lp lq ep eq =
      c.1 some p q lp lq (granted_passed r at h p ports n ep).0 (granted_passed r at h q ports n eq).0

module _ (more : Route → Route → Bool) (r : Relay) (chooses : Chooses more r) (at second : ℕ) (octets : List ℕ) (room : ℕ) where
  abbrev h : Header
  h = header_of octets

  abbrev x : Aim
  x = aim_at r at octets

  abbrev line : Line
  line = onward_line more r at x h.fields

  -- what the route asks for that the search takes
  abbrev asked : ℕ
  asked = code_for r (flood_for r (arrival_at r at) x h) x

  -- ---- where no step refuses
  module _ (inside : at < 8) (carried : bad_aim x ≡ false) where
    abbrev leg : Leg
    leg = leg_for r (arrival_at r at) x h

    abbrev took : ℕ
    took = (rule_of r (arrival_at r at) x h).took

    abbrev domain : ℕ
    domain = (survey_for r (arrival_at r at) x h).domain

    ruled : Ruled more r chooses at inside h (flag_small r at second octets room) x
    ruled = aim_agrees more r chooses at inside h (flag_small r at second octets room) x carried

    took_small : took < 256
    unfolding rule_of
    took_small = (aim_small r x (sought_of leg) _).took

    -- a port that took a copy was granted it
    grants : (p : ℕ) → p < 8 → in_set p took ≡ true → line_grants r at h line p ≡ true
    unfolding rule_of judged
    grants p l is = (and_true (line_grants r at h line p) (has_room r p) (sym (ruled.0.took p l) ∙ is)).0

    code_is : (p : ℕ) → p < 8 → in_set p took ≡ true → asked ≡ line_code line
    code_is p l is = line_code_lem r at h (asked) line ruled.1 p (grants p l is)

    -- those in another domain: a port that took one is set up
    far_is : (p : ℕ) → p < 8 → in_set p (except_by took domain) ≡ (in_set p took && lies_far r at p)
    far_is p l =
        in_except p took domain ∙ ap (λ (t : Bool). in_set p took && not t) (domain_in r x (sought_of leg) p l) ∙ by (in_set p took) refl
      where
        by : (t : Bool) → in_set p took ≡ t → (t && not (port_set_up r p && in_domain (port_in r p) (sought_of leg))) ≡ (t && lies_far r at p)
        by true e = ap (λ (u : Bool). not (u && in_domain (port_in r p) (sought_of leg))) (line_passed r at h p line (grants p l e)).set_up_lem
        by false e = refl

    -- where an element is added one port took a copy, and where this lies near none lies far
    none_far : (p : ℕ) → p < 8 → in_set p took ≡ true → adds (asked) h.fields ≡ true → lies_far r at p ≡ false → except_by took domain ≡ 0
    unfolding some_port
    none_far p l is so near =
        eqb-true (except_by took domain) 0 (empty_is (except_by took domain) nobody (omega (arith, took_small)) (λ q k. far_is q k ∙ other q k))
      where
        other : (q : ℕ) → q < 8 → (in_set q took && lies_far r at q) ≡ false
        other q k =
            refuted (in_set q took && lies_far r at q) λ e.
            let both = and_true (in_set q took) (lies_far r at q) e in
            let same = line_alone r at h (asked) line ruled.1 (added_asked (asked) h.fields so) q p k l (grants q k both.0) (grants p l is) in
            true_false (sym both.1 ∙ ap (lies_far r at) same ∙ near)

    judged_headers : HeadersAs r at octets (ruled_ending r (arrival_at r at) h) (judged more r at x h)
    unfolding legs_for judged
    judged_headers =
        record {
          header = λ p l is.
              legs_header took domain leg p (lies_far r at p) (far_is p l) is octets
              ∙ ap (λ (n : ℕ). next_header (lies_far r at p) (port_in r at).address.0 n octets) (code_is p l is);
          rewritten = λ p l. legs_rewritten took domain leg p (lies_far r at p) (far_is p l) ∙ coded p l (in_set p took) refl;
          size = λ p l is.
              legs_size took domain leg p (lies_far r at p) (far_is p l) is (none_far p l is)
              ∙ ap (λ (n : ℕ). next_size (lies_far r at p) (port_in r at).address.0 n h) (code_is p l is);
        }
      where
        coded : (p : ℕ) → p < 8 → (t : Bool) → in_set p took ≡ t
            → (t && rewrites (lies_far r at p) (asked) h.fields) ≡ (t && rewrites (lies_far r at p) (line_code line) h.fields)
        coded p l true e = ap (λ (n : ℕ). rewrites (lies_far r at p) n h.fields) (code_is p l e)
        coded p l false e = refl

  coded_line : (l : Line) → Coded (asked) l → (ports : Ports) (code : ℕ) → l ≡ wanted ports code → asked ≡ line_code l
  coded_line l c ports code e = subst (λ (k : Line). Coded (asked) k → asked ≡ line_code k) (sym e) (λ d. d.0) c

  -- Where ports are wanted, the verdict's code is what the route asks for that the search takes.
  pub code_exactly : NoneHolds (step_rows r at second octets room) → (ports : Ports) (code : ℕ) → line ≡ wanted ports code
      → (verdict_by more r at second octets room).code ≡ asked
  code_exactly none ports code is =
      let zero = none_zero (step_rows r at second octets room) none in
      code_number r at second octets room more chooses none
      ∙ sym (coded_line line (ruled (arrival_inside r at second octets room zero) (aim_carried r at second octets room zero)).1 ports code is)

  -- a refusal has no copy
  refused_headers : (n : ℕ) → HeadersAs r at octets (refused_by n) (refused_with n)
  refused_headers n =
      record {
        header = λ p l is. true_false (sym is ∙ in_none p);
        rewritten = λ p l. in_none p ∙ sym (rw (in_none p));
        size = λ p l is. true_false (sym is ∙ in_none p);
      }

  by_steps : (n : ℕ) (t : Bool) → eqb n 0 ≡ t → (n ≡ 0 → at < 8) → (n ≡ 0 → bad_aim x ≡ false)
      → HeadersAs r at octets (pick t (ruled_ending r (arrival_at r at) h) (refused_by n)) (pick t (judged more r at x h) (refused_with n))
  by_steps n true e inside carried = judged_headers (inside (eqb-true n 0 e)) (carried (eqb-true n 0 e))
  by_steps n false e inside carried = refused_headers n

  -- Every copy gets its header, by any comparison that so chooses.
  pub headers_as : HeadersAs r at octets (ending_of r at second octets room) (verdict_by more r at second octets room)
  unfolding verdict_by
  headers_as =
      let n = first_of (step_rows r at second octets room) in
      subst (λ (e : Ending). HeadersAs r at octets e (verdict_by more r at second octets room)) (sym (ending_by_steps r at second octets room))
      (by_steps n (eqb n 0) refl (arrival_inside r at second octets room) (aim_carried r at second octets room))

-- For any relay whatever, masks compared as numbers ..
pub headers_of_any_relay : (r : Relay) (at second : ℕ) (octets : List ℕ) (room : ℕ)
    → HeadersAs r at octets (ending_of r at second octets room) (verdict_by longer_mask r at second octets room)
headers_of_any_relay r = headers_as longer_mask r (masks_choose r)

-- .. and by the page's verdict, where they are ones and then zeros.
pub headers_are_the_page : (r : Relay) → Contiguous r.routes → (at second : ℕ) (octets : List ℕ) (room : ℕ)
    → HeadersAs r at octets (ending_of r at second octets room) (verdict_of r at second octets room)
headers_are_the_page r contiguous = headers_as more_ones r (ones_choose r contiguous)
