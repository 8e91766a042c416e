-- What the pieces of each call come to over the list: the steps of a call give its promise. Assumes nothing.
use Prim.Native.Nat.{ℕ}
use mathlib.Core.Path.{◌≡◌, refl, sym, ap, ◌∙◌}
use mathlib.Core.Logic.{◌≢◌}
use mathlib.Core.Bool.{Bool, true, false}
use mathlib.Core.List.{List, [], ◌∷◌, ◌++◌}
use lib.Dec.{eqb}
use lib.Seq.{set-get_or}
use lib.ListN.{length, set}
use borrow.Author.Tests.{eqb-true, eqb-false, ne_eqb}
use Rattle.checks.specs.Order.{pick, Checks, first_of, Numbered}
use Rattle.checks.proofs.Laws.{zero_none}
use Rattle.routes.specs.declared.Record.{Record}
use Rattle.routes.specs.Records.{empty_record, record_at}
use Rattle.routes.specs.Refusals.{prefix_refused}
use Rattle.state.specs.Relay.{ready_of}
use Rattle.state.specs.Seen.{Board, State, ports_seen}
use Rattle.lent_state.specs.View.{Lent, Held, Other, by_lent, lent_board, lent, told_board, told, too_long}
use Rattle.listing.specs.declared.Query.{Query}
use Rattle.listing.specs.declared.Scan.{Scan}
use Rattle.listing.specs.Scan.{found_elsewhere, scan_of}
use Rattle.listing.specs.Listed.{seen, elsewhere}
use Rattle.listing.proofs.Searched.{search_by}
use Rattle.listing.proofs.Same.{elsewhere_is}
use Rattle.refusals.specs.Lists.{route_checks}
use Rattle.adjust.specs.Settled.{settled, settled_route}
use Rattle.route_calls.specs.declared.Order.{Order}
use Rattle.route_calls.specs.declared.Emptying.{Emptying}
use Rattle.route_calls.specs.Search.{search_parts, found_number, search_answer}
use Rattle.route_calls.specs.Calls.{refused_query, best_query, search_query, scan_number, search_number}
use Rattle.route_calls.specs.Calls.{own_ports, order_checks, order_refusal, order_of, entry_query, same_query, order_answer, chosen_record}
use Rattle.route_calls.specs.Calls.{emptying_of, cleared_record, record_word}
use Rattle.route_calls.proofs.Cases.{same_sought}
use Rattle.harpjuniper_routes.specs.Face.{search_told, route_word_told, Searches, ClearsRoute, ReadsRouteWord}

-- ---- the search
module _ (rs : List Record) (a : ℕ) where
  number_seen : (y : Board) (s : State) → scan_number (scan_of (best_query y s a) rs) ≡ search_answer (seen y s rs) (record { 0 = a })
  unfolding scan_number search_answer
  number_seen y s =
      sym (search_by y (best_query y s a) refl refl rs found_number 0 (λ (place ones port codes : ℕ). search_parts 1 place ones port) refl (λ place ones r. refl))

  -- by what the words of the board and of the mission hold
  abbrev query_by : Lent Board → Lent State → Query
  query_by l k = by_lent (λ (x : Board). by_lent (λ (s : State). best_query x s a) (refused_query 21) k) (refused_query 21) l

  abbrev answer_by : Lent Board → Lent State → ℕ
  answer_by l k = by_lent (λ (x : Board). by_lent (λ (s : State). search_answer (seen x s rs) (record { 0 = a })) 21 k) 21 l

  number_by : (l : Lent Board) (k : Lent State) → search_number (query_by l k) (scan_of (query_by l k) rs) ≡ answer_by l k
  unfolding search_number
  number_by (Held y) (Held s) = number_seen y s
  number_by (Held y) (Other w) = refl
  number_by (Other v) k = refl

  unless_long : (t : Bool) (l : Lent Board) (k : Lent State)
      → search_number (pick t (refused_query 21) (query_by l k)) (scan_of (pick t (refused_query 21) (query_by l k)) rs) ≡ pick t 21 (answer_by l k)
  unfolding search_number
  unless_long true l k = refl
  unless_long false l k = number_by l k

  pub search_told_lem : (b m : List ℕ) (q : Query) (s : Scan) (n : ℕ) → q ≡ search_query b m (length rs) a → s ≡ scan_of q rs → n ≡ search_number q s
      → Searches b m rs a n
  unfolding search_told search_query told_board told
  search_told_lem b m q s n eq es en =
      en ∙ (ap (search_number q) es ∙ (ap (λ (z : Query). search_number z (scan_of z rs)) eq ∙ unless_long (too_long rs) (lent_board b) (lent m)))

-- ---- a word of a record
pub word_told : (rs : List Record) (place i at : ℕ) (x : Record) (n : ℕ) → at ≡ place → x ≡ record_at rs at → n ≡ record_word (length rs) place x i
    → ReadsRouteWord rs place i n
unfolding route_word_told record_word
word_told rs place i at x n ea ex en = en ∙ ap (λ (y : Record). record_word (length rs) place y i) (ex ∙ ap (record_at rs) ea)

-- ---- a place emptied
-- a record that is chosen is stored, or the list stays
stored : (t : Bool) (rs : List Record) (i : ℕ) (x : Record) → set rs i (pick t x (record_at rs i)) ≡ pick t (set rs i x) rs
stored true rs i x = refl
stored false rs i x = set-get_or rs i empty_record

pub clear_told : (rs : List Record) (i : ℕ) (o : Emptying) (old x : Record) (zs : List Record) → o ≡ emptying_of (length rs) i
    → old ≡ record_at rs o.place → x ≡ cleared_record o old → zs ≡ set rs o.place x → ClearsRoute rs i o.refusal zs
unfolding cleared_record
clear_told rs i o old x zs eo eold ex ez = (
  ap (λ (z : Emptying). z.refusal) eo,
  ez ∙ (ap (set rs o.place) (ex ∙ ap (cleared_record o) eold)
      ∙ (ap (λ (z : Emptying). set rs z.place (cleared_record z (record_at rs z.place))) eo
      ∙ stored (eqb (emptying_of (length rs) i).refusal 0) rs i empty_record)),
)

-- ---- a record written
-- the number of a test behind all others
behind : (u : Bool) (m rest last x : ℕ) → m ≢ 0 → x ≡ pick (eqb rest 0) last rest → pick u m x ≡ pick (eqb (pick u m rest) 0) last (pick u m rest)
behind true m rest last x h e = rw (ne_eqb m 0 h)
behind false m rest last x h e = e

last_number : (t : Bool) (n : ℕ) (cs : Checks) → Numbered cs → first_of (cs ++ ((t, n) ∷ [])) ≡ pick (eqb (first_of cs) 0) (pick t n 0) (first_of cs)
unfolding first_of
last_number t n [] ns = refl
last_number t n (c ∷ cs) ns =
    behind c.0 c.1 (first_of cs) (pick t n 0) (first_of (cs ++ ((t, n) ∷ []))) ns.0 (last_number t n cs ns.1)

-- of two cases that a number tells apart, only the one at hand matters
by_test : (t : Bool) (x y z : ℕ) → (t ≡ true → x ≡ y) → pick t x z ≡ pick t y z
by_test true x y z g = g refl
by_test false x y z g = refl

module _ (rs : List Record) (i : ℕ) (x : Record) where
  -- the order, by what the board's words hold
  abbrev own_by : Lent Board → ℕ
  own_by l = by_lent (λ (y : Board). ready_of (ports_seen x.mission y)) 0 l

  abbrev order_by : Lent Board → Order
  order_by l =
      record { refusal = by_lent (λ (y : Board). first_of (order_checks y (length rs) i x (own_by l))) 21 l; place = i; own = own_by l; route = x }

  order_by_lem : (b : List ℕ) → order_of b (length rs) i x ≡ order_by (lent_board b)
  unfolding order_refusal own_ports told_board
  order_by_lem b = refl

  abbrev checked : Board → Checks
  checked y = order_checks y (length rs) i x (own_by (Held y))

  numbered : (y : Board) → Numbered (checked y)
  numbered y = (
    eqb-false 21 0 refl,
    (
      eqb-false 21 0 refl,
      (
        eqb-false 21 0 refl,
        (
          eqb-false 22 0 refl,
          (
            eqb-false 24 0 refl,
            (
              eqb-false 24 0 refl,
              (eqb-false 24 0 refl, tt),
            ),
          ),
        ),
      ),
    ),
  )

  -- a record that nothing refuses yet has a prefix of its mask's
  prefix_taken : (y : Board) → first_of (checked y) ≡ 0 → prefix_refused (record { 0 = x.prefix }) (record { 0 = x.mask }) ≡ false
  prefix_taken y e = (zero_none (checked y) (numbered y) e).1.1.1.0

  -- the scan found the entry at another place
  abbrev other : Scan → Bool
  other s = found_elsewhere s i

  module _ (y : Board) where
    abbrev asked : Query
    asked = entry_query (order_by (Held y))

    other_is : first_of (checked y) ≡ 0 → other (scan_of (same_query (order_by (Held y))) rs) ≡ elsewhere y rs i x
    other_is e =
        ap (λ (q : Query). other (scan_of q rs)) (sym (same_sought (order_by (Held y)) e))
        ∙ sym (elsewhere_is y rs x asked (record { same = refl; address = refl; mask = refl; mission = refl; own = refl }) (prefix_taken y e) i)

  answer_by_lem : (l : Lent Board)
      → order_answer (order_by l) (scan_of (same_query (order_by l)) rs) ≡ by_lent (λ (y : Board). first_of (route_checks y rs i x)) 21 l
  unfolding order_answer
  answer_by_lem (Other w) = refl
  answer_by_lem (Held y) =
      by_test (eqb (first_of (checked y)) 0) (pick (other (scan_of (same_query (order_by (Held y))) rs)) 23 0) (pick (elsewhere y rs i x) 23 0)
      (first_of (checked y)) (λ e. ap (λ (t : Bool). pick t 23 0) (other_is y (eqb-true (first_of (checked y)) 0 e)))
      ∙ sym (last_number (elsewhere y rs i x) 23 (checked y) (numbered y))

  -- the list, by the number that is answered
  list_by : (l : Lent Board)
      → settled (by_lent (λ (y : Board). first_of (route_checks y rs i x)) 21 l) (set rs i x) rs ≡ by_lent (λ (y : Board). settled_route y rs i x) rs l
  list_by (Held y) = refl
  list_by (Other w) = refl

  pub set_told : (b : List ℕ) (o : Order) (q : Query) (s : Scan) (old z : Record) (zs : List Record) (n : ℕ) → o ≡ order_of b (length rs) i x
      → q ≡ same_query o → s ≡ scan_of q rs → old ≡ record_at rs o.place → z ≡ chosen_record o s old → zs ≡ set rs o.place z → n ≡ order_answer o s
      → (n ≡ told_board (λ (y : Board). first_of (route_checks y rs i x)) 21 b) × (zs ≡ told_board (λ (y : Board). settled_route y rs i x) rs b)
  unfolding told_board chosen_record
  set_told b o q s old z zs n eo eq es eold ez ezs en = (en ∙ answer, left)
    where
      v : Lent Board
      v = lent_board b

      is : o ≡ order_by v
      is = eo ∙ order_by_lem b

      answer : order_answer o s ≡ by_lent (λ (y : Board). first_of (route_checks y rs i x)) 21 v
      answer =
          ap (order_answer o) (es ∙ ap (λ (w : Query). scan_of w rs) eq)
          ∙ (ap (λ (w : Order). order_answer w (scan_of (same_query w) rs)) is ∙ answer_by_lem v)

      left : zs ≡ by_lent (λ (y : Board). settled_route y rs i x) rs v
      left =
          ezs ∙ (ap (set rs o.place) (ez ∙ ap (chosen_record o s) eold)
          ∙ (ap (λ (w : Order). set rs w.place (pick (eqb (order_answer o s) 0) w.route (record_at rs w.place))) is
          ∙ (ap (λ (m : ℕ). set rs i (pick (eqb m 0) x (record_at rs i))) answer
          ∙ (stored (eqb (by_lent (λ (y : Board). first_of (route_checks y rs i x)) 21 v) 0) rs i x ∙ list_by v))))
