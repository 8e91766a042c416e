-- What each definition gives, by the tests that the code makes in their order. Assumes nothing.
use native.Mathlib.Omega.{arith}
use Prim.Native.Nat.{ℕ, ◌+◌, ◌*◌, ◌%◌, ◌≤◌, ◌<◌}
use mathlib.Core.Path.{◌≡◌, refl, sym, ap, ◌∙◌}
use mathlib.Core.Logic.{◌≢◌}
use mathlib.Core.List.{List}
use lib.ListN.{length}
use borrow.Author.Tests.{eq-eqb, ne_eqb, lt-ltb, le-ltb}
use Rattle.std.specs.Option.{option_map_or}
use Rattle.std.proofs.Common.{Some, None}
use Rattle.checks.specs.Order.{check_of, first_of}
use Rattle.checks.specs.declared.Check.{Check}
use Rattle.checks.specs.declared.Check.TheVariants.{Passed, Failed}
use Rattle.checks.proofs.Laws.{passed_false, failed_true}
use Rattle.checks.specs.Answer.{refusal_number}
use Rattle.address.specs.Mask.{ones_of}
use Rattle.sets.specs.Limits.{route_places}
use Rattle.settings.specs.Refusals.{place_refused}
use Rattle.routes.specs.declared.Record.{Record}
use Rattle.routes.specs.Records.{empty_record}
use Rattle.state.specs.Relay.{ready_of}
use Rattle.state.specs.Seen.{Board, State, ports_seen, all_ports}
use Rattle.state.specs.Layout.{board_words, decode_board, mission_words, decode}
use Rattle.lent_state.specs.Read.{word_answer}
use Rattle.lent_state.proofs.Calls.{board_held_told, board_other_told, both_held_told, no_board_told, no_mission_told}
use Rattle.lent_state.proofs.Read.{no_word}
use Rattle.listing.specs.declared.Sought.TheVariants.{Best}
use Rattle.listing.specs.declared.Query.{Query}
use Rattle.listing.specs.declared.Match.{Match}
use Rattle.listing.specs.declared.Scan.{Scan}
use Rattle.listing.specs.Listed.{checks_of}
use Rattle.route_calls.specs.declared.Order.{Order}
use Rattle.route_calls.specs.declared.Emptying.{Emptying}
use Rattle.route_calls.specs.Search.{search_parts}
use Rattle.route_calls.specs.Calls.{
  refused_query,
  best_query,
  search_query,
  scan_number,
  search_number,
  own_ports,
  order_checks,
  order_refusal,
  order_of,
  entry_query,
  same_query,
  order_answer,
  chosen_record,
  emptying_of,
  cleared_record,
  record_words,
  record_word,
}

-- ---- the search
module _ (b w : List ℕ) (count address : ℕ) where
  abbrev best : Board → State → Query
  best x s = best_query x s address

  pub query_many : route_places < count → {r : Query} → r ≡ refused_query 21 → r ≡ search_query b w count address
  unfolding search_query
  query_many h e = rw (lt-ltb route_places count h) e

  module _ (few : count ≤ route_places) where
    pub query_no_board : (length b ≡ board_words → ⊥) → {r : Query} → r ≡ refused_query 21 → r ≡ search_query b w count address
    unfolding search_query
    query_no_board h e = rw (le-ltb route_places count few) (e ∙ no_board_told b w h best (refused_query 21))

    pub query_no_mission : (length w ≡ mission_words → ⊥) → {r : Query} → r ≡ refused_query 21 → r ≡ search_query b w count address
    unfolding search_query
    query_no_mission h e = rw (le-ltb route_places count few) (e ∙ no_mission_told b w h best (refused_query 21))

    pub query_best : length b ≡ board_words → length w ≡ mission_words → (n own : ℕ) → n ≡ (decode w).number → own ≡ ready_of (ports_seen n (decode_board b))
        → ◌≡◌ {A = Query} (record { refusal = 0; sought = Best; address = address; mask = 0; mission = n; own = own }) (search_query b w count address)
    unfolding search_query
    query_best hb hw n own en eo =
        rw (le-ltb route_places count few)
        (both_held_told b w hb hw best (refused_query 21)
        (λ i. record {
          refusal = 0;
          sought = Best;
          address = address;
          mask = 0;
          mission = en i;
          own = (eo ∙ ap (λ (x : ℕ). ready_of (ports_seen x (decode_board b))) en) i;
        }))

-- the three parts, as the code adds them up
pub parts_are : (place ones port : ℕ)
    → 0x100 + place % 0x1_0000 * 0x1_0000 + ones % 0x100 * 0x1_0000_0000 + port % 0x100 * 0x100_0000_0000 ≡ search_parts 1 place ones port
unfolding search_parts
parts_are place ones port = refl

module _ (s : Scan) where
  pub scan_none : s.found ≡ None → 0 ≡ scan_number s
  unfolding scan_number
  scan_none e = rw e

  pub scan_some : (m : Match) → s.found ≡ Some m → {n r : ℕ} → n ≡ ones_of m.mask → r ≡ search_parts 1 m.place n m.port → r ≡ scan_number s
  unfolding scan_number
  scan_some m e en er = rw e (er ∙ ap (λ (x : ℕ). search_parts 1 m.place x m.port) en)

  module _ (q : Query) where
    pub number_refused : q.refusal ≢ 0 → q.refusal ≡ search_number q s
    unfolding search_number
    number_refused h = rw (ne_eqb q.refusal 0 h)

    pub number_found : q.refusal ≡ 0 → {r : ℕ} → r ≡ scan_number s → r ≡ search_number q s
    unfolding search_number
    number_found h e = rw (eq-eqb q.refusal 0 h) e

-- ---- the writing
module _ (w : List ℕ) (mission : ℕ) where
  pub no_ports : (length w ≡ board_words → ⊥) → 0 ≡ own_ports w mission
  unfolding own_ports
  no_ports h = board_other_told w h (λ (b : Board). ready_of (ports_seen mission b)) 0

  pub has_ports : length w ≡ board_words → {r : ℕ} → r ≡ ready_of (ports_seen mission (decode_board w)) → r ≡ own_ports w mission
  unfolding own_ports
  has_ports h e = board_held_told w h (λ (b : Board). ready_of (ports_seen mission b)) 0 e

module _ (w : List ℕ) (count place : ℕ) (x : Record) (own : ℕ) where
  abbrev number : Board → ℕ
  number b = first_of (order_checks b count place x own)

  pub order_no_board : (length w ≡ board_words → ⊥) → 21 ≡ order_refusal w count place x own
  unfolding order_refusal
  order_no_board h = board_other_told w h number 21

  module _ (held : length w ≡ board_words) where
    pub order_many : route_places < count → 21 ≡ order_refusal w count place x own
    unfolding order_refusal first_of
    order_many h = board_held_told w held number 21 (rw (lt-ltb route_places count h))

    module _ (few : count ≤ route_places) where
      module _ {c : Check} (told : c ≡ check_of (place_refused place count)) where
        pub order-beyond : c ≡ Failed → 21 ≡ order_refusal w count place x own
        unfolding order_refusal first_of
        order-beyond h = board_held_told w held number 21 (rw (le-ltb route_places count few, failed_true (place_refused place count) (sym told ∙ h)))

        pub order-judged : c ≡ Passed → {ready r : ℕ} → ready ≡ ready_of (all_ports (decode_board w)) → r ≡ first_of (checks_of x ready own)
            → r ≡ order_refusal w count place x own
        unfolding order_refusal first_of
        order-judged h er e =
            board_held_told w held number 21
            (rw (le-ltb route_places count few, passed_false (place_refused place count) (sym told ∙ h)) (e ∙ ap (λ (n : ℕ). first_of (checks_of x n own)) er))

-- an order by its parts
pub order_is : (w : List ℕ) (count place : ℕ) (x : Record) {own n : ℕ} → own ≡ own_ports w x.mission → n ≡ order_refusal w count place x own
    → ◌≡◌ {A = Order} (record { refusal = n; place = place; own = own; route = x }) (order_of w count place x)
order_is w count place x eo en =
    λ i. record { refusal = (en ∙ ap (λ (m : ℕ). order_refusal w count place x m) eo) i; place = place; own = eo i; route = x }

module _ (o : Order) where
  pub same_refused : o.refusal ≢ 0 → {r : Query} → r ≡ refused_query o.refusal → r ≡ same_query o
  unfolding same_query
  same_refused h e = rw (ne_eqb o.refusal 0 h) e

  pub same_sought : o.refusal ≡ 0 → entry_query o ≡ same_query o
  unfolding same_query
  same_sought h = rw (eq-eqb o.refusal 0 h)

  module _ (s : Scan) where
    pub answer_refused : o.refusal ≢ 0 → o.refusal ≡ order_answer o s
    unfolding order_answer
    answer_refused h = rw (ne_eqb o.refusal 0 h)

    module _ (h : o.refusal ≡ 0) where
      pub answer_none : s.found ≡ None → 0 ≡ order_answer o s
      unfolding order_answer
      answer_none e = rw (eq-eqb o.refusal 0 h, e)

      module _ (m : Match) (e : s.found ≡ Some m) {n : ℕ} (told : n ≡ option_map_or (λ (found : Match). found.place) s.found 0) where
        found_place : n ≡ m.place
        found_place = told ∙ rw e

        pub answer_elsewhere : n ≢ o.place → 23 ≡ order_answer o s
        unfolding order_answer
        answer_elsewhere differs = rw (eq-eqb o.refusal 0 h, e, ne_eqb m.place o.place (λ same. differs (found_place ∙ same)))

        pub answer_here : n ≡ o.place → 0 ≡ order_answer o s
        unfolding order_answer
        answer_here same = rw (eq-eqb o.refusal 0 h, e, eq-eqb m.place o.place (sym found_place ∙ same))

    module _ (old : Record) {n : ℕ} (told : n ≡ order_answer o s) where
      pub chosen_new : n ≡ 0 → o.route ≡ chosen_record o s old
      unfolding chosen_record
      chosen_new h = rw (eq-eqb (order_answer o s) 0 (sym told ∙ h))

      pub chosen_old : n ≢ 0 → old ≡ chosen_record o s old
      unfolding chosen_record
      chosen_old h = rw (ne_eqb (order_answer o s) 0 (λ e. h (told ∙ e)))

-- ---- the emptying
module _ (count place : ℕ) where
  emptying_is : (n : ℕ) → n ≡ (emptying_of count place).refusal → ◌≡◌ {A = Emptying} (record { refusal = n; place = place }) (emptying_of count place)
  emptying_is n e = λ i. record { refusal = e i; place = place }

  pub emptying_many : route_places < count → ◌≡◌ {A = Emptying} (record { refusal = 21; place = place }) (emptying_of count place)
  unfolding first_of
  emptying_many h = emptying_is 21 (rw (lt-ltb route_places count h))

  pub emptying_beyond : count ≤ route_places → count ≤ place → ◌≡◌ {A = Emptying} (record { refusal = 21; place = place }) (emptying_of count place)
  unfolding first_of
  emptying_beyond few h = emptying_is 21 (rw (le-ltb route_places count few, le-ltb place count h))

  pub emptying_taken : count ≤ route_places → place < count → ◌≡◌ {A = Emptying} (record { refusal = 0; place = place }) (emptying_of count place)
  unfolding first_of
  emptying_taken few h = emptying_is 0 (rw (le-ltb route_places count few, lt-ltb place count h))

module _ (o : Emptying) (old : Record) where
  pub cleared_old : o.refusal ≢ 0 → old ≡ cleared_record o old
  unfolding cleared_record
  cleared_old h = rw (ne_eqb o.refusal 0 h)

  pub cleared_new : o.refusal ≡ 0 → {r : Record} → r ≡ empty_record → r ≡ cleared_record o old
  unfolding cleared_record
  cleared_new h e = rw (eq-eqb o.refusal 0 h) e

-- ---- a word
past_three : (i k : ℕ) → k ≤ i → i ≢ k → i ≢ k + 1 → i ≢ k + 2 → k + 3 ≤ i
past_three i k h h₀ h₁ h₂ = omega (arith, h, h₀, h₁, h₂)

past_six : (i : ℕ) → 6 ≤ i → i ≢ 6 → 7 ≤ i
past_six i h h₆ = omega (arith, h, h₆)

-- a record has seven words
pub word_none : (x : Record) (i : ℕ) → i ≢ 0 → i ≢ 1 → i ≢ 2 → i ≢ 3 → i ≢ 4 → i ≢ 5 → i ≢ 6 → {r : ℕ} → r ≡ refusal_number 21
    → r ≡ word_answer (record_words x) i
word_none x i h₀ h₁ h₂ h₃ h₄ h₅ h₆ e = e ∙ no_word (record_words x) i (past_six i (past_three i 3 (past_three i 0 (omega arith) h₀ h₁ h₂) h₃ h₄ h₅) h₆)

module _ (count place : ℕ) (x : Record) (i : ℕ) where
  pub word_many : route_places < count → {r : ℕ} → r ≡ refusal_number 21 → r ≡ record_word count place x i
  unfolding record_word
  word_many h e = rw (lt-ltb route_places count h) e

  module _ (few : count ≤ route_places) where
    pub word_beyond : count ≤ place → {r : ℕ} → r ≡ refusal_number 21 → r ≡ record_word count place x i
    unfolding record_word
    word_beyond h e = rw (le-ltb route_places count few, le-ltb place count h) e

    pub word_read : place < count → {r : ℕ} → r ≡ word_answer (record_words x) i → r ≡ record_word count place x i
    unfolding record_word
    word_read h e = rw (le-ltb route_places count few, lt-ltb place count h) e
