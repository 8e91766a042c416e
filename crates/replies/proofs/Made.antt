-- What was asked where a reply is made, and what is then so of it. Assumes nothing.
use Rattle.std.specs.Prelude.{Option, Some, None}
use native.Mathlib.Omega.{arith}
use Prim.Native.Nat.{ℕ, ◌+◌, ◌-◌, ◌≤◌}
use mathlib.Core.Path.{◌≡◌, refl, sym, ap, subst⁻¹, ◌∙◌}
use mathlib.Core.Logic.{◌≢◌, ◌⊎◌, inl, inr}
use mathlib.Core.Bool.{Bool, true, false}
use mathlib.Core.List.{List}
use lib.ListN.{length}
use lib.Dec.{eqb, ltb}
use borrow.Author.Tests.{ltb-true, ltb-false, eqb-true, eq-eqb, not-true}
use Rattle.checks.specs.Order.{pick, first_of}
use Rattle.checks.proofs.Bools.{true_false}
use Rattle.header.specs.Onward.{found_of}
use Rattle.header.specs.Build.{size_of}
use Rattle.echo.specs.Message.{request_size, reply_size}
use Rattle.next_leg.specs.Leg.{data_of}
use Rattle.state.specs.Relay.{Relay, port_in}
use Rattle.verdict.specs.declared.Survey.{Survey}
use Rattle.judge.specs.Ending.{arrival_at}
use Rattle.judge.specs.Asked.{octets_asked}
use Rattle.judge.specs.declared.Asked.{Asked}
use Rattle.replies.specs.Request.{asking_of}
use Rattle.replies.specs.Reply.{reply_fields, least, most_echoed, echoed_count, no_answer, own_fields, made_of, fits_mtu, asked_by, is_asked, answer_to}
use Rattle.replies.specs.Replied.{call_checks, destination_survey, answering_of, message_size, Made}
use Rattle.replies.specs.declared.Answering.{Answering}
use Rattle.replies.specs.declared.request.Request.{Request}
use Rattle.replies.proofs.Chosen.{asks_long}
use Rattle.replies.proofs.Answered.{asked_free, within_read}

-- ---- the lesser of two
pub least_first : (a b : ℕ) → least a b ≤ a
least_first a b = by (ltb a b) refl
  where
    by : (t : Bool) → ltb a b ≡ t → pick t a b ≤ a
    by true e = omega arith
    by false e = ltb-false a b e

pub least_second : (a b : ℕ) → least a b ≤ b
least_second a b = by (ltb a b) refl
  where
    by : (t : Bool) → ltb a b ≡ t → pick t a b ≤ b
    by true e = omega (arith, ltb-true a b e)
    by false e = omega arith

-- the data are within all three
pub echoed_bounds : (mtu size n : ℕ) → (echoed_count mtu size n ≤ n) × ((echoed_count mtu size n ≤ most_echoed) × (echoed_count mtu size n ≤ mtu - size - reply_size))
unfolding echoed_count
echoed_bounds mtu size n =
    let inner = least_first (least n most_echoed) (mtu - size - reply_size) in
    (omega (arith, inner, least_first n most_echoed), (omega (arith, inner, least_second n most_echoed), least_second (least n most_echoed) (mtu - size - reply_size)))

module _ (r : Relay) (number dropping port : ℕ) (octets : List ℕ) (room : ℕ) where
  abbrev asked : Asked
  asked = octets_asked r number (arrival_at r port) (found_of octets)

  abbrev told : Survey
  told = destination_survey r asked

  abbrev mtu : ℕ
  mtu = (port_in r port).mtu

  abbrev answer : Answering
  answer = answering_of r number dropping port octets room

  -- ---- when one is made: what is asked, and what it then is
  pub record WasMade : Type 0 where
    pub passed : first_of (call_checks r port room) ≡ 0
    pub is_asked : is_asked dropping asked told ≡ true
    pub identifier : ℕ
    pub sequence : ℕ
    pub asks : asking_of asked.header octets ≡ Some (record { identifier = identifier; sequence = sequence })
    pub enough : fits_mtu asked told mtu ≡ true
    pub is : answer ≡ made_of asked told mtu identifier sequence

  by_room : (identifier sequence : ℕ) (t : Bool) → fits_mtu asked told mtu ≡ t
      → (pick t (made_of asked told mtu identifier sequence) (no_answer 0)).made ≢ 0 → fits_mtu asked told mtu ≡ true
  by_room identifier sequence true e some = e
  by_room identifier sequence false e some = absurd (some refl)

  by_asking : first_of (call_checks r port room) ≡ 0 → is_asked dropping asked told ≡ true → (x : Option Request) → asking_of asked.header octets ≡ x
      → answer ≡ asked_by x asked told mtu → (asked_by x asked told mtu).made ≢ 0 → WasMade
  by_asking zero is (Some request) e same some =
      let has = by_room request.identifier request.sequence (fits_mtu asked told mtu) refl some in
      record {
        passed = zero;
        is_asked = is;
        identifier = request.identifier;
        sequence = request.sequence;
        asks = e;
        enough = has;
        is = same ∙ ap (λ (t : Bool). pick t (made_of asked told mtu request.identifier request.sequence) (no_answer 0)) has;
      }
  by_asking zero is None e same some = absurd (some refl)

  by_test : first_of (call_checks r port room) ≡ 0 → (t : Bool) → is_asked dropping asked told ≡ t
      → answer ≡ pick t (asked_by (asking_of asked.header octets) asked told mtu) (no_answer 0)
      → (pick t (asked_by (asking_of asked.header octets) asked told mtu) (no_answer 0)).made ≢ 0 → WasMade
  by_test zero true e same some = by_asking zero e (asking_of asked.header octets) refl same some
  by_test zero false e same some = absurd (some refl)

  by_call : (t : Bool) → eqb (first_of (call_checks r port room)) 0 ≡ t
      → answer ≡ pick t (answer_to dropping asked told mtu octets) (no_answer (first_of (call_checks r port room)))
      → (pick t (answer_to dropping asked told mtu octets) (no_answer (first_of (call_checks r port room)))).made ≢ 0 → WasMade
  unfolding answer_to
  by_call true e same some = by_test (eqb-true (first_of (call_checks r port room)) 0 e) (is_asked dropping asked told) refl same some
  by_call false e same some = absurd (some refl)

  pub was_made : answer.made ≢ 0 → WasMade
  unfolding answering_of
  was_made some = by_call (eqb (first_of (call_checks r port room)) 0) refl refl some

  -- ---- it is 0 or 1, and a refusal makes none
  none_or_one : (t : Bool) → eqb answer.made 0 ≡ t → (answer.made ≡ 0) ⊎ (answer.made ≡ 1)
  none_or_one true e = inl (eqb-true answer.made 0 e)
  none_or_one false e = inr (ap (λ (x : Answering). x.made) (was_made (λ z. zero_not z e)).is)
    where
      zero_not : answer.made ≡ 0 → eqb answer.made 0 ≡ false → ⊥
      zero_not z f = absurd (true_false (sym (eq-eqb answer.made 0 z) ∙ f))

  pub made_one : (answer.made ≡ 0) ⊎ (answer.made ≡ 1)
  made_one = none_or_one (eqb answer.made 0) refl

  pub made_free : answer.made ≢ 0 → answer.refusal ≡ 0
  made_free some = ap (λ (x : Answering). x.refusal) (was_made some).is

  pub refused_none : answer.refusal ≢ 0 → answer.made ≡ 0
  refused_none some = by made_one
    where
      by : (answer.made ≡ 0) ⊎ (answer.made ≡ 1) → answer.made ≡ 0
      by (inl z) = z
      by (inr o) = absurd (some (made_free (λ z. omega (arith, z, o))))

  -- ---- its numbers are within their bits, and its data within their limit and within the octets
  pub made_holds : answer.made ≢ 0 → Made answer
  unfolding reply_fields
  made_holds some =
      let w = was_made some in
      subst⁻¹ (λ (x : Answering). Made x) w.is
      (record {
        tpid = omega arith;
        checksum = omega arith;
        intermediate = omega arith;
        count = (echoed_bounds mtu (size_of (own_fields asked told)) (data_of asked.header - request_size)).1.0;
        reply = refl;
      })

  pub made_within : answer.made ≢ 0 → answer.from + answer.count ≤ length octets
  made_within some =
      let w = was_made some in
      let h = asked.header in
      let inside = within_read r number (arrival_at r port) octets refl (asked_free dropping asked told w.is_asked) in
      subst⁻¹ (λ (x : Answering). x.from + x.count ≤ length octets) w.is
      (omega (
        arith,
        (echoed_bounds mtu (size_of (own_fields asked told)) (data_of h - request_size)).0,
        asks_long h octets w.asks,
        inside.0,
        inside.1,
      ))

  -- before any rewrite it is within the arrival port's MTU
  pub made_short : answer.made ≢ 0 → size_of answer.fields + message_size answer ≤ mtu
  made_short some =
      let w = was_made some in
      let size = size_of (own_fields asked told) in
      subst⁻¹ (λ (x : Answering). size_of x.fields + message_size x ≤ mtu) w.is
      (omega (
        arith,
        (echoed_bounds mtu size (data_of asked.header - request_size)).1.1,
        ltb-false mtu (size + reply_size) (not-true (ltb mtu (size + reply_size)) w.enough),
      ))
