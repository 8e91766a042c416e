-- Echo messages as C reads and builds them: page 02, W-203; 003, 3.3.4.7. Assumes nothing.
use native.Mathlib.Omega.{arith}
use Prim.Native.Nat.{ℕ, ◌+◌, ◌*◌, ◌/◌, ◌%◌, ◌^◌, ◌<◌, ◌≤◌}
use mathlib.Core.Path.{◌≡◌, refl, sym, ap, ap₂, subst, subst⁻¹, ◌∙◌}
use mathlib.Core.Bool.{Bool, not}
use mathlib.Core.List.{List, ◌++◌}
use lib.ListN.{length, take, drop}
use lib.Seq.{take_at}
use lib.Dec.{eqb}
use borrow.Author.Tests.{eq-eqb, ne_eqb}
use Rattle.checks.specs.Order.{pick, first_of}
use Rattle.checks.specs.Answer.{refusal_number}
use Rattle.refusals.proofs.Chains.{Decided, decided}
use Rattle.header.specs.Limits.{most_data}
use Rattle.header.specs.Build.{output_by, Built}
use Rattle.checks.specs.Told.{Good, Refused}
use Rattle.echo.specs.Message.{fixed_size, message_octets, echo_checks, message_of, reading_of, echoed_in, Reading}
use Rattle.echo.specs.Built.{size_with, build_checks, built_of, built_output}
use Rattle.echo.specs.declared.Seen.{Seen}
use Rattle.echo.specs.declared.Kind.{Kind}
use Rattle.echo.specs.declared.Kind.TheVariants.{Request, Reply}
use Rattle.echo.specs.declared.Message.{Message}
use Rattle.echo.proofs.Refusals.{reads_good, builds_exactly}
use Rattle.echo.proofs.Trip.{SeenFits, KindFits, Fits, written_length, written_data, read_written, written_read}
use Rattle.harpjuniper_messages.specs.Face.{message_count, message_words, refusal_in, read_answer, left_by, read_left, built_answer}
use Rattle.contracts.specs.Promised.{Result, Passable, hj_read_echo_words}
use Rattle.contracts.specs.Stated.{Says}
use Rattle.contracts.proofs.Answers.{each_call_answers}
use Rattle.contracts.proofs.Rows.{says_row}
use Rattle.page.specs.Table.{GivenBy}
use Rattle.history.specs.Ranges.{Octets}
use Rattle.demands.specs.ReadOut.{ReadsEcho, BuildsEcho, built_by, message_in, data_begin}
use Rattle.demands.specs.Echoes.{SeenPasses, KindPasses, MessagePasses, ReadAs, BuiltAs}
use Rattle.demands.proofs.ReadOut.{message_refusal, built_as, message_small, told_refusal, told_value}
use Rattle.demands.proofs.Whole.{unbuilt}

-- ---- reading
module _ (s lent : List ℕ) where
  pub reads : (answer : ℕ) × ((left : List ℕ) × ReadsEcho s lent answer left)
  reads =
      let a = each_call_answers (hj_read_echo_words s lent) tt in
      (a.0.answer, (a.0.left.numbers, (a.0, (a.1, (refl, refl)))))

  -- into ten words
  module _ (right : length lent ≡ message_count) where
    ten_answer : (r : Reading) → read_answer (length lent) r ≡ refusal_in r
    unfolding read_answer
    ten_answer r = rw (eq-eqb (length lent) message_count right)

    ten_left : (r : Reading) → read_left r lent ≡ left_by r lent
    unfolding read_left
    ten_left r = rw (eq-eqb (length lent) message_count right)

    module _ (answer : ℕ) (left : List ℕ) (h : ReadsEcho s lent answer left) where
      answer_is : answer ≡ first_of (echo_checks s)
      answer_is =
          sym h.1.1.0 ∙ (says_row (hj_read_echo_words s lent) h.0 h.1.0).answer ∙ ten_answer (reading_of s) ∙ message_refusal s

      left_is : left ≡ left_by (reading_of s) lent
      left_is = sym h.1.1.1 ∙ (says_row (hj_read_echo_words s lent) h.0 h.1.0).numbers ∙ ten_left (reading_of s)

      given : GivenBy (echo_checks s) answer
      unfolding echo_checks
      given = subst (GivenBy (echo_checks s)) (sym answer_is) (decided (echo_checks s) refl)

      pub read_as : ReadAs s lent answer left
      unfolding reading_of
      read_as =
          record {
            refuses = given;
            unwritten = λ some.
                left_is
                ∙ ap (λ (t : Bool). left_by (pick t (Good (message_of s)) (Refused (first_of (echo_checks s)))) lent)
                (ne_eqb (first_of (echo_checks s)) 0 (λ z. some (answer_is ∙ z)));
            written = λ z.
                left_is
                ∙ ap (λ (t : Bool). left_by (pick t (Good (message_of s)) (Refused (first_of (echo_checks s)))) lent)
                (eq-eqb (first_of (echo_checks s)) 0 (sym answer_is ∙ z));
          }

    -- octets that are a message
    reads_message : (m : Message) → reading_of s ≡ Good m → ReadsEcho s lent 0 (message_words m)
    reads_message m is =
        let c = hj_read_echo_words s lent in
        let a = each_call_answers c tt in
        let row = says_row c a.0 a.1 in
        (a.0, (a.1, (row.answer ∙ ten_answer (reading_of s) ∙ ap refusal_in is, row.numbers ∙ ten_left (reading_of s) ∙ ap (λ (r : Reading). left_by r lent) is)))

-- the words tell the message
kind_told : (identifier sequence : ℕ) (k : Kind)
    → message_in (message_words (record { identifier = identifier; sequence = sequence; kind = k })) ≡ record { identifier = identifier; sequence = sequence; kind = k }
unfolding message_words
kind_told identifier sequence Request = refl
kind_told identifier sequence (Reply s) =
    let halves : s.stamp / 2 ^ 32 * 2 ^ 32 + s.stamp % 2 ^ 32 ≡ s.stamp = omega arith in
    ap
    (λ (stamp : ℕ).
    record { identifier = identifier; sequence = sequence; kind = Reply (record { hops = s.hops; format = s.format; stamp = stamp; mtu = s.mtu; rate = s.rate }) })
    halves

pub message_told : (m : Message) → message_in (message_words m) ≡ m
message_told m = kind_told m.identifier m.sequence m.kind

begin_told : (m : Message) → data_begin (message_words m) ≡ fixed_size m.kind
unfolding message_words
begin_told m = refl

-- ---- building
built_passes : (k : Kind) (i n : ℕ) (echoed lent : List ℕ) → Passable (built_by k i n echoed lent)
built_passes Request i n echoed lent = tt
built_passes (Reply s) i n echoed lent = tt

abbrev message : Kind → ℕ → ℕ → Message
message k i n = record { identifier = i; sequence = n; kind = k }

built_row : (k : Kind) (i n : ℕ) (echoed lent : List ℕ) (x : Result) → Says (built_by k i n echoed lent) x
    → (x.answer ≡ built_answer (built_of (message k i n) (length echoed) (length lent))) × (x.left.output ≡ built_output (message k i n) echoed lent)
built_row Request i n echoed lent x says = let row = says_row (built_by Request i n echoed lent) x says in (row.answer, row.output)
built_row (Reply s) i n echoed lent x says = let row = says_row (built_by (Reply s) i n echoed lent) x says in (row.answer, row.output)

module _ (m : Message) (echoed lent : List ℕ) where
  abbrev size : ℕ
  size = size_with m (length echoed)

  abbrev first : ℕ
  first = first_of (build_checks m (length echoed) (length lent))

  pub builds : (answer : ℕ) × ((left : List ℕ) × BuildsEcho m echoed lent answer left)
  builds =
      let a = each_call_answers (built_by m.kind m.identifier m.sequence echoed lent) (built_passes m.kind m.identifier m.sequence echoed lent) in
      (a.0.answer, (a.0.left.output, (a.0, (a.1, (refl, refl)))))

  checks_decided : Decided (build_checks m (length echoed) (length lent))
  unfolding build_checks
  checks_decided = decided (build_checks m (length echoed) (length lent)) refl

  -- a message that is built
  module _ (none : first ≡ 0) where
    output_is : built_output m echoed lent ≡ message_octets m echoed ++ drop size lent
    unfolding built_output built_of
    output_is =
        ap (λ (t : Bool). output_by (pick t (Good size) (Refused first)) (message_octets m echoed) lent) (eq-eqb first 0 none)
        ∙ ap (λ (n : ℕ). message_octets m echoed ++ drop n lent) (written_length m echoed)

  module _ (answer : ℕ) (left : List ℕ) (h : BuildsEcho m echoed lent answer left) where
    row : (answer ≡ built_answer (built_of m (length echoed) (length lent))) × (left ≡ built_output m echoed lent)
    row =
        let is = built_row m.kind m.identifier m.sequence echoed lent h.0 h.1.0 in
        (sym h.1.1.0 ∙ is.0, sym h.1.1.1 ∙ is.1)

    answer_as : answer ≡ pick (eqb first 0) size (refusal_number first)
    answer_as = row.0 ∙ built_as m (length echoed) (length lent)

    small : first ≡ 0 → size < 2 ^ 32
    small z = message_small m (length echoed) (length lent) z

    passed : answer < 2 ^ 32 → first ≡ 0
    passed low = told_value first size (eqb first 0) refl (subst (λ (n : ℕ). n < 2 ^ 32) answer_as low)

    size_is : first ≡ 0 → answer ≡ size
    size_is z = answer_as ∙ ap (λ (t : Bool). pick t size (refusal_number first)) (eq-eqb first 0 z)

    pub built_so : BuiltAs m echoed lent answer left
    built_so =
        record {
          refuses = λ n some.
              let is = told_refusal n first size (eqb first 0) refl small some in
              let by = checks_decided.1 n some in
              (λ e. by.0 (is.0 (sym answer_as ∙ e)), λ holds. answer_as ∙ is.1 (by.1 holds));
          done = (
            λ low. checks_decided.0.0 (passed low),
            λ none. let z = checks_decided.0.1 none in subst⁻¹ (λ (n : ℕ). n < 2 ^ 32) (size_is z) (small z),
          );
          unwritten = λ high.
              row.1
              ∙ unbuilt m echoed lent
              (ap not (ne_eqb first 0 (λ z. let is = size_is z in let low = small z in omega (arith, high, is, low))));
          size = λ low. size_is (passed low);
          written = λ low.
              row.1 ∙ output_is (passed low) ∙ ap (λ (n : ℕ). message_octets m echoed ++ drop n lent) (sym (size_is (passed low)));
        }

    taken : answer < 2 ^ 32 → take answer left ≡ message_octets m echoed
    taken low =
        ap (take answer) (built_so.written low)
        ∙ take_at (message_octets m echoed) (drop answer lent) answer (written_length m echoed ∙ sym (built_so.size low))

-- ---- and back
seen_fits : (s : Seen) → SeenPasses s → SeenFits s
seen_fits s p = record { hops = p.hops; format = p.format; stamp = p.stamp; mtu = p.mtu; rate = p.rate }

kind_fits : (k : Kind) → KindPasses k → KindFits k
kind_fits Request p = tt
kind_fits (Reply s) p = seen_fits s p

pub message_fits : (m : Message) → MessagePasses m → Fits m
message_fits m p = record { identifier = p.identifier; sequence = p.sequence; kind = kind_fits m.kind p.kind }

pub build_then_read : (m : Message) (echoed lent left words : List ℕ) (answer : ℕ) → MessagePasses m → BuildsEcho m echoed lent answer left
    → answer < 2 ^ 32 → length words ≡ message_count
    → ReadsEcho (take answer left) words 0 (message_words m)
    × ((message_in (message_words m) ≡ m) × (drop (data_begin (message_words m)) (take answer left) ≡ echoed))
build_then_read m echoed lent left words answer passes h low right =
    let is = taken m echoed lent answer left h low in (
      subst⁻¹ (λ (s : List ℕ). ReadsEcho s words 0 (message_words m)) is
          (reads_message (message_octets m echoed) words right m (read_written m echoed (message_fits m passes))),
      (
        message_told m,
        ap₂ (λ (n : ℕ) (l : List ℕ). drop n l) (begin_told m) is ∙ written_data m echoed,
      ),
    )

-- a message that was read, built again
again : (s lent : List ℕ) (m : Message) → Octets s → reading_of s ≡ Good m → length s ≤ most_data → length s ≤ length lent
    → BuildsEcho m (echoed_in m s) lent (length s) (s ++ drop (length s) lent)
unfolding built_output
again s lent m octets is few room =
    let echoed = echoed_in m s in
    let same = written_read s octets m is in
    let long : length s ≡ size_with m (length echoed) = ap length (sym same) ∙ written_length m echoed in
    let made : built_of m (length echoed) (length lent) ≡ Good (size_with m (length echoed)) =
    (builds_exactly m (length echoed) (length lent)).made.1 (omega (arith, long, room), omega (arith, long, few)) in
    let a = each_call_answers (built_by m.kind m.identifier m.sequence echoed lent) (built_passes m.kind m.identifier m.sequence echoed lent) in
    let row = built_row m.kind m.identifier m.sequence echoed lent a.0 a.1 in (
      a.0,
      (
        a.1,
        (
          row.0 ∙ ap built_answer made ∙ sym long,
          row.1
              ∙ ap (λ (b : Built). output_by b (message_octets m echoed) lent) made
              ∙ ap (λ (l : List ℕ). l ++ drop (length l) lent) same,
        ),
      ),
    )

pub read_then_build : (s words lent left : List ℕ) → Octets s → length words ≡ message_count → ReadsEcho s words 0 left
    → length s ≤ most_data → length s ≤ length lent
    → BuildsEcho (message_in left) (drop (data_begin left) s) lent (length s) (s ++ drop (length s) lent)
read_then_build s words lent left octets right h few room =
    let was = read_as s words right 0 left h in
    let m = message_of s in
    let is = (reads_good s m).1 (was.refuses.0.0 refl, refl) in
    let told = was.written refl in
    let built = again s lent m octets is few room in
    subst⁻¹ (λ (w : List ℕ). BuildsEcho (message_in w) (drop (data_begin w) s) lent (length s) (s ++ drop (length s) lent)) told
    (subst⁻¹ (λ (k : Message). BuildsEcho k (drop (data_begin (message_words m)) s) lent (length s) (s ++ drop (length s) lent)) (message_told m)
    (subst⁻¹ (λ (n : ℕ). BuildsEcho m (drop n s) lent (length s) (s ++ drop (length s) lent)) (begin_told m) built))
