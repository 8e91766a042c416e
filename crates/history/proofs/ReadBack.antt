-- The accessors of include/harpjuniper.h read out of hj_receive's answer the very parts of the ending: each part fits the eight bits that it has. Assumes
-- nothing.
use native.Mathlib.Omega.{arith}
use native.Mathlib.Nat.{mod-eq_of_lt}
use Prim.Native.Nat.{ℕ, ◌/◌, ◌^◌, ◌<◌}
use mathlib.Core.Path.{◌≡◌, refl, ap, ◌∙◌}
use mathlib.Core.Bool.{Bool, true, not, ◌&&◌}
use mathlib.Core.List.{List, [], ◌∷◌}
use mathlib.Core.Logic.{⊎_elim}
use lib.Dec.{eqb, ltb}
use borrow.Author.Tests.{eqb-true, ltb-true}
use Rattle.checks.specs.Order.{first_of}
use Rattle.checks.proofs.Bools.{true_false, and_true, or_true}
use Rattle.checks.proofs.Laws.{either}
use Rattle.header.specs.Read.{fields_of, read_checks, header_of, read_of}
use Rattle.header.proofs.Bounds.{header_size}
use Rattle.routes.specs.declared.Record.{Record}
use Rattle.state.specs.Relay.{Relay}
use Rattle.verdict.specs.Numbers.{local_number, onward_number}
use Rattle.verdict.specs.Rule.{except_by}
use Rattle.next_leg.specs.Leg.{asks_checksum, adds, is_narrow, next_fields, rewritten_among, legs_of}
use Rattle.next_leg.specs.declared.Leg.{Leg}
use Rattle.next_leg.specs.declared.Legs.{Legs}
use Rattle.next_leg.proofs.Made.{checksum_case, small_size}
use Rattle.judge.specs.Ruling.{sought_of, leg_for, survey_for, rule_of, legs_for}
use Rattle.judge.specs.declared.ruling.Arrival.{Arrival}
use Rattle.meaning.specs.Arrival.{arrival_checks}
use Rattle.meaning.specs.Names.{aim_of}
use Rattle.judge.specs.Ending.{refused_by, call_checks, header_ending, octets_ending, arrival_at, ending_of}
use Rattle.judge.specs.declared.Ending.{Ending}
use Rattle.answers.specs.Answers.{ruling_parts, header_parts, part_at, receive_number}
use Rattle.answers.proofs.Digits.{eight}
use Rattle.page.proofs.Small.{aim_small}
use Rattle.history.specs.Seat.{Seat, relay_with, heard_by}
use Rattle.history.specs.Answers.{Row, numbers, below, endings, replies, entries, ending_rows, listed, suits, stands}
use Rattle.history.specs.Outcome.{ended}
use Rattle.history.proofs.Heard.{heard_so}
use Rattle.history.proofs.Refusals.{heard_has_nothing}
use Rattle.history.proofs.Listed.{every_ending_is_listed}
use Rattle.history.proofs.Small.{sets_small}

pub record ReadBack (n : ℕ) (e : Ending) : Type 0 where
  pub refusal : part_at 0 n ≡ e.refusal
  pub local : part_at 8 n ≡ local_number e.ruling.local
  pub onward : part_at 16 n ≡ onward_number e.ruling.onward
  pub took : part_at 24 n ≡ e.ruling.took
  pub dropped : part_at 32 n ≡ e.ruling.dropped
  -- the octets of the header that came, those of a rewritten header, and the ports that got one
  pub size : part_at 40 n ≡ e.size
  pub octets : part_at 48 n ≡ e.legs.octets
  pub rewritten : part_at 56 n ≡ e.legs.rewritten
  -- there is nothing above
  pub above : n / 2 ^ 64 ≡ 0
  -- with a refusal, all other parts are 0
  pub alone : (e.refusal ≡ 0 → ⊥) → n ≡ e.refusal

-- ---- every number of the table fits
abbrev all_low : List ℕ → Bool
all_low [] = true
all_low (x ∷ xs) = ltb x 256 && all_low xs

listed_low : (xs : List ℕ) (n : ℕ) → all_low xs ≡ true → listed xs n ≡ true → n < 256
listed_low [] n h k = true_false cc
listed_low (x ∷ xs) n h k =
    let both = and_true (ltb x 256) (all_low xs) h in
    ⊎_elim
    (λ e. let is = eqb-true n x e in let low = ltb-true x 256 both.0 in omega arith)
    (λ e. listed_low xs n both.1 e)
    (or_true (eqb n x) (listed xs n) k)

abbrev low_row : Row → Bool
low_row (numbers ns) = true
low_row (below k) = true
low_row (endings refusals locals onwards sent) = all_low refusals && (all_low locals && all_low onwards)
low_row (replies refusals onwards sent) = true
low_row entries = true

abbrev low_rows : List Row → Bool
low_rows [] = true
low_rows (row ∷ rows) = low_row row && low_rows rows

module _ (refusal local onward took : ℕ) where
  abbrev Low : Type 0
  Low = (refusal < 256) × ((local < 256) × (onward < 256))

  row_low : (row : Row) → low_row row ≡ true → suits row (ended refusal local onward took) ≡ true → Low
  row_low (numbers ns) h k = true_false cc
  row_low (below m) h k = true_false cc
  row_low (endings refusals locals onwards sent) h k =
      let low = and_true (all_low refusals) (all_low locals && all_low onwards) h in
      let lows = and_true (all_low locals) (all_low onwards) low.1 in
      let is = and_true (listed refusals refusal) _ k in
      let at = and_true (listed locals local) _ is.1 in
      let on = and_true (listed onwards onward) _ at.1 in
      (listed_low refusals refusal low.0 is.0, (listed_low locals local lows.0 at.0, listed_low onwards onward lows.1 on.0))
  row_low (replies refusals onwards sent) h k = true_false cc
  row_low entries h k = true_false cc

  rows_low : (rows : List Row) → low_rows rows ≡ true → stands rows (ended refusal local onward took) ≡ true → Low
  rows_low [] h k = true_false cc
  rows_low (row ∷ rows) h k =
      let both = and_true (low_row row) (low_rows rows) h in
      ⊎_elim (row_low row both.0) (rows_low rows both.1) (or_true (suits row (ended refusal local onward took)) _ k)

-- ---- and so do the octets of a header, as it came or rewritten, and the ports that get a rewritten one
abbrev LegsFit : Legs → Type 0
LegsFit l = (l.octets < 256) × (l.rewritten < 256)

legs_fit : (took domain : ℕ) (l : Leg) → took < 256 → l.header.fields.checksum < 2 → LegsFit (legs_of took domain l)
unfolding legs_of next_fields
legs_fit took domain l few on =
    let far = except_by took domain in
    let f = l.header.fields in
    let rewritten = rewritten_among took far l.code f in
    let next = next_fields (not (eqb far 0)) l.arrival.0 l.code f in
    let short = small_size next (checksum_case (asks_checksum l.code) f.checksum on) in
    either LegsFit (eqb took 0) (omega arith, omega arith) (
      either (λ n. n < 256) (eqb rewritten 0) (omega arith) (omega (arith, short)),
      either (λ n. n < 256) (adds l.code f) few (either (λ n. n < 256) (is_narrow f.addresses) (omega arith) (omega arith)),
    )

abbrev Fits : Ending → Type 0
Fits e = (e.size < 256) × LegsFit e.legs

octets_fit : (r : Relay) (at : Arrival) (s : List ℕ) → Fits (octets_ending r at (read_of s))
unfolding read_of header_of fields_of header_ending legs_for rule_of
octets_fit r at s =
    let h = header_of s in
    let x = aim_of at.address.0 h.fields.addresses in
    let most = (header_size s).1 in
    either (λ y. Fits (octets_ending r at y)) (eqb (first_of (read_checks s)) 0)
    (either Fits (eqb (first_of (arrival_checks at.address h.fields)) 0)
    (omega (arith, most), legs_fit (rule_of r at x h).took (survey_for r at x h).domain (leg_for r at x h) (aim_small r x (sought_of (leg_for r at x h)) _).took (omega arith))
    (omega arith, (omega arith, omega arith)))
    (omega arith, (omega arith, omega arith))

page_fits : (r : Relay) (port second : ℕ) (octets : List ℕ) (room : ℕ) → Fits (ending_of r port second octets room)
unfolding ending_of
page_fits r port second octets room =
    either Fits (eqb (first_of (call_checks r port second room)) 0) (octets_fit r (arrival_at r port) octets) (omega arith, (omega arith, omega arith))

ending_fits : (seat : Seat) (rs : List Record) (port second : ℕ) (octets : List ℕ) (room : ℕ) → Fits (heard_by seat rs port second octets room)
ending_fits seat rs port second octets room =
    heard_so seat rs port second octets room Fits (omega arith, (omega arith, omega arith)) (page_fits (relay_with seat rs) port second octets room)

-- ---- so no part is changed by being taken modulo 256
alone_number : (n : ℕ) → n < 256 → receive_number (refused_by n) ≡ n
unfolding receive_number ruling_parts header_parts
alone_number n low = omega (arith, mod-eq_of_lt low)

pub read_back : (seat : Seat) (rs : List Record) (port second : ℕ) (octets : List ℕ) (room : ℕ)
    → ReadBack (receive_number (heard_by seat rs port second octets room)) (heard_by seat rs port second octets room)
unfolding receive_number
read_back seat rs port second octets room =
    let e = heard_by seat rs port second octets room in
    let x = e.ruling in
    let low = rows_low e.refusal (local_number x.local) (onward_number x.onward) x.took ending_rows refl (every_ending_is_listed seat rs port second octets room) in
    let small = sets_small seat rs port second octets room in
    let fits = ending_fits seat rs port second octets room in
    let ruling = ruling_parts e.refusal (local_number x.local) (onward_number x.onward) x.took x.dropped in
    let is : receive_number e ≡ header_parts ruling e.size e.legs.octets e.legs.rewritten =
    cc (mod-eq_of_lt low.0, mod-eq_of_lt low.1.0, mod-eq_of_lt low.1.1, mod-eq_of_lt small.took, mod-eq_of_lt small.dropped, mod-eq_of_lt fits.0, mod-eq_of_lt fits.1.0, mod-eq_of_lt fits.1.1)
    in
    let parts =
    eight e.refusal (local_number x.local) (onward_number x.onward) x.took x.dropped e.size e.legs.octets e.legs.rewritten
    low.0 low.1.0 low.1.1 small.took small.dropped fits.0 fits.1.0 fits.1.1
    in
    record {
      refusal = rw is parts.at_0;
      local = rw is parts.at_8;
      onward = rw is parts.at_16;
      took = rw is parts.at_24;
      dropped = rw is parts.at_32;
      size = rw is parts.at_40;
      octets = rw is parts.at_48;
      rewritten = rw is parts.at_56;
      above = rw is parts.above;
      alone = λ z. ap receive_number (heard_has_nothing seat rs port second octets room z) ∙ alone_number e.refusal low.0;
    }
