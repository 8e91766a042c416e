-- What C is told of an echo request, and the reply that it finds at the front of the output: page 02, W-203. Assumes nothing.
use Rattle.std.specs.Prelude.{Option, Some, None}
use native.Mathlib.Omega.{arith}
use Prim.Native.Nat.{ℕ, ◌<◌}
use mathlib.Core.Path.{◌≡◌, refl, sym, ap₂, subst, ◌∙◌}
use mathlib.Core.Logic.{◌≢◌, ⊎_elim}
use mathlib.Core.Bool.{Bool, true, false}
use mathlib.Core.List.{List, [], ◌∷◌, ◌++◌}
use lib.ListN.{length, take, drop}
use lib.Seq.{take_at}
use lib.Dec.{eqb}
use borrow.Author.Tests.{eq-eqb, ne_eqb, eqb-true, eqb-false}
use Rattle.checks.specs.Order.{pick}
use Rattle.checks.proofs.Bools.{true_false, or_true}
use Rattle.queue.specs.Order.{Each}
use Rattle.address.specs.declared.Slot.{Slot}
use Rattle.routes.specs.declared.Record.{Record}
use Rattle.state.specs.Relay.{Relay}
use Rattle.lookup.specs.ForTarget.{way_for}
use Rattle.lent_state.specs.View.{too_long}
use Rattle.verdict.specs.Numbers.{onward_number}
use Rattle.verdict.specs.declared.Ruling.{Ruling}
use Rattle.verdict.specs.declared.Target.TheVariants.{Route}
use Rattle.verdict.specs.declared.Way.{Way}
use Rattle.replies.specs.Replied.{answering_of, no_reply, replied_among, replied_via as by_way, replied_to, replied_of, wire_reply, replied_output}
use Rattle.replies.specs.declared.Answering.{Answering}
use Rattle.replies.specs.declared.sending.Replied.{Replied}
use Rattle.replies.proofs.Goes.{goes_length, goes_short}
use Rattle.answering.specs.Split.{number_for}
use Rattle.answers.proofs.Digits.{ReplyRead, reply_read}
use Rattle.contracts.specs.Promised.{Result}
use Rattle.history.specs.Calls.{echoes, own}
use Rattle.history.specs.Seat.{Seat, answering_by, replied_by}
use Rattle.history.specs.Answers.{listed}
use Rattle.history.proofs.Replying.{answer, reply, both_so, reply_so, reply_onward, reply_small}
use Rattle.demands.specs.Trace.{Customer, Step, flies, seat_of, Gives}
use Rattle.demands.specs.ReadOut.{reply_octets, reply_out}
use Rattle.demands.proofs.Told.{gives_row}

-- ---- a choice that is decided
pub picks : {A : Type 0} (t : Bool) (u v : A) → t ≡ true → pick t u v ≡ u
picks true u v e = refl
picks false u v e = true_false (sym e)

pub leaves : {A : Type 0} (t : Bool) (u v : A) → t ≡ false → pick t u v ≡ v
leaves true u v e = true_false e
leaves false u v e = refl

-- ---- a number of a list whose numbers all fit eight bits
abbrev Low : List ℕ → Type 0
Low xs = Each (λ (k : ℕ). k < 256) xs

low_listed : (xs : List ℕ) (n : ℕ) → Low xs → listed xs n ≡ true → n < 256
low_listed [] n low h = true_false (sym h)
low_listed (k ∷ xs) n low h =
    ⊎_elim (λ e. subst (λ (j : ℕ). j < 256) (sym (eqb-true n k e)) low.0) (low_listed xs n low.1) (or_true (eqb n k) (listed xs n) h)

-- ---- of any relay
module _ (r : Relay) (number dropping at : ℕ) (octets output : List ℕ) where
  abbrev made : Answering
  made = answering_of r number dropping at octets (length output)

  abbrev sent : Replied
  sent = replied_of r number dropping at octets (length output)

  -- a reply that no port took has no octets; one that a port took has those that C is told, under 8,192
  untaken_way : (w : Option Way) → (by_way r made w (length output)).ruling.took ≡ 0 → (by_way r made w (length output)).octets ≡ 0
  unfolding replied_among
  untaken_way None z = refl
  untaken_way (Some way) z = picks _ _ _ (eq-eqb _ 0 z)

  untaken_octets : sent.ruling.took ≡ 0 → sent.octets ≡ 0
  unfolding replied_of replied_to
  untaken_octets = by (eqb made.made 0)
    where
      by : (t : Bool) → (pick t (no_reply made.refusal) (by_way r made (way_for r Route made.destination) (length output))).ruling.took ≡ 0
          → (pick t (no_reply made.refusal) (by_way r made (way_for r Route made.destination) (length output))).octets ≡ 0
      by true z = refl
      by false z = untaken_way (way_for r Route made.destination) z

  taken_octets : sent.ruling.took ≢ 0 → sent.octets ≡ length (wire_reply made sent octets)
  unfolding replied_of
  taken_octets some = goes_length r number dropping at octets (length output) (way_for r Route made.destination) some output refl

  taken_short : sent.ruling.took ≢ 0 → length (wire_reply made sent octets) < 65536
  unfolding replied_of
  taken_short some =
      let short = (goes_short r number dropping at octets (length output) (way_for r Route made.destination) some output refl).0 in
      omega (arith, short)

  octets_low : sent.octets < 65536
  octets_low = by (eqb sent.ruling.took 0) refl
    where
      by : (t : Bool) → eqb sent.ruling.took 0 ≡ t → sent.octets < 65536
      by true z = let none = untaken_octets (eqb-true _ 0 z) in omega (arith, none)
      by false z = let is = taken_octets (eqb-false _ 0 z) in let short = taken_short (eqb-false _ 0 z) in omega (arith, is, short)

-- ---- of a seat: each part of the answer is read as it is
module _ (seat : Seat) (rs : List Record) (at : ℕ) (octets output : List ℕ) where
  abbrev z : Replied
  z = replied_by seat rs at octets (length output)

  refusal_low : z.refusal < 256
  refusal_low =
      reply_so seat rs at octets (length output) (λ (n : ℕ) (x : Ruling). n < 256)
      (λ n is. low_listed (0 ∷ 21 ∷ 16 ∷ 17 ∷ []) n (omega arith, (omega arith, (omega arith, (omega arith, tt)))) is)
      (omega arith) (omega arith) (λ granted full. omega arith)

  onward_low : onward_number z.ruling.onward < 256
  onward_low =
      low_listed (0 ∷ 1 ∷ 11 ∷ 14 ∷ 15 ∷ []) (onward_number z.ruling.onward)
      (omega arith, (omega arith, (omega arith, (omega arith, (omega arith, tt))))) (reply_onward seat rs at octets (length output))

  wide_low : z.octets < 65536
  wide_low =
      both_so seat rs at octets (length output) (λ (x : Answering) (y : Replied). y.octets < 65536) (λ long. omega arith)
      (λ short. octets_low _ seat.number seat.board.drop at octets output)

  pub reply_back : ReplyRead (number_for (replied_by seat rs at octets (length output))) (replied_by seat rs at octets (length output)).refusal
      (onward_number (replied_by seat rs at octets (length output)).ruling.onward) (replied_by seat rs at octets (length output)).ruling.took
      (replied_by seat rs at octets (length output)).ruling.dropped (replied_by seat rs at octets (length output)).octets
  reply_back =
      let small = reply_small seat rs at octets (length output) in
      reply_read z.refusal z.ruling z.octets refusal_low onward_low small.took small.dropped wide_low

-- ---- after a trace
module _ (who : Customer) (steps : List Step) (rs : List Record) (at : ℕ) (slot : Slot) (octets output : List ℕ) (x : Result)
    (g : Gives steps (flies who (echoes rs at slot octets output)) x) where
  abbrev seat : Seat
  seat = seat_of who steps

  abbrev a : Answering
  a = answering_by seat rs at octets (length output)

  abbrev e : Replied
  e = replied_by seat rs at octets (length output)

  pub told : ReplyRead x.answer e.refusal (onward_number e.ruling.onward) e.ruling.took e.ruling.dropped e.octets
  told = rw (gives_row who steps (own (echoes rs at slot octets output)) x g).answer (reply_back seat rs at octets output)

  left : x.left.output ≡ replied_output a e octets output
  left = (gives_row who steps (own (echoes rs at slot octets output)) x g).output

  -- where no port took it the output is as lent, and C is told no octets
  pub none_found : e.ruling.took ≡ 0 → (reply_octets x ≡ 0) × (x.left.output ≡ output)
  unfolding replied_output
  none_found none = (
    told.wide
        ∙ both_so seat rs at octets (length output) (λ (y : Answering) (z : Replied). z.ruling.took ≡ 0 → z.octets ≡ 0) (λ long z. refl)
        (λ short. untaken_octets _ seat.number seat.board.drop at octets output) none,
    left ∙ picks _ _ _ (eq-eqb e.ruling.took 0 none),
  )

  -- where one took it, the reply stands at the front, and every octet behind it is as lent
  module _ (some : e.ruling.took ≢ 0) where
    as_long : e.octets ≡ length (wire_reply a e octets)
    as_long =
        both_so seat rs at octets (length output) (λ (y : Answering) (z : Replied). z.ruling.took ≢ 0 → z.octets ≡ length (wire_reply y z octets))
        (λ long taken. absurd (taken refl)) (λ short. taken_octets _ seat.number seat.board.drop at octets output) some

    fronted : x.left.output ≡ wire_reply a e octets ++ drop (length (wire_reply a e octets)) output
    unfolding replied_output
    fronted = left ∙ leaves _ _ _ (ne_eqb e.ruling.took 0 some)

    pub found : reply_out x ≡ wire_reply a e octets
    found =
        ap₂ (λ (n : ℕ) (l : List ℕ). take n l) (told.wide ∙ as_long) fronted
        ∙ take_at (wire_reply a e octets) (drop (length (wire_reply a e octets)) output) (length (wire_reply a e octets)) refl

    pub behind : x.left.output ≡ reply_out x ++ drop (reply_octets x) output
    behind =
        fronted ∙ ap₂ (λ (l : List ℕ) (n : ℕ). l ++ drop n output) (sym found) (sym (told.wide ∙ as_long))

  -- with a list that is not too long: page 02's relay, as the customer sees it
  pub short_is : too_long rs ≡ false → (a ≡ answer seat rs at octets (length output)) × (e ≡ reply seat rs at octets (length output))
  short_is short =
      both_so seat rs at octets (length output)
      (λ (y : Answering) (z : Replied). (y ≡ answer seat rs at octets (length output)) × (z ≡ reply seat rs at octets (length output)))
      (λ long. true_false (sym long ∙ short)) (λ is. (refl, refl))

  pub taken_short_list : e.ruling.took ≢ 0 → too_long rs ≡ false
  taken_short_list =
      both_so seat rs at octets (length output) (λ (y : Answering) (z : Replied). z.ruling.took ≢ 0 → too_long rs ≡ false)
      (λ long some. absurd (some refl)) (λ short some. short)
