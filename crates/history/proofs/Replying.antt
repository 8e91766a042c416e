-- What a reply is, over whatever seat: none by 21 where the list lent is too long, else what page 02's relay gives (crate page). So it is none, by 21, 16 or 17 or
-- without a number; or it is made, and then lost, by 11, or too big, by 14, or its copies are taken and dropped (`reply_so`). Assumes nothing.
use Rattle.std.specs.Prelude.{Option, Some, None}
use native.Mathlib.Omega.{arith}
use Prim.Native.Nat.{ℕ, ◌<◌}
use mathlib.Core.Path.{◌≡◌, refl, sym, ap, ◌∙◌}
use mathlib.Core.Logic.{inl, ⊎_elim}
use mathlib.Core.Bool.{Bool, true, false, ◌&&◌, ◌||◌}
use mathlib.Core.List.{List, [], ◌∷◌}
use lib.Bits.{bit_and}
use lib.Dec.{eqb}
use borrow.Author.Tests.{eqb-true, eqb-false}
use Rattle.checks.specs.Order.{pick}
use Rattle.checks.proofs.Bools.{true_false}
use Rattle.checks.proofs.Laws.{either}
use Rattle.sets.specs.Sets.{in_set}
use Rattle.routes.specs.declared.Record.{Record}
use Rattle.state.specs.Relay.{Relay, port_set_up}
use Rattle.survey.specs.Survey.{wanted_of}
use Rattle.survey.proofs.Bits.{in_none}
use Rattle.lookup.specs.ForTarget.{way_for}
use Rattle.lent_state.specs.View.{too_long}
use Rattle.verdict.specs.Numbers.{onward_number}
use Rattle.verdict.specs.Rule.{except_by, copies_of, ruling_of}
use Rattle.verdict.specs.declared.Local.TheVariants.{No}
use Rattle.verdict.specs.declared.Obstacle.{Obstacle}
use Rattle.verdict.specs.declared.Obstacle.TheVariants.{NoRoute, TooBig, QueuesFull}
use Rattle.verdict.specs.declared.Onward.{Onward}
use Rattle.verdict.specs.declared.Onward.TheVariants as onward
use Rattle.verdict.specs.declared.Ruling.{Ruling}
use Rattle.verdict.specs.declared.Target.TheVariants.{Route}
use Rattle.verdict.specs.declared.Way.{Way}
use Rattle.verdict.specs.declared.Wish.TheVariants as wish
use Rattle.judge.specs.Ending.{no_ruling}
use Rattle.replies.specs.Reply.{no_answer}
use Rattle.replies.specs.Replied.{call_checks, sought_for, answering_of, no_reply, replied_among, replied_via, replied_to, replied_of}
use Rattle.replies.specs.declared.Answering.{Answering}
use Rattle.replies.specs.declared.sending.Replied.{Replied}
use Rattle.answering.specs.Echoed.{echo_answering, echo_reply}
use Rattle.page.proofs.Answered.{call_number, made_or_not}
use Rattle.page.proofs.Replies.{reply_took, reply_dropped, reply_shared, reply_fits, reply_small as page-small}
use Rattle.page.proofs.Small.{Small}
use Rattle.history.specs.Seat.{Seat, relay_in, relay_with, answering_by, replied_by}
use Rattle.history.specs.Outcome.{replied, is_refusal, of_reply}
use Rattle.history.specs.Answers.{echo_rows, listed, stands}
use Rattle.history.proofs.Fair.{Fair, fair_by, none_fair}
use Rattle.history.proofs.Listed.{first_listed}

-- the numbers that refuse, and 0
abbrev reply_numbers : List ℕ
reply_numbers = 0 ∷ 21 ∷ 16 ∷ 17 ∷ []

-- one that does not go, without a copy
abbrev unsent : Obstacle → Ruling
unsent o = record { local = No; onward = onward.Refused o; granted = 0; took = 0; dropped = 0 }

module _ (seat : Seat) (rs : List Record) (port : ℕ) (octets : List ℕ) (room : ℕ) where
  -- page 02's relay as the mission sees it, and what it answers
  abbrev r : Relay
  r = relay_with seat rs

  abbrev pub answer : Answering
  answer = answering_of r seat.number seat.board.drop port octets room

  abbrev pub reply : Replied
  reply = replied_of r seat.number seat.board.drop port octets room

  -- what holds of none by 21, and of what page 02's relay gives, holds of what is answered; short is what is known then
  pub both_so : (P : Answering → Replied → Type 0) → (too_long rs ≡ true → P (no_answer 21) (no_reply 21)) → (too_long rs ≡ false → P answer reply)
      → P (answering_by seat rs port octets room) (replied_by seat rs port octets room)
  unfolding echo_reply echo_answering replied_to replied_of
  both_so P long short = by (too_long rs) refl
    where
      given : Answering → Replied
      given a = replied_to r a (way_for r Route a.destination) room

      by : (t : Bool) → too_long rs ≡ t → P (pick t (no_answer 21) answer) (given (pick t (no_answer 21) answer))
      by true e = long e
      by false e = short e

  -- ---- the cases
  module _ (Q : ℕ → Ruling → Type 0) (none : (n : ℕ) → listed reply_numbers n ≡ true → Q n no_ruling) (no_route : Q 0 (unsent NoRoute))
      (too-big : Q 0 (unsent TooBig)) (copies : (granted full : ℕ) → Q 0 (copies_of No granted full)) where
    way_so : (w : Option Way) → Q (replied_via r answer w room).refusal (replied_via r answer w room).ruling
    unfolding replied_among ruling_of
    way_so (Some way) = by (eqb fits 0)
      where
        fits : ℕ
        fits = bit_and way.port (wanted_of r way.port (sought_for answer way.code room)).fitting

        by : (t : Bool) → Q 0 (ruling_of No (pick t (wish.Refused TooBig) (wish.Wanted fits)) (wanted_of r way.port (sought_for answer way.code room)).full)
        by true = too-big
        by false = copies fits (wanted_of r way.port (sought_for answer way.code room)).full
    way_so None = no_route

    refused_so : Q answer.refusal no_ruling
    unfolding call_checks
    refused_so =
        none answer.refusal (ap (listed reply_numbers) (call_number r seat.number seat.board.drop port octets room)
        ∙ first_listed reply_numbers (call_checks r port room) refl refl)

    page_so : Q reply.refusal reply.ruling
    unfolding replied_of replied_to
    page_so = by (eqb answer.made 0)
      where
        given : Replied
        given = replied_via r answer (way_for r Route answer.destination) room

        by : (t : Bool) → Q (pick t (no_reply answer.refusal) given).refusal (pick t (no_reply answer.refusal) given).ruling
        by true = refused_so
        by false = way_so (way_for r Route answer.destination)

    -- What holds of these holds of every reply.
    pub reply_so : Q (replied_by seat rs port octets room).refusal (replied_by seat rs port octets room).ruling
    reply_so = both_so (λ (x : Answering) (e : Replied). Q e.refusal e.ruling) (λ long. none 21 refl) (λ short. page_so)

  -- ---- its precedence is the request's
  pub reply_precedence_so : (P : ℕ → Type 0) → P 0 → (answer.made ≡ 1 → P answer.precedence) → P (replied_by seat rs port octets room).precedence
  unfolding replied_of replied_to replied_among
  reply_precedence_so P none made =
      both_so (λ (x : Answering) (e : Replied). P e.precedence) (λ long. none) (λ short. by (eqb answer.made 0) refl)
    where
      way : answer.made ≡ 1 → (w : Option Way) → P (replied_via r answer w room).precedence
      way is (Some w) = made is
      way is None = made is

      by : (t : Bool) → eqb answer.made 0 ≡ t
          → P (pick t (no_reply answer.refusal) (replied_via r answer (way_for r Route answer.destination) room)).precedence
      by true e = none
      by false e =
          way (⊎_elim (λ z. absurd (eqb-false answer.made 0 e z)) (λ one. one) (made_or_not r seat.number seat.board.drop port octets room))
          (way_for r Route answer.destination)

  -- ---- the answer stands in the table
  abbrev Row : ℕ → Ruling → Type 0
  Row n x = stands echo_rows (replied n (onward_number x.onward) x.took) ≡ true

  refused_row : (n : ℕ) → listed reply_numbers n ≡ true → Row n no_ruling
  refused_row n h = by (eqb n 0) (eqb n 21) (eqb n 16) (eqb n 17) h
    where
      by : (z t u v : Bool) → (z || (t || (u || (v || false)))) ≡ true
          → (((t || (u || (v || false))) && true) || (((z || false) && true) || (((z || false) && false) || false))) ≡ true
      by z true u v k = refl
      by z false true v k = refl
      by z false false true k = refl
      by true false false false k = refl
      by false false false false k = k

  copied_row : (granted full : ℕ) → Row 0 (copies_of No granted full)
  unfolding copies_of
  copied_row granted full = by (eqb took 0) refl
    where
      took : ℕ
      took = except_by granted full

      by : (t : Bool) → eqb took 0 ≡ t → stands echo_rows (replied 0 (onward_number (pick t (onward.Refused QueuesFull) onward.SentOn)) took) ≡ true
      by true e = simp (e)
      by false e = simp (e)

  -- Every answer to a request stands in the table's rows of a reply.
  pub every_reply_is_listed : stands echo_rows (of_reply (replied_by seat rs port octets room)).answer ≡ true
  every_reply_is_listed = reply_so Row refused_row refl refl copied_row

  -- ---- the onward half is one of these
  abbrev Known : Onward → Type 0
  Known x = listed (0 ∷ 1 ∷ 11 ∷ 14 ∷ 15 ∷ []) (onward_number x) ≡ true

  copied_known : (granted full : ℕ) → Known (copies_of No granted full).onward
  unfolding copies_of
  copied_known granted full = either Known (eqb (except_by granted full) 0) refl refl

  pub reply_onward : Known (replied_by seat rs port octets room).ruling.onward
  reply_onward = reply_so (λ (n : ℕ) (x : Ruling). Known x.onward) (λ n is. refl) refl refl copied_known

  -- ---- a reply that is refused, or does not go, no port took
  abbrev Untaken : ℕ → Ruling → Type 0
  Untaken n x = is_refusal (replied n (onward_number x.onward) x.took) ≡ true → x.took ≡ 0

  copied_untaken : (granted full : ℕ) → Untaken 0 (copies_of No granted full)
  unfolding copies_of
  copied_untaken granted full = by (except_by granted full) (eqb (except_by granted full) 0) refl
    where
      by : (took : ℕ) (t : Bool) → eqb took 0 ≡ t
          → is_refusal (replied 0 (onward_number (pick t (onward.Refused QueuesFull) onward.SentOn)) took) ≡ true → took ≡ 0
      by took true e refused = eqb-true took 0 e
      by took false e refused = true_false (sym refused)

  pub reply_took_none : is_refusal (of_reply (replied_by seat rs port octets room)).answer ≡ true → (replied_by seat rs port octets room).ruling.took ≡ 0
  reply_took_none = reply_so Untaken (λ n is refused. refl) (λ refused. refl) (λ refused. refl) copied_untaken

  -- ---- the ports: all are of 0 to 7, and one that took it is set up
  pub reply_small : Small (replied_by seat rs port octets room).ruling
  reply_small =
      both_so (λ (x : Answering) (e : Replied). Small e.ruling) (λ long. record { granted = omega arith; took = omega arith; dropped = omega arith })
      (λ short. page-small r seat.number seat.board.drop port octets room)

  pub reply_set_up : (p : ℕ) → p < 8 → in_set p (replied_by seat rs port octets room).ruling.took ≡ true → port_set_up (relay_in seat) p ≡ true
  reply_set_up p inside =
      both_so (λ (x : Answering) (e : Replied). in_set p e.ruling.took ≡ true → port_set_up (relay_in seat) p ≡ true)
      (λ long took. true_false (sym took ∙ in_none p))
      (λ short took.
      (reply_fits r seat.number seat.board.drop port octets room p inside
      (reply_shared r seat.number seat.board.drop port octets room p inside (inl took))).set_up_lem)

-- What is granted to a port is taken or dropped there.
pub reply_fair : (seat : Seat) (p : ℕ) (inside : p < 8) (rs : List Record) (port : ℕ) (octets : List ℕ) (room : ℕ)
    → Fair seat p inside (replied_by seat rs port octets room).ruling
reply_fair seat p inside rs port octets room =
    both_so seat rs port octets room (λ (x : Answering) (e : Replied). Fair seat p inside e.ruling) (λ long. none_fair seat p inside onward.NotAsked)
    (λ short.
    fair_by seat p inside (reply seat rs port octets room).ruling
    (reply_took (relay_with seat rs) seat.number seat.board.drop port octets room p inside)
    (reply_dropped (relay_with seat rs) seat.number seat.board.drop port octets room p inside))
