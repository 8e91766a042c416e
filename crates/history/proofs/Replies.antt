-- Replies over histories: page 02, W-203. A call makes one exactly where all of the papers' conditions hold (`answered_exactly`); npOutRequests counts each that is
-- made (`requests_are_replies`), and nothing is counted as of a datagram that was received, delivered or sent on (`reply_counts_no_receipt`); what goes out is the
-- reply (`reply_is_sent`), and no relay makes a reply to it (`no_reply_to_a_reply`). Assumes nothing.
use native.Mathlib.Omega.{arith}
use Prim.Native.Nat.{ℕ, zero, suc, ◌%◌, ◌^◌, ◌<◌}
use mathlib.Core.Path.{◌≡◌, refl, sym, ap, ◌∙◌}
use mathlib.Core.Logic.{◌↔◌, ⊎_elim}
use mathlib.Core.Bool.{true, false, not}
use mathlib.Core.List.{List, [], ◌∷◌, ◌++◌}
use lib.Dec.{eqb}
use lib.ListN.{get_or, drop, replicate}
use borrow.Author.Tests.{eqb-false, ne_eqb, not-true, ltb-false, le-ltb}
use Rattle.checks.proofs.Bools.{true_false, not-false}
use Rattle.sets.specs.Sets.{in_set}
use Rattle.address.specs.declared.Slot.{Slot}
use Rattle.routes.specs.Search.{longer_mask}
use Rattle.routes.specs.declared.Record.{Record}
use Rattle.state.specs.Relay.{Relay, port_in, port_set_up, counter_in}
use Rattle.lent_state.specs.View.{too_long}
use Rattle.verdict.specs.Numbers.{onward_number}
use Rattle.survey.proofs.Bits.{in_none}
use Rattle.replies.specs.Replied.{call_checks, answering_of, wire_reply}
use Rattle.replies.specs.declared.Answering.{Answering}
use Rattle.replies.specs.declared.sending.Replied.{Replied}
use Rattle.page.proofs.Answered.{made_or_not, made_exactly}
use Rattle.page.proofs.Replies.{unasked_exactly}
use Rattle.page.proofs.Verdict.{masks_choose}
use Rattle.history.specs.Seat.{Seat, fresh_seat, relay_in, relay_with, answering_by, replied_by}
use Rattle.history.specs.Calls.{echoes, Call, own}
use Rattle.history.specs.Outcome.{Answer, number, ended, replied, entry, of_reply, outcome, next, seat_after, sum_from, sum_over}
use Rattle.history.specs.Tally.{sum_at, state_after}
use Rattle.history.specs.Ledger.{one}
use Rattle.history.specs.Sums.{ports_in, counted, counts, given_by}
use Rattle.history.specs.Line.{reply_copy, sent_of}
use Rattle.history.specs.Ranges.{Octets}
use Rattle.history.specs.Replies.{is_made, made, Answered, Unasked}
use Rattle.history.proofs.Replying.{answer, reply, both_so}
use Rattle.history.proofs.Sums.{moves_as_written, counted_as_written}
use Rattle.history.proofs.Reach.{kept_after}
use Rattle.history.proofs.Domain.{page_sent, page_unanswered}

-- ---- exactly when
module _ (seat : Seat) (rs : List Record) (port : ℕ) (octets : List ℕ) (room : ℕ) where
  abbrev r : Relay
  r = relay_with seat rs

  -- page 02's relay has made one exactly where its reply has an onward half
  made_is : (is_made (of_reply (reply seat rs port octets room)).answer ≡ true) ↔ ((answer seat rs port octets room).made ≡ 1)
  made_is =
      let n = onward_number (reply seat rs port octets room).ruling.onward in
      let none = unasked_exactly r seat.number seat.board.drop port octets room longer_mask (masks_choose r) in (
        λ h.
            ⊎_elim (λ z. absurd (eqb-false n 0 (not-true (eqb n 0) h) (none.1 z))) (λ e. e) (made_or_not r seat.number seat.board.drop port octets room),
        λ e. ap not (ne_eqb n 0 (λ z. omega (arith, e, none.0 z))),
      )

  page_answered : too_long rs ≡ false → (is_made (of_reply (reply seat rs port octets room)).answer ≡ true) ↔ Answered seat rs port octets room
  unfolding call_checks
  page_answered short = (
    λ h.
        let told = (made_exactly r seat.number seat.board.drop port octets room).0 (made_is.0 h) in
        record {
          short = short;
          ready = not-false (port_set_up r port) told.0.0;
          enough = ltb-false room (port_in r port).mtu told.0.1.0;
          request = told.1;
        },
    λ y.
        made_is.1
        ((made_exactly r seat.number seat.board.drop port octets room).1
        ((ap not y.ready, (le-ltb room (port_in r port).mtu y.enough, tt)), y.request)),
  )

  -- A reply is made exactly where all of the conditions hold.
  pub answered_exactly : (is_made (of_reply (replied_by seat rs port octets room)).answer ≡ true) ↔ Answered seat rs port octets room
  answered_exactly =
      both_so seat rs port octets room (λ (x : Answering) (e : Replied). (is_made (of_reply e).answer ≡ true) ↔ Answered seat rs port octets room)
      (λ long. (λ h. true_false (sym h), λ y. true_false (sym long ∙ y.short))) page_answered

-- ---- the counters
made_counted : (a : Answer) (copies : ℕ) → get_or (counted a copies) 17 0 ≡ one (is_made a)
made_counted (number n) copies = refl
made_counted (ended refusal local onward took) copies = refl
made_counted (replied refusal onward took) copies = refl
made_counted (entry e) copies = refl

all_made : (cs : List Call) (seat : Seat) → sum_from (given_by 17) seat cs ≡ sum_from made seat cs
all_made [] seat = refl
all_made (c ∷ cs) seat = rw (made_counted (outcome seat c).answer (ports_in 8 (outcome seat c).dropped), all_made cs (next seat c))

-- After any history npOutRequests is the number of replies that were made, those that did not go too, modulo 2^32.
pub requests_are_replies : (m : ℕ) (cs : List Call) → counter_in (state_after m cs).counters 17 ≡ sum_over made m cs % 2 ^ 32
requests_are_replies m cs = counted_as_written 17 (omega arith) m cs ∙ ap (λ (n : ℕ). n % 2 ^ 32) (all_made cs (fresh_seat m))

zeros_at : (k : ℕ) (l : List ℕ) (i : ℕ) → i < k → get_or (replicate k 0 ++ l) i 0 ≡ 0
zeros_at zero l i h = absurd (omega arith)
zeros_at (suc k) l zero h = refl
zeros_at (suc k) l (suc i) h = zeros_at k l i (omega arith)

-- A reply moves none of the first eleven counters: of what is received, refused, delivered or sent on, npForwDatagrams the last.
pub reply_counts_no_receipt : (seat : Seat) (rs : List Record) (port : ℕ) (slot : Slot) (octets output : List ℕ) (i : ℕ) → i < 11
    → sum_at (outcome seat (own (echoes rs port slot octets output))).moves i ≡ 0
reply_counts_no_receipt seat rs port slot octets output i low =
    moves_as_written seat (own (echoes rs port slot octets output)) i (omega (arith, low))
    ∙ zeros_at 11 (drop 11 (counts (outcome seat (own (echoes rs port slot octets output))))) i low

-- ---- what goes out
-- where page 02's relay makes none, no call with these octets does
unmade : (octets : List ℕ) → ((other : Relay) (mission drops by lent : ℕ) → (answering_of other mission drops by octets lent).made ≡ 0) → Unasked octets
unmade octets none other others by lent =
    let s = relay_with other others in
    both_so other others by octets lent (λ (a : Answering) (e : Replied). is_made (of_reply e).answer ≡ false) (λ long. refl)
    (λ short.
    ap (λ (n : ℕ). not (eqb n 0))
    ((unasked_exactly s other.number other.board.drop by octets lent longer_mask (masks_choose s)).1 (none s other.number other.board.drop by lent)))

module _ (m : ℕ) (cs : List Call) (rs : List Record) (port : ℕ) (octets : List ℕ) (room : ℕ) (small : Octets octets) (p : ℕ) (inside : p < 8) where
  abbrev seat : Seat
  seat = seat_after m cs

  -- The octets that go out by a port that took a reply, after any history of mission m, are the reply, with the header for that port.
  pub reply_is_sent : in_set p (replied_by seat rs port octets room).ruling.took ≡ true → (n : ℕ) (slot : Slot)
      → sent_of (reply_copy n seat port slot octets (answering_by seat rs port octets room) (replied_by seat rs port octets room))
      ≡ wire_reply (answering_by seat rs port octets room) (replied_by seat rs port octets room) octets
  reply_is_sent =
      both_so seat rs port octets room
      (λ (a : Answering) (e : Replied).
      in_set p e.ruling.took ≡ true → (n : ℕ) (slot : Slot) → sent_of (reply_copy n seat port slot octets a e) ≡ wire_reply a e octets)
      (λ long took. true_false (sym took ∙ in_none p))
      (λ short took n slot. page_sent p inside seat rs n port slot octets room small (kept_after m cs) took (port_in (relay_in seat) port).address)

  -- No relay makes a reply to it.
  pub no_reply_to_a_reply : in_set p (replied_by seat rs port octets room).ruling.took ≡ true
      → Unasked (wire_reply (answering_by seat rs port octets room) (replied_by seat rs port octets room) octets)
  no_reply_to_a_reply =
      both_so seat rs port octets room (λ (a : Answering) (e : Replied). in_set p e.ruling.took ≡ true → Unasked (wire_reply a e octets))
      (λ long took. true_false (sym took ∙ in_none p))
      (λ short took.
      unmade (wire_reply (answer seat rs port octets room) (reply seat rs port octets room) octets)
      (page_unanswered p inside seat rs 0 port (record { 0 = 0 }) octets room small (kept_after m cs) took))
