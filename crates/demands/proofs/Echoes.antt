-- What is promised of echo messages is kept. Assumes nothing.
use Rattle.std.specs.Prelude.{Option, Some, None}
use native.Mathlib.Omega.{arith}
use Prim.Native.Nat.{ℕ, ◌+◌, ◌%◌, ◌^◌, ◌<◌, ◌≤◌}
use mathlib.Core.Path.{◌≡◌, refl, sym, ap, ap₂, subst, subst⁻¹, ◌∙◌}
use mathlib.Core.Logic.{◌⊎◌, inl, inr, ◌↔◌, ◌≢◌, ⊎_elim}
use mathlib.Core.Bool.{Bool, true, false, not, ◌||◌}
use mathlib.Core.List.{List, [], ◌∷◌, ◌++◌}
use lib.ListN.{get_or, length, take}
use lib.Dec.{eqb}
use borrow.Author.Tests.{eq-eqb}
use Rattle.checks.specs.Order.{pick, NoneHolds}
use Rattle.checks.proofs.Bools.{true_false, not-false, or_true}
use Rattle.checks.proofs.Laws.{either}
use Rattle.address.specs.declared.Address.{Address}
use Rattle.address.specs.declared.Slot.{Slot}
use Rattle.octets.specs.Octets.{fronted}
use Rattle.header.specs.Limits.{length_limit}
use Rattle.header.specs.Read.{length_of, header_of, read_of, Read}
use Rattle.header.specs.Build.{size_of, header_octets}
use Rattle.header.specs.declared.Fields.{Fields}
use Rattle.header.specs.declared.Header.{Header}
use Rattle.checks.specs.Told.{Good, Refused}
use Rattle.header.proofs.Beyond.{agree_up_to_the_length}
use Rattle.echo.specs.Message.{message_octets, reading_of, echoed_in, Reading}
use Rattle.echo.specs.declared.Seen.{Seen}
use Rattle.echo.specs.declared.Kind.{Kind}
use Rattle.echo.specs.declared.Kind.TheVariants.{Request, Reply}
use Rattle.echo.specs.declared.Message.{Message}
use Rattle.meaning.specs.Names.{aim_of, origin_of}
use Rattle.queue.specs.Order.{Each}
use Rattle.next_leg.specs.Leg.{asks_checksum, checksum_next, next_fields}
use Rattle.next_leg.proofs.Names.{stays_home}
use Rattle.routes.specs.Routes.{candidate}
use Rattle.routes.specs.Search.{longer_mask}
use Rattle.routes.specs.declared.Record.{Record}
use Rattle.routes.proofs.Longest.{Contiguous}
use Rattle.sets.specs.Limits.{port_count, counter_count}
use Rattle.sets.specs.Sets.{in_set}
use Rattle.state.specs.Relay.{Mission, Relay, port_in, port_set_up, route_in}
use Rattle.state.specs.Seen.{Board, State, fresh_board}
use Rattle.survey.proofs.Bits.{in_none}
use Rattle.lookup.specs.ForTarget.{way_for}
use Rattle.lent_state.specs.View.{Lent, Held, Other, lent_board, lent, by_lent, told_board, told as told_of, told_both, too_long}
use Rattle.lent_state.proofs.Same.{lent_injective}
use Rattle.listing.specs.Listed.{seen}
use Rattle.listing.proofs.Counting.{seen_contiguous}
use Rattle.verdict.specs.Numbers.{onward_number}
use Rattle.verdict.specs.declared.Ruling.{Ruling}
use Rattle.verdict.specs.declared.Target.TheVariants.{Route}
use Rattle.verdict.specs.declared.Way.{Way}
use Rattle.judge.specs.Ending.{no_ruling}
use Rattle.replies.specs.Request.{user_data}
use Rattle.replies.specs.Reply.{no_answer, reply_qos, reply_fields}
use Rattle.replies.specs.Replied.{
  call_checks,
  answering_of,
  no_reply,
  replied_among,
  replied_via as by_way,
  replied_to,
  replied_of,
  wire_fields,
  message_size,
  wire_length,
  wire_header,
  wire_reply,
  replied_output,
  echoed_of,
}
use Rattle.replies.specs.declared.Answering.{Answering}
use Rattle.replies.specs.declared.sending.Replied.{Replied}
use Rattle.replies.proofs.Goes.{some_port_lem}
use Rattle.replies.proofs.Made.{was_made}
use Rattle.replies.proofs.Requested.{made_requested}
use Rattle.replies.proofs.Meaning.{reply_meaning}
use Rattle.replies.proofs.Unanswered as unanswered
use Rattle.tally.specs.Tally.{counted_at, counted_all, reply_moves}
use Rattle.answering.specs.Echoed.{as_ending, replied_state, echo_answering, echo_reply}
use Rattle.answering.specs.Split.{number_for}
use Rattle.answers.specs.Answers.{ruling_parts, header_parts, part_at, reply_number}
use Rattle.answers.proofs.Digits.{ReplyRead}
use Rattle.page.specs.Table.{GivenBy, aim_at, equals_port, one_octet, lies_far}
use Rattle.page.specs.Sought.{RouteTaken}
use Rattle.page.specs.Replies.{RequestAnswered, ReplyTo, reply_verdict, RepliesAs}
use Rattle.page.proofs.Verdict.{masks_choose}
use Rattle.page.proofs.Answered.{made_or_not, made_tells, made_exactly, answered_exactly, reply_of_lem}
use Rattle.page.proofs.Replies.{
  unasked_exactly,
  reply_no_route,
  reply_granted,
  reply_shared,
  reply_fits,
  reply_route_taken,
  reply_wired,
  reply_refused,
  reply_names_the_same,
  reply_is_the_page,
  reply_at_most_one,
}
use Rattle.harpjuniper_echo.specs.Face.{echo_answer}
use Rattle.contracts.specs.Promised.{Result, lent_to, hj_echo}
use Rattle.contracts.specs.Stated.{Says}
use Rattle.contracts.proofs.Rows.{says_row}
use Rattle.history.specs.Calls.{orders, drop_flag, views, MissionCall, echoes, Call, operator, own}
use Rattle.history.specs.Seat.{Seat, fresh_seat, state_of, relay_in, relay_with, answering_by, replied_by}
use Rattle.history.specs.Outcome.{Answer, replied, own_outcome, next, run_from, sum_from, sum_over}
use Rattle.history.specs.Parts.{drop, the_drop, About}
use Rattle.history.specs.Replies.{is_made}
use Rattle.history.specs.Replies as replies
use Rattle.history.specs.Ledger.{one}
use Rattle.history.specs.Sums.{counted, ports_in}
use Rattle.history.specs.Line.{Copy, reply_copy, taken_own}
use Rattle.history.proofs.Domain.{set_up_small}
use Rattle.history.proofs.Ports.{number_stays}
use Rattle.history.proofs.Reach.{kept_after}
use Rattle.history.proofs.Refusals.{nobody_took}
use Rattle.history.proofs.Holds.{holds_until_changed}
use Rattle.history.proofs.Replies.{requests_are_replies, reply_is_sent}
use Rattle.history.proofs.Replying.{answer, reply, both_so, reply_fair}
use Rattle.history.proofs.Replying.{reply_small as small-sets}
use Rattle.history.proofs.Sums.{moves_as_written}
use Rattle.demands.specs.Trace.{
  Customer,
  first,
  number_of,
  Step,
  flies,
  Words,
  mission_of,
  made as made_on,
  words_after,
  Begun,
  history_of,
  board_of,
  seat_of,
  relay_for,
  Gives,
}
use Rattle.demands.specs.ReadOut.{own_out, ended_by, onward_in, took_in, dropped_in, reply_octets, reply_out, counter_at}
use Rattle.demands.specs.Echoes.{reply_made, replies_in, AnsweredAs, ReplyOnTheWire, ReplyPlaced, Echoes}
use Rattle.demands.proofs.Promised.{next_state}
use Rattle.demands.proofs.Traced.{board_is, words_hold}
use Rattle.demands.proofs.Told.{gives_row, counters, counters_move}
use Rattle.demands.proofs.Fitting.{mtu_fits}
use Rattle.demands.proofs.Replied.{picks, leaves, told, none_found, found, behind, short_is, taken_short_list}
use Rattle.demands.proofs.Whole.{whole, reply_unwritten}
use Rattle.demands.proofs.Messages as messages
use Rattle.demands.proofs.Stamps.{stamp_placed}
use Rattle.demands.proofs.Beyond.{answering_alike, echoed_alike}
use Rattle.demands.proofs.ReadOut.{read_out_lem}
use Rattle.demands.proofs.Over.{over_calls, over_is}
use Rattle.demands.proofs.Demand3.{counter_reads, waiting_reads, full_is}
use Rattle.demands.proofs.Floods.{begin}

-- ---- of any relay
module _ (r : Relay) (number dropping at : ℕ) (octets : List ℕ) (room : ℕ) where
  abbrev made : Answering
  made = answering_of r number dropping at octets room

  abbrev sent : Replied
  sent = replied_of r number dropping at octets room

  -- none is made, and so none goes
  unmade_is : made.made ≡ 0 → sent ≡ no_reply made.refusal
  unfolding replied_of replied_to
  unmade_is z = picks _ _ _ (eq-eqb made.made 0 z)

  -- the entry has the precedence of the request
  precedence_way : (w : Option Way) → (by_way r made w room).precedence ≡ made.precedence
  unfolding replied_among
  precedence_way None = refl
  precedence_way (Some way) = refl

  precedence_is : made.made ≡ 1 → sent.precedence ≡ made.precedence
  unfolding replied_of replied_to
  precedence_is is =
      ap (λ (e : Replied). e.precedence) (leaves (eqb made.made 0) (no_reply made.refusal) _ (rw is)) ∙ precedence_way (way_for r Route made.destination)

-- a relay that makes none tells C that none goes
none_told : (n : ℕ) → part_at 16 (number_for (no_reply n)) ≡ 0
unfolding reply_number ruling_parts header_parts
none_told n = omega arith

-- nothing stands above the octets of a reply
number_low : (refusal : ℕ) (x : Ruling) (octets : ℕ) → reply_number refusal x octets < 2 ^ 56
unfolding reply_number ruling_parts header_parts
number_low refusal x octets = omega arith

-- and of a call that is refused its number alone
alone_told : (n : ℕ) → number_for (no_reply n) ≡ n % 256
unfolding reply_number ruling_parts header_parts
alone_told n = omega arith

ended_told : (n : ℕ) → part_at 0 (number_for (no_reply n)) ≡ n % 256
unfolding reply_number ruling_parts header_parts
ended_told n = omega arith

-- ---- a header on the wire, field by field: W-214 changes the addresses and the checksum alone
record Wired (f g : Fields) (code : ℕ) : Type 0 where
  hops : g.hops ≡ f.hops
  tpid : g.tpid ≡ f.tpid
  stamp : g.stamp ≡ f.stamp
  expanded : g.expanded ≡ f.expanded
  intermediate : g.intermediate ≡ f.intermediate
  qos : g.qos ≡ f.qos
  checksum : g.checksum ≡ checksum_next code f.checksum

wired : (far : Bool) (arrival code : ℕ) (f : Fields) → Wired f (wire_fields far arrival code f) code
unfolding wire_fields
wired far arrival code f =
    record { hops = refl; tpid = refl; stamp = refl; expanded = refl; intermediate = refl; qos = refl; checksum = refl }

reply_qos_lem : (arrival : Address) (mine : Bool) (f : Fields) → (reply_fields arrival mine f).qos ≡ reply_qos f.qos
unfolding reply_fields
reply_qos_lem arrival mine f = refl

-- and its octets, with the message
wire_whole : (a : Answering) (e : Replied) (octets : List ℕ) (far : Bool) → not (eqb e.far 0) ≡ far
    → wire_reply a e octets
    ≡ header_octets (wire_fields far a.arrival.0 e.code a.fields) (message_size a) ++ message_octets a.message (echoed_of a octets)
unfolding wire_reply
wire_whole a e octets far is =
    ap
    (λ (t : Bool).
    header_octets (wire_fields t a.arrival.0 e.code a.fields) (message_size a) ++ message_octets a.message (echoed_of a octets)) is

-- ---- what is told of any board and any mission
module _ {A : Type 0} (P : A → Type 0) where
  board_any : (f : Board → A) (d : A) (w : List ℕ) → P d → ((b : Board) → P (f b)) → P (told_board f d w)
  unfolding told_board
  board_any f d w other all = by (lent_board w)
    where
      by : (v : Lent Board) → P (by_lent f d v)
      by (Held b) = all b
      by (Other o) = other

  state_any : (f : State → A) (d : A) (w : List ℕ) → P d → ((s : State) → P (f s)) → P (told_of f d w)
  unfolding told_of
  state_any f d w other all = by (lent w)
    where
      by : (v : Lent State) → P (by_lent f d v)
      by (Held s) = all s
      by (Other o) = other

  both_any : (f : Board → State → A) (d : A) (v w : List ℕ) → P d → ((b : Board) (s : State) → P (f b s)) → P (told_both f d v w)
  both_any f d v w other all = board_any (λ (b : Board). told_of (f b) d w) d v other (λ b. state_any (f b) d w other (all b))

-- octets that no relay makes a reply to
abbrev NoneAnswers : List ℕ → Type 0
NoneAnswers octets = (r : Relay) (number dropping at room : ℕ) → (answering_of r number dropping at octets room).made ≡ 0

module _ (octets : List ℕ) (none : NoneAnswers octets) where
  unmade : (x : Board) (s : State) (rs : List Record) (p room : ℕ) → (echo_answering x s rs p octets room).made ≡ 0
  unfolding echo_answering
  unmade x s rs p room = either (λ (y : Answering). y.made ≡ 0) (too_long rs) refl (none (seen x s rs) s.number x.drop p room)

  no_reply_lem : (x : Board) (s : State) (rs : List Record) (p room : ℕ) → part_at 16 (number_for (echo_reply x s rs p octets room)) ≡ 0
  unfolding echo_reply replied_to
  no_reply_lem x s rs p room =
      ap (λ (z : Replied). part_at 16 (number_for z)) (picks _ _ _ (eq-eqb _ 0 (unmade x s rs p room))) ∙ none_told (echo_answering x s rs p octets room).refusal

  never_answered : (b m : List ℕ) (rs : List Record) (p n : ℕ) (o : List ℕ) (y : Result) → Says (hj_echo b m rs p n octets o) y → onward_in y ≡ 0
  unfolding echo_answer
  never_answered b m rs p n o y says =
      ap (part_at 16) (says_row (hj_echo b m rs p n octets o) y says).answer ∙ by (too_long rs)
    where
      by : (t : Bool) → part_at 16 (pick t 21 (told_both (λ (x : Board) (s : State). number_for (echo_reply x s rs p octets (length o))) 16 b m)) ≡ 0
      by true = refl
      by false = both_any (λ (k : ℕ). part_at 16 k ≡ 0) _ 16 b m refl (λ x s. no_reply_lem x s rs p (length o))

-- ---- user data that are a reply are no request, whatever header they stand behind
abbrev header_in : Header → Read → Header
header_in d (Good h) = h
header_in d (Refused n) = d

abbrev message_in : Message → Reading → Message
message_in d (Good m) = m
message_in d (Refused n) = d

abbrev is_reply : Kind → Bool
is_reply Request = false
is_reply (Reply z) = true

module _ (s : List ℕ) (h : Header) (k : Message) (z : Seen) (reads : read_of s ≡ Good h) (holds : reading_of (user_data h s) ≡ Good k)
    (is : k.kind ≡ Reply z) where
  no_request : (r : Relay) (dropping at : ℕ) → RequestAnswered r dropping at s → ⊥
  no_request r dropping at q =
      let same : header_of s ≡ h = ap (header_in h) (sym q.reads ∙ reads) in
      let held : q.message ≡ k = ap (message_in k) (sym q.holds ∙ ap (λ (t : Header). reading_of (user_data t s)) same ∙ holds) in
      true_false (sym (ap is_reply (sym q.request ∙ ap (λ (t : Message). t.kind) held ∙ is)))

  reply_unanswered : NoneAnswers s
  reply_unanswered r number dropping at room =
      ⊎_elim (λ none. none) (λ one. absurd (no_request r dropping at (made_tells r number dropping at s room one).0))
      (made_or_not r number dropping at s room)

-- ---- two requests that are alike up to the length field
module _ (seat : Seat) (rs : List Record) (at : ℕ) (s t output : List ℕ) (n : ℕ) (long : length_of s ≤ n) (AgreeAt : take n t ≡ take n s)
    (same : read_of t ≡ read_of s) where
  answering_same : answering_by seat rs at t (length output) ≡ answering_by seat rs at s (length output)
  unfolding echo_answering
  answering_same =
      ap (λ (y : Answering). pick (too_long rs) (no_answer 21) y)
      (answering_alike s t n long AgreeAt same (relay_with seat rs) seat.number seat.board.drop at (length output))

  reply_same : replied_by seat rs at t (length output) ≡ replied_by seat rs at s (length output)
  unfolding echo_reply
  reply_same =
      let r = relay_with seat rs in
      ap (λ (y : Answering). replied_to r y (way_for r Route y.destination) (length output)) answering_same

  -- what is written of one is written of the other
  abbrev SameOut : Answering → Replied → Type 0
  SameOut y w = replied_output y w t output ≡ replied_output y w s output

  none_same : (y : Answering) (w : Replied) → w.ruling.took ≡ 0 → SameOut y w
  unfolding replied_output
  none_same y w none = picks _ _ _ (eq-eqb w.ruling.took 0 none) ∙ sym (picks _ _ _ (eq-eqb w.ruling.took 0 none))

  echoed_same : (y : Answering) (w : Replied) → echoed_of y t ≡ echoed_of y s → SameOut y w
  unfolding replied_output wire_reply
  echoed_same y w is =
      ap
      (λ (l : List ℕ).
      pick (eqb w.ruling.took 0) output (fronted (wire_header y w ++ message_octets y.message l) output)) is

  output_same : SameOut (answering_by seat rs at s (length output)) (replied_by seat rs at s (length output))
  output_same =
      let r = relay_with seat rs in
      let a = answer seat rs at s (length output) in
      let e = reply seat rs at s (length output) in
      both_so seat rs at s (length output) SameOut (λ too. none_same (no_answer 21) (no_reply 21) refl)
      (λ short.
      ⊎_elim
      (λ none. none_same a e (ap (λ (w : Replied). w.ruling.took) (unmade_is r seat.number seat.board.drop at s (length output) none)))
      (λ one. echoed_same a e (echoed_alike s t n long AgreeAt same r seat.number seat.board.drop at (length output) one))
      (made_or_not r seat.number seat.board.drop at s (length output)))

module _ (who : Customer) (steps : List Step) (rs : List Record) (at : ℕ) (slot : Slot) (s t output : List ℕ) (n : ℕ) (x y : Result) where
  no_further : length_of s ≤ n → take n t ≡ take n s → read_of t ≡ read_of s → Gives steps (flies who (echoes rs at slot s output)) x
      → Gives steps (flies who (echoes rs at slot t output)) y
      → (y.answer ≡ x.answer) × ((y.left.mission ≡ x.left.mission) × (y.left.output ≡ x.left.output))
  no_further long AgreeAt same g k =
      let seat = seat_of who steps in
      let one = gives_row who steps (own (echoes rs at slot s output)) x g in
      let two = gives_row who steps (own (echoes rs at slot t output)) y k in
      let is = reply_same seat rs at s t output n long AgreeAt same in
      let left : Replied → Lent State = λ (e : Replied). Held (replied_state seat.board (state_of seat (counters who steps)) slot e) in (
        two.answer ∙ ap number_for is ∙ sym one.answer,
        (
          lent_injective y.left.mission x.left.mission (two.mission ∙ ap left is ∙ sym one.mission),
          two.output
              ∙ ap₂ (λ (a : Answering) (e : Replied). replied_output a e t output) (answering_same seat rs at s t output n long AgreeAt same) is
              ∙ output_same seat rs at s t output n long AgreeAt same
              ∙ sym one.output,
        ),
      )

-- ---- after a trace
module _ (who : Customer) (steps : List Step) (rs : List Record) (at : ℕ) (slot : Slot) (octets output : List ℕ) (x : Result)
    (g : Gives steps (flies who (echoes rs at slot octets output)) x) where
  abbrev seat : Seat
  seat = seat_of who steps

  abbrev room : ℕ
  room = length output

  abbrev drops : ℕ
  drops = seat.board.drop

  -- page 02's relay, as the customer sees it, the reply that it makes, and what becomes of it
  abbrev q : Relay
  q = relay_for who steps rs

  abbrev a : Answering
  a = answer seat rs at octets room

  abbrev e : Replied
  e = reply seat rs at octets room

  -- the same said of the board and the customer's number
  number_is : seat.number ≡ number_of who
  number_is = number_stays (history_of who steps) (fresh_seat (number_of who))

  as_said : (P : ℕ → Answering → Type 0) → P drops a → P (board_of steps).drop (reply_made who steps rs at octets output)
  as_said P h =
      subst (λ (b : Board). P b.drop (answering_of q (number_of who) b.drop at octets room)) (board_is who steps)
      (subst (λ (n : ℕ). P drops (answering_of q n drops at octets room)) number_is h)

  small : (i : ℕ) → get_or octets i 0 < 256
  small = g.passes.1

  contiguous : Contiguous q.routes
  contiguous = seen_contiguous seat.board rs seat.number

  -- with a list that is not too long
  module _ (short : too_long rs ≡ false) where
    is : replied_by seat rs at octets room ≡ e
    is = (short_is who steps rs at slot octets output x g short).1

    parts : ReplyRead x.answer e.refusal (onward_number e.ruling.onward) e.ruling.took e.ruling.dropped e.octets
    parts =
        subst
        (λ (z : Replied). ReplyRead x.answer z.refusal (onward_number z.ruling.onward) z.ruling.took z.ruling.dropped z.octets) is
        (told who steps rs at slot octets output x g)

    page : RepliesAs e (reply_verdict q at a room)
    page = reply_is_the_page q contiguous seat.number drops at octets room

    free : ended_by x ≡ 0 → NoneHolds (call_checks q at room)
    free z = (reply_refused q seat.number drops at octets room).0.0 (sym parts.at_0 ∙ z)

    made_one : onward_in x ≢ 0 → a.made ≡ 1
    made_one some =
        ⊎_elim (λ z. absurd (some (parts.at_16 ∙ (unasked_exactly q seat.number drops at octets room longer_mask (masks_choose q)).1 z))) (λ one. one)
        (made_or_not q seat.number drops at octets room)

    one_made : a.made ≡ 1 → onward_in x ≢ 0
    one_made one z =
        let none = (unasked_exactly q seat.number drops at octets room longer_mask (masks_choose q)).0 (sym parts.at_16 ∙ z) in
        omega (arith, one, none)

    some_took : took_in x ≢ 0 → (replied_by seat rs at octets room).ruling.took ≢ 0
    some_took some z = some ((told who steps rs at slot octets output x g).at_24 ∙ z)

    none_took : took_in x ≡ 0 → (replied_by seat rs at octets room).ruling.took ≡ 0
    none_took z = sym (told who steps rs at slot octets output x g).at_24 ∙ z

    -- a call that is refused makes none, and tells its number alone
    refused_none : ended_by x ≢ 0 → e ≡ no_reply a.refusal
    refused_none some =
        unmade_is q seat.number drops at octets room
        (⊎_elim (λ z. z)
        (λ one.
        absurd (some (parts.at_0 ∙ (reply_refused q seat.number drops at octets room).0.1 ((made_exactly q seat.number drops at octets room).0 one).0)))
        (made_or_not q seat.number drops at octets room))

    refused_alone : ended_by x ≢ 0 → x.answer ≡ ended_by x
    refused_alone some =
        let n = a.refusal in
        let none = refused_none some in
        let number : x.answer ≡ number_for (no_reply n) =
        (gives_row who steps (own (echoes rs at slot octets output)) x g).answer ∙ ap number_for (is ∙ none) in
        number ∙ alone_told n ∙ sym (ap (part_at 0) number ∙ ended_told n)

    answered_as : AnsweredAs q drops at octets output a x
    answered_as =
        record {
          refusal = subst⁻¹ (GivenBy (call_checks q at room)) parts.at_0 (reply_refused q seat.number drops at octets room);
          answered = λ z. (
            λ some. (answered_exactly q seat.number drops at octets room (free z)).0 (made_one some),
            λ y. one_made ((answered_exactly q seat.number drops at octets room (free z)).1 y),
          );
          reply = λ z y. reply_of_lem q seat.number drops at octets room (free z) y;
          onward = parts.at_16 ∙ page.onward;
          took = λ p inside. ap (in_set p) parts.at_24 ∙ page.took p inside;
          dropped = λ p inside. ap (in_set p) parts.at_32 ∙ page.dropped p inside;
          no_local = parts.at_8;
          above = subst⁻¹ (λ (n : ℕ). n < 2 ^ 56) (gives_row who steps (own (echoes rs at slot octets output)) x g).answer (number_low _ _ _);
          alone = refused_alone;
          written = λ some. behind who steps rs at slot octets output x g (some_took some);
          unwritten = λ z. none_found who steps rs at slot octets output x g (none_took z);
        }

    -- ---- a port that took it or dropped it
    shared : (p : ℕ) → p < port_count → (in_set p (took_in x) || in_set p (dropped_in x)) ≡ true
        → (in_set p e.ruling.took ≡ true) ⊎ (in_set p e.ruling.dropped ≡ true)
    shared p inside h =
        ⊎_elim (λ t. inl (ap (in_set p) (sym parts.at_24) ∙ t)) (λ t. inr (ap (in_set p) (sym parts.at_32) ∙ t))
        (or_true (in_set p (took_in x)) (in_set p (dropped_in x)) h)

    module _ (p : ℕ) (inside : p < port_count) (h : in_set p (took_in x) ≡ true) where
      took : in_set p e.ruling.took ≡ true
      took = ap (in_set p) (sym parts.at_24) ∙ h

      granted : in_set p e.ruling.granted ≡ true
      granted = reply_shared q seat.number drops at octets room p inside (inl took)

      is_made_lem : a.made ≡ 1
      is_made_lem = ((reply_granted q seat.number drops at octets room longer_mask (masks_choose q) p inside).0 granted).0

      some : a.made ≢ 0
      some z = omega (arith, is_made_lem, z)

      tells : ReplyTo q at octets (made_tells q seat.number drops at octets room is_made_lem).0.message a
      tells = (made_tells q seat.number drops at octets room is_made_lem).1

      here : (port_in q at).address.0 < 2 ^ 32
      unfolding call_checks
      here =
          set_up_small seat (kept_after (number_of who) (history_of who steps)) at
          (not-false (port_set_up q at) ((made_exactly q seat.number drops at octets room).0 is_made_lem).0.0)

      wide : (port_in q at).mtu < 2 ^ 32
      wide = mtu_fits who steps g.begun.passed rs at

      out_is : reply_out x ≡ wire_reply a e octets
      out_is =
          found who steps rs at slot octets output x g (some_took (λ z. true_false (sym (sym (ap (in_set p) z) ∙ h) ∙ in_none p)))
          ∙ ap₂ (λ (y : Answering) (z : Replied). wire_reply y z octets) (short_is who steps rs at slot octets output x g short).0 is

      far_is : not (eqb e.far 0) ≡ lies_far q at p
      far_is = (reply_wired q seat.number drops at octets room).far p inside took

      length_is : reply_octets x ≡ wire_length (lies_far q at p) a e.code
      length_is = parts.wide ∙ (reply_wired q seat.number drops at octets room).octets p inside took

      abbrev header : Bool → Header
      header far =
          record {
            fields = wire_fields far a.arrival.0 e.code a.fields;
            length = wire_length far a e.code;
            size = size_of (wire_fields far a.arrival.0 e.code a.fields);
          }

      none_answers : NoneAnswers (reply_out x)
      none_answers =
          subst⁻¹ NoneAnswers out_is
          (λ other mission off by lent. unanswered.wire_unanswered q seat.number drops at octets room some small here wide e other mission off by lent)

      -- with addresses of one octet it goes into no other domain
      stays : (far : Bool) → one_octet (wire_fields far a.arrival.0 e.code a.fields).addresses ≡ true → far ≡ false
      unfolding wire_fields next_fields
      stays far one-octet =
          let n = seat.number in
          let y = made_requested q n drops at octets room (was_made q n drops at octets room some) in
          let free = (reply_meaning q n drops at octets room some y).free in
          stays_home a.arrival.0 e.code far a.fields (λ b. absurd (omega (arith, b, free))) one-octet

      on_wire : ReplyOnTheWire q at p octets output a x
      on_wire =
          let passed = reply_fits q seat.number drops at octets room p inside granted in
          let names = reply_names_the_same q seat.number drops at octets room p inside took in
          let w = wired (lies_far q at p) a.arrival.0 e.code a.fields in
          let qos =
          w.qos ∙ ap (λ (f : Fields). f.qos) tells.fields ∙ reply_qos_lem (port_in q at).address (equals_port q (aim_at q at octets)) (header_of octets).fields in
          let origin =
          ap (λ (t : Bool). origin_of (port_in q p).address.0 (wire_fields t a.arrival.0 e.code a.fields).addresses) (sym far_is) ∙ names.1 in
          record {
            goes = header (lies_far q at p);
            reads =
                ap read_of out_is
                ∙ unanswered.wire_reads q seat.number drops at octets room some small here wide e
                ∙ ap (λ (t : Bool). Good (header t)) far_is;
            fields = ap₂ (λ (z : Address) (code : ℕ). wire_fields (lies_far q at p) z.0 code a.fields) tells.arrival page.code;
            hops = w.hops ∙ tells.hops;
            control = w.tpid ∙ tells.control;
            unstamped = w.stamp ∙ tells.unstamped;
            unexpanded = w.expanded ∙ tells.unexpanded;
            not_between = w.intermediate ∙ tells.not_between;
            no_qos = λ none. qos ∙ ap reply_qos none;
            qos_kept = λ n routing program some. qos ∙ ap reply_qos some;
            summed = w.checksum ∙ ap₂ (λ (code on : ℕ). pick (asks_checksum code) 1 on) page.code tells.unsummed;
            whole = out_is ∙ wire_whole a e octets (lies_far q at p) far_is;
            long = sym length_is;
            fits = subst⁻¹ (λ (n : ℕ). n ≤ (port_in q p).mtu) length_is passed.mtu;
            short = subst⁻¹ (λ (n : ℕ). n < length_limit) length_is passed.short;
            room = subst⁻¹ (λ (n : ℕ). n ≤ room) length_is passed.lent;
            aim =
                ap (λ (t : Bool). aim_of (port_in q p).address.0 (wire_fields t a.arrival.0 e.code a.fields).addresses) (sym far_is) ∙ names.0;
            from_own = λ d aimed own. origin ∙ tells.from_own d aimed own;
            from_arrival = λ other. origin ∙ tells.from_arrival other;
            domain = stays (lies_far q at p);
            message =
                ap₂ (λ (t : Bool) (o : List ℕ). reading_of (user_data (header t) o)) (sym far_is) out_is
                ∙ unanswered.wire_message q seat.number drops at octets room some small here wide e;
            echoed =
                ap₂ (λ (t : Bool) (o : List ℕ). echoed_in a.message (user_data (header t) o)) (sym far_is) out_is
                ∙ unanswered.wire_echoes q seat.number drops at octets room some small here wide e;
          }

      placed_as : ReplyPlaced who steps p at slot octets a x (taken_own p (length (history_of who steps)) seat (echoes rs at slot octets output))
      placed_as =
          let n = length (history_of who steps) in
          let c : Copy = reply_copy n seat at slot octets (answering_by seat rs at octets room) (replied_by seat rs at octets room) in
          let mine : in_set p (replied_by seat rs at octets room).ruling.took ≡ true = ap (λ (z : Replied). in_set p z.ruling.took) is ∙ took in
          let precedence : (replied_by seat rs at octets room).precedence ≡ a.precedence =
          ap (λ (z : Replied). z.precedence) is ∙ precedence_is q seat.number drops at octets room is_made_lem in (
            c,
            (
              picks _ _ _ mine,
              (
                refl,
                (
                  refl,
                  (
                    ap (λ (k : ℕ). record { slot = slot; precedence = k }) precedence,
                    reply_is_sent (number_of who) (history_of who steps) rs at octets room small p inside mine n slot
                        ∙ sym (found who steps rs at slot octets output x g (some_took (λ z. true_false (sym (sym (ap (in_set p) z) ∙ h) ∙ in_none p)))),
                  ),
                ),
              ),
            ),
          )

  -- ---- one port
  long_none : too_long rs ≡ true → (p : ℕ) → (in_set p (took_in x) || in_set p (dropped_in x)) ≡ true → ⊥
  long_none long p h =
      let t = told who steps rs at slot octets output x g in
      let none : ((replied_by seat rs at octets room).ruling.took ≡ 0) × ((replied_by seat rs at octets room).ruling.dropped ≡ 0) =
      both_so seat rs at octets room (λ (y : Answering) (z : Replied). (z.ruling.took ≡ 0) × (z.ruling.dropped ≡ 0)) (λ k. (refl, refl))
      (λ short. true_false (sym long ∙ short)) in
      ⊎_elim (λ k. true_false (sym k ∙ ap (in_set p) (t.at_24 ∙ none.0) ∙ in_none p)) (λ k. true_false (sym k ∙ ap (in_set p) (t.at_32 ∙ none.1) ∙ in_none p))
      (or_true (in_set p (took_in x)) (in_set p (dropped_in x)) h)

  one_port : (p k : ℕ) → p < port_count → k < port_count → (in_set p (took_in x) || in_set p (dropped_in x)) ≡ true
      → (in_set k (took_in x) || in_set k (dropped_in x)) ≡ true → p ≡ k
  one_port p k inside within hp hk = by (too_long rs) refl
    where
      by : (t : Bool) → too_long rs ≡ t → p ≡ k
      by true long = absurd (long_none long p hp)
      by false short =
          reply_at_most_one q seat.number drops at octets room p k inside within (shared short p inside hp) (shared short k within hk)

  -- ---- a call that makes none
  ruling_none : onward_in x ≡ 0 → (replied_by seat rs at octets room).ruling ≡ no_ruling
  ruling_none z =
      both_so seat rs at octets room (λ (y : Answering) (w : Replied). onward_number w.ruling.onward ≡ 0 → w.ruling ≡ no_ruling) (λ long k. refl)
      (λ short k.
      ap (λ (w : Replied). w.ruling)
      (unmade_is q seat.number drops at octets room ((unasked_exactly q seat.number drops at octets room longer_mask (masks_choose q)).0 k)))
      (sym (told who steps rs at slot octets output x g).at_16 ∙ z)

  state_stays : onward_in x ≡ 0 → next_state seat (counters who steps) (own (echoes rs at slot octets output)) ≡ state_of seat (counters who steps)
  unfolding counted_at
  state_stays z =
      let w = replied_by seat rs at octets room in
      let none = ruling_none z in
      ap₂
      (λ (m : Mission) (l : List ℕ). record { number = seat.number; mission = m; memory = seat.memory; counters = l })
      (ap (λ (r : Relay). r.mission) (nobody_took (relay_in seat) slot (as_ending w) (ap (λ (y : Ruling). y.took) none)))
      (ap (λ (y : Ruling). counted_all (counters who steps) (reply_moves y)) none)

  none_leaves : onward_in x ≡ 0 → x.left ≡ lent_to (made_on g.before (flies who (echoes rs at slot octets output)))
  none_leaves z =
      let c = own (echoes rs at slot octets output) in
      let hold = words_hold who g.lent steps g.before g.begun in
      let row = gives_row who steps c x g in
      whole (lent_to (made_on g.before (flies who (echoes rs at slot octets output)))) x.answer x
      (record {
        answer = refl;
        board = row.board ∙ sym hold.0;
        mission = row.mission ∙ ap Held (state_stays z) ∙ sym hold.1;
        routes = row.routes;
        output =
            row.output
            ∙ reply_unwritten (answering_by seat rs at octets room) (replied_by seat rs at octets room) octets output (ap (λ (y : Ruling). y.took) (ruling_none z));
        numbers = row.numbers;
      })

  -- ---- the counters
  counts : (i : ℕ) → i < counter_count
      → counter_at (mission_of who (words_after g.before (flies who (echoes rs at slot octets output)) x)) i
      ≡ (counter_at (mission_of who g.before) i + get_or (counted (replied (ended_by x) (onward_in x) (took_in x)) (ports_in port_count (dropped_in x))) i 0) % 2 ^ 32
  counts i inside =
      let c = echoes rs at slot octets output in
      let t = told who steps rs at slot octets output x g in
      counters_move who steps c x g i inside
      ∙ ap (λ (n : ℕ). (counter_at (mission_of who g.before) i + n) % 2 ^ 32)
      (moves_as_written seat (own c) i inside
      ∙ ap₂ (λ (onward dropped : ℕ). get_or (counted (replied 0 onward 0) (ports_in port_count dropped)) i 0) (sym t.at_16) (sym t.at_32))

  -- ---- no relay answers it
  never : took_in x ≢ 0 → (b m : List ℕ) (ts : List Record) (p n : ℕ) (o : List ℕ) (y : Result) → Says (hj_echo b m ts p n (reply_out x) o) y → onward_in y ≡ 0
  never some =
      let t = told who steps rs at slot octets output x g in
      let taken : (replied_by seat rs at octets room).ruling.took ≢ 0 = λ z. some (t.at_24 ∙ z) in
      let short = taken_short_list who steps rs at slot octets output x g taken in
      let p = some_port_lem (replied_by seat rs at octets room).ruling.took (small-sets seat rs at octets room).took taken in
      never_answered (reply_out x) (none_answers short p.0 p.1 (ap (in_set p.0) t.at_24 ∙ p.2))

-- ---- the setting at first
off_is : (n : ℕ) → drop n ≡ drop 0 → n ≡ 0
off_is n e = cc

off_first : (cs : List Call) → Each (λ (c : Call). About c the_drop → ⊥) cs → (run_from (fresh_seat 0) cs).board.drop ≡ 0
unfolding fresh_board
off_first cs others = off_is (run_from (fresh_seat 0) cs).board.drop (holds_until_changed the_drop cs (fresh_seat 0) others)

-- ---- how many replies are made
made_are : (cs : List Call) (x : Seat) → over_calls 0 ◌+◌ (λ (y : Seat) (c : MissionCall). one (is_made (own_outcome y c).answer)) x cs ≡ sum_from replies.made x cs
made_are [] x = refl
made_are (operator (orders o) ∷ cs) x = let rest = made_are cs (next x (operator (orders o))) in omega (arith, rest)
made_are (operator (views v) ∷ cs) x = let rest = made_are cs (next x (operator (views v))) in omega (arith, rest)
made_are (own c ∷ cs) x = ap (λ (n : ℕ). one (is_made (own_outcome x c).answer) + n) (made_are cs (next x (own c)))

replies_told : (who : Customer) (steps : List Step) (w v : Words) (b : Begun w steps v)
    → replies_in who steps _ v b.then ≡ sum_over replies.made (number_of who) (history_of who steps)
replies_told who steps w v b =
    over_is 0 ◌+◌ (λ (y : Words) (c : MissionCall) (x : Result). one (is_made (own_out c x.answer)))
    (λ (y : Seat) (c : MissionCall). one (is_made (own_outcome y c).answer)) who
    (λ before c x g. ap (λ (a : Answer). one (is_made a)) (read_out_lem who before (own c) x g)) steps [] w _ v (begin b) b.then b.passed
    ∙ made_are (history_of who steps) (seat_of who [])

pub echoes_hold : Echoes
echoes_hold =
    record {
      reads = messages.reads;
      reads_as = λ s lent left answer right h. messages.read_as s lent right answer left h;
      builds = messages.builds;
      builds_as = λ m echoed lent left answer h. messages.built_so m echoed lent answer left h;
      build_then_read = messages.build_then_read;
      read_then_build = messages.read_then_build;
      off_at_first = λ steps x others g.
          (gives_row first steps (operator (views drop_flag)) x g).answer
          ∙ off_first (history_of first steps) others;
      stamp_placed = stamp_placed;
      answers = λ who steps rs at slot octets output x g short.
          as_said who steps rs at slot octets output x g
          (λ (n : ℕ) (a : Answering). AnsweredAs (relay_for who steps rs) n at octets output a x) (answered_as who steps rs at slot octets output x g short);
      on_the_wire = λ who steps rs at slot octets output x g short p inside took.
          as_said who steps rs at slot octets output x g (λ (n : ℕ) (a : Answering). ReplyOnTheWire (relay_for who steps rs) at p octets output a x)
          (on_wire who steps rs at slot octets output x g short p inside took);
      one_port = λ who steps rs at slot octets output p k x g. one_port who steps rs at slot octets output x g p k;
      route_taken = λ who steps rs at slot octets output p x g short inside some.
          let seat = seat_of who steps in
          as_said who steps rs at slot octets output x g (λ (n : ℕ) (a : Answering). RouteTaken (relay_for who steps rs) a.destination p)
          (reply_route_taken (relay_for who steps rs) seat.number seat.board.drop at octets (length output)
          (contiguous who steps rs at slot octets output x g) p inside (shared who steps rs at slot octets output x g short p inside some));
      no_route = λ who steps rs at slot octets output x g short some.
          let seat = seat_of who steps in
          as_said who steps rs at slot octets output x g
          (λ (n : ℕ) (a : Answering). (onward_in x ≡ 11) ↔ ((k : ℕ) → candidate (route_in (relay_for who steps rs) k) a.destination ≡ false))
          (let by = reply_no_route (relay_for who steps rs) seat.number seat.board.drop at octets (length output) longer_mask (masks_choose (relay_for who steps rs)) in
          let t = parts who steps rs at slot octets output x g short in
          (λ eleven. (by.0 (sym t.at_16 ∙ eleven)).1, λ none. t.at_16 ∙ by.1 (made_one who steps rs at slot octets output x g short some, none)));
      none_leaves = λ who steps rs at slot octets output x g. none_leaves who steps rs at slot octets output x g;
      counts = λ who steps rs at slot octets output x g. counts who steps rs at slot octets output x g;
      out_requests = λ who steps x g.
          counter_reads who steps 17 x (omega arith) g
          ∙ requests_are_replies (number_of who) (history_of who steps)
          ∙ ap (λ (n : ℕ). n % 2 ^ 32) (sym (replies_told who steps g.lent g.before g.begun));
      copies_told = λ who steps rs p at slot octets output x inside g short.
          let t = told who steps rs at slot octets output x g in (
            as_said who steps rs at slot octets output x g
                (λ (n : ℕ) (a : Answering).
                in_set p (own_outcome (seat_of who steps) (echoes rs at slot octets output)).granted
                ≡ (reply_verdict (relay_for who steps rs) at a (length output)).granted p)
                (ap (λ (z : Replied). in_set p z.ruling.granted) (is who steps rs at slot octets output x g short)
                ∙ (page who steps rs at slot octets output x g short).granted p inside),
            (ap (in_set p) (sym t.at_24), ap (in_set p) (sym t.at_32)),
          );
      dropped_by_32 = λ who steps rs p at slot octets output x y inside g dropped k.
          waiting_reads who steps p y inside k
          ∙ full_is who steps p inside
          ((reply_fair (seat_of who steps) p inside rs at octets (length output)).full
          (ap (in_set p) (sym (told who steps rs at slot octets output x g).at_32) ∙ dropped));
      placed = λ who steps rs p at slot octets output x g short inside. (
        λ out. leaves _ _ _ (ap (in_set p) (sym (told who steps rs at slot octets output x g).at_24) ∙ out),
        λ took.
            as_said who steps rs at slot octets output x g
            (λ (n : ℕ) (a : Answering).
            ReplyPlaced who steps p at slot octets a x (taken_own p (length (history_of who steps)) (seat_of who steps) (echoes rs at slot octets output)))
            (placed_as who steps rs at slot octets output x g short p inside took),
      );
      answers_no_further = λ who steps rs at slot s t output n x y long control AgreeAt.
          no_further who steps rs at slot s t output n x y long AgreeAt (agree_up_to_the_length s t n long control AgreeAt);
      never_a_request = λ who steps rs at slot octets output x g. never who steps rs at slot octets output x g;
      replies_unanswered = λ b m ts q n s o h k z y reads holds is. never_answered s (reply_unanswered s h k z reads holds is) b m ts q n o y;
    }
