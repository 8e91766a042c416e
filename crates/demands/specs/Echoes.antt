-- Echo messages, for each of two customers by itself: page 02, W-203, said of what C calls. Messages are read and built as 003 lays them out. After any steps,
-- whatever the other customer does between them, hj_echo answers by the page's list of what gets a reply; the reply that goes is the one that 003 and the page
-- lay out, and names on the wire whom it should; it counts as the page says; and no relay answers it. Proved in proofs/Echoes.antt.
-- Assumes nothing.
use Rattle.std.specs.Prelude.{ℕ, ◌+◌, ◌-◌, ◌%◌, ◌^◌, ◌<◌, ◌≤◌, ◌≡◌, ◌↔◌, ◌≢◌, true, false, ◌||◌, List, [], ◌∷◌, ◌++◌, length, replicate, take, drop, get_or, Some, Option, None}
use Rattle.checks.specs.Order.{pick, NoneHolds, FirstHolds}
use Rattle.checks.specs.Answer.{refusal_number}
use Rattle.octets.specs.Octets.{octets as number_octets}
use Rattle.address.specs.declared.Address.{Address}
use Rattle.address.specs.declared.Slot.{Slot}
use Rattle.header.specs.Limits.{most_data, length_limit}
use Rattle.header.specs.Form.{control_of}
use Rattle.header.specs.Read.{length_of, header_of, read_of}
use Rattle.header.specs.Build.{stamp_octets, header_octets}
use Rattle.header.specs.declared.Header.{Header}
use Rattle.header.specs.declared.Timestamp.{Timestamp}
use Rattle.checks.specs.Told.{Good}
use Rattle.echo.specs.Message.{fixed_size, message_octets, echo_checks, message_of, reading_of, echoed_in}
use Rattle.echo.specs.Built.{build_checks}
use Rattle.echo.specs.declared.Seen.{Seen}
use Rattle.echo.specs.declared.Kind.{Kind}
use Rattle.echo.specs.declared.Kind.TheVariants.{Request, Reply}
use Rattle.echo.specs.declared.Message.{Message}
use Rattle.meaning.specs.Names.{aim_of, origin_of}
use Rattle.meaning.specs.declared.Aim.TheVariants.{Node}
use Rattle.queue.specs.Order.{Each}
use Rattle.next_leg.specs.Leg.{asks_checksum}
use Rattle.queue.specs.Queue.{entry_places}
use Rattle.routes.specs.Routes.{candidate}
use Rattle.routes.specs.declared.Record.{Record}
use Rattle.sets.specs.Limits.{port_count, counter_count}
use Rattle.sets.specs.Sets.{in_set}
use Rattle.state.specs.Relay.{Relay, port_in, route_in}
use Rattle.lent_state.specs.View.{too_long}
use Rattle.replies.specs.Request.{user_data}
use Rattle.replies.specs.Reply.{stamp_number}
use Rattle.replies.specs.Replied.{call_checks, answering_of, wire_fields, message_size, echoed_of}
use Rattle.replies.specs.declared.Answering.{Answering}
use Rattle.page.specs.Table.{GivenBy, aim_at, equals_port, one_octet, lies_far}
use Rattle.page.specs.Sought.{RouteTaken}
use Rattle.page.specs.Replies.{RequestAnswered, ReplyTo, reply_verdict}
use Rattle.harpjuniper_messages.specs.Face.{message_count, message_words}
use Rattle.contracts.specs.Promised.{Result, lent_to, hj_echo}
use Rattle.contracts.specs.Stated.{Says}
use Rattle.history.specs.Calls.{drop_flag, views, MissionCall, echoes, counter, waiting, looks, Call}
use Rattle.history.specs.Outcome.{replied, own_outcome}
use Rattle.history.specs.Parts.{the_drop, About}
use Rattle.history.specs.Replies.{is_made}
use Rattle.history.specs.Ledger.{one}
use Rattle.history.specs.Sums.{counted, ports_in}
use Rattle.history.specs.Line.{Copy, taken_own}
use Rattle.history.specs.Ranges.{Octets}
use Rattle.demands.specs.Trace.{
  Customer,
  first,
  number_of,
  Step,
  operates,
  flies,
  Words,
  mission_of,
  made,
  words_after,
  Trace,
  history_of,
  board_of,
  seat_of,
  relay_of,
  relay_for,
  Gives,
}
use Rattle.demands.specs.ReadOut.{
  own_out,
  ended_by,
  local_in,
  onward_in,
  took_in,
  dropped_in,
  reply_octets,
  reply_out,
  counter_at,
  over_own,
  ReadsEcho,
  BuildsEcho,
  message_in,
  data_begin,
}

-- the reply, if one is made, of the relay that the customer sees with the list lent, to octets that came in by port `at`
abbrev pub reply_made : Customer → List Step → List Record → ℕ → List ℕ → List ℕ → Answering
reply_made who steps rs at octets output = answering_of (relay_for who steps rs) (number_of who) (board_of steps).drop at octets (length output)

-- ---- what C is told of an echo request, where a is that reply
pub record AnsweredAs (r : Relay) (dropping at : ℕ) (octets output : List ℕ) (a : Answering) (x : Result) : Type 0 where
  -- "the caller lends room, at least the arrival port's MTU, else 17": 16 exactly where the port is not set up, or not the customer's
  pub refusal : GivenBy (call_checks r at (length output)) (ended_by x)
  -- a reply is made exactly where the page's list of conditions holds; "gets none" is told as 0
  pub answered : ended_by x ≡ 0 → (onward_in x ≢ 0) ↔ RequestAnswered r dropping at octets
  -- and then it is the one that the page lays out,
  pub reply : ended_by x ≡ 0 → (q : RequestAnswered r dropping at octets) → ReplyTo r at octets q.message a
  -- which goes by the page's rows: 11, 14, 15, or the port that took it
  pub onward : onward_in x ≡ (reply_verdict r at a (length output)).onward
  pub took : (p : ℕ) → p < port_count → in_set p (took_in x) ≡ (reply_verdict r at a (length output)).took p
  pub dropped : (p : ℕ) → p < port_count → in_set p (dropped_in x) ≡ (reply_verdict r at a (length output)).dropped p
  pub no_local : local_in x ≡ 0
  -- nothing stands above the reply's octets; and with a refusal there is nothing else
  pub above : x.answer < 2 ^ 56
  pub alone : ended_by x ≢ 0 → x.answer ≡ ended_by x
  -- where a port took it the output begins with the reply, and every other octet stays as lent
  pub written : took_in x ≢ 0 → x.left.output ≡ reply_out x ++ drop (reply_octets x) output
  pub unwritten : took_in x ≡ 0 → (reply_octets x ≡ 0) × (x.left.output ≡ output)

-- ---- the reply as the system behind port p, which took it, reads it
pub record ReplyOnTheWire (r : Relay) (at p : ℕ) (octets output : List ℕ) (a : Answering) (x : Result) : Type 0 where
  pub goes : Header
  pub reads : read_of (reply_out x) ≡ Good goes
  -- its header is the reply's own, with W-214's changes for this port and no others
  pub fields : goes.fields ≡ wire_fields (lies_far r at p) (port_in r at).address.0 (reply_verdict r at a (length output)).code a.fields
  -- field by field: "has hop count 64"; SCMP's TP-ID; no timestamp, no expanded QOS and no intermediate delivery
  pub hops : goes.fields.hops ≡ Some 64
  pub control : goes.fields.tpid ≡ 1
  pub unstamped : goes.fields.stamp ≡ None
  pub unexpanded : goes.fields.expanded ≡ None
  pub not_between : goes.fields.intermediate ≡ 0
  -- "keeps the request's .. precedence": basic QOS exactly where the request has it, and nothing of it but the precedence
  pub no_qos : (header_of octets).fields.qos ≡ None → goes.fields.qos ≡ None
  pub qos_kept : (n routing program : ℕ) → (header_of octets).fields.qos ≡ Some (record { precedence = n; routing = routing; program = program }) → goes.fields.qos ≡ Some (record { precedence = n; routing = 0; program = 0 })
  -- a checksum exactly where the route asks for one
  pub summed : goes.fields.checksum ≡ pick (asks_checksum (reply_verdict r at a (length output)).code) 1 0
  -- the octets themselves: that header in the form that is built, and then the message
  pub whole : reply_out x ≡ header_octets goes.fields (message_size a) ++ message_octets a.message (echoed_of a octets)
  -- "Size is tested against MTU and 8,191 after the rewrite, a reply's also against the room lent"
  pub long : goes.length ≡ reply_octets x
  pub fits : reply_octets x ≤ (port_in r p).mtu
  pub short : reply_octets x < length_limit
  pub room : reply_octets x ≤ length output
  -- its destination names the request's source,
  pub aim : aim_of (port_in r p).address.0 goes.fields.addresses ≡ Node a.destination
  -- and its source an address of ours: "the request's destination if a port has it, else the arrival port's address"
  pub from_own : (d : Address) → aim_at r at octets ≡ Node d → equals_port r (Node d) ≡ true
      → origin_of (port_in r p).address.0 goes.fields.addresses ≡ Some d
  pub from_arrival : equals_port r (aim_at r at octets) ≡ false
      → origin_of (port_in r p).address.0 goes.fields.addresses ≡ Some (port_in r at).address
  -- an address of one octet goes out into no other domain
  pub domain : one_octet goes.fields.addresses ≡ true → lies_far r at p ≡ false
  -- its user data are the message, with the request's data as far as they are not cut
  pub message : reading_of (user_data goes (reply_out x)) ≡ Good a.message
  pub echoed : echoed_in a.message (user_data goes (reply_out x)) ≡ echoed_of a octets

-- how often C was told that a reply was made
abbrev pub replies_in : (who : Customer) (cs : List Step) (w v : Words) → Trace w cs v → ℕ
replies_in who cs w v t = over_own who 0 ◌+◌ (λ (y : Words) (c : MissionCall) (x : Result). one (is_made (own_out c x.answer))) cs w v t

-- what port p has of a reply that it took: its entry has the slot, and the request's precedence
abbrev pub ReplyPlaced : Customer → List Step → ℕ → ℕ → Slot → List ℕ → Answering → Result → List Copy → Type 0
ReplyPlaced who steps p at slot octets a x l =
    (c : Copy)
    × ((l ≡ c ∷ [])
    × ((c.turn ≡ length (history_of who steps))
    × ((c.arrival ≡ (port_in (relay_of who steps) at).address)
    × ((c.entry ≡ record { slot = slot; precedence = a.precedence }) × (c.header ++ drop c.size c.octets ≡ reply_out x)))))

-- ---- messages
-- what C can pass: an identifier and a sequence number have 16 bits, a hop count and a format 8, a timestamp 64, an MTU and a rate 32
pub record SeenPasses (s : Seen) : Type 0 where
  pub hops : s.hops < 2 ^ 8
  pub format : s.format < 2 ^ 8
  pub stamp : s.stamp < 2 ^ 64
  pub mtu : s.mtu < 2 ^ 32
  pub rate : s.rate < 2 ^ 32

abbrev pub KindPasses : Kind → Type 0
KindPasses Request = Unit
KindPasses (Reply s) = SeenPasses s

pub record MessagePasses (m : Message) : Type 0 where
  pub identifier : m.identifier < 2 ^ 16
  pub sequence : m.sequence < 2 ^ 16
  pub kind : KindPasses m.kind

-- octets s, read into ten words: this is answered, and these words are left
pub record ReadAs (s lent : List ℕ) (answer : ℕ) (left : List ℕ) : Type 0 where
  -- 1, 4, 1 and 5, each exactly where its condition of 003 holds and none before it
  pub refuses : GivenBy (echo_checks s) answer
  -- and then nothing is written; else the ten words: type, identifier, sequence, where the data begin, and of a reply hop count, format, the timestamp's two
  -- halves, MTU and rate
  pub unwritten : answer ≢ 0 → left ≡ lent
  pub written : answer ≡ 0 → left ≡ message_words (message_of s)

-- a message m with these data, built in the octets lent: this is answered, and these octets are left
pub record BuiltAs (m : Message) (echoed lent : List ℕ) (answer : ℕ) (left : List ℕ) : Type 0 where
  -- 17 where the room is under the message, then 20 where it is over 8,141 octets, told above 32 bits
  pub refuses : (n : ℕ) → n ≢ 0 → (answer ≡ refusal_number n) ↔ FirstHolds (build_checks m (length echoed) (length lent)) n
  pub done : (answer < 2 ^ 32) ↔ NoneHolds (build_checks m (length echoed) (length lent))
  -- and then nothing is written; else the message as 003 lays it out, at the front, and every octet behind it stays as lent
  pub unwritten : 2 ^ 32 ≤ answer → left ≡ lent
  pub size : answer < 2 ^ 32 → answer ≡ fixed_size m.kind + length echoed
  pub written : answer < 2 ^ 32 → left ≡ message_octets m echoed ++ drop answer lent

pub record Echoes : Type 0 where
  -- "read": whatever octets are lent, there is an answer; and with ten words it is this one (with others 21, demand 1)
  pub reads : (s lent : List ℕ) → (answer : ℕ) × ((left : List ℕ) × ReadsEcho s lent answer left)
  pub reads_as : (s lent left : List ℕ) (answer : ℕ) → length lent ≡ message_count → ReadsEcho s lent answer left → ReadAs s lent answer left
  -- "build": every number of its width is taken, and any data
  pub builds : (m : Message) (echoed lent : List ℕ) → (answer : ℕ) × ((left : List ℕ) × BuildsEcho m echoed lent answer left)
  pub builds_as : (m : Message) (echoed lent left : List ℕ) (answer : ℕ) → BuildsEcho m echoed lent answer left → BuiltAs m echoed lent answer left
  -- reading what was built gives the same numbers, and the data stand where they are told to begin
  pub build_then_read : (m : Message) (echoed lent left words : List ℕ) (answer : ℕ) → MessagePasses m → BuildsEcho m echoed lent answer left
      → answer < 2 ^ 32 → length words ≡ message_count
      → ReadsEcho (take answer left) words 0 (message_words m)
      × ((message_in (message_words m) ≡ m) × (drop (data_begin (message_words m)) (take answer left) ≡ echoed))
  -- and building what was read gives the same octets, for a message of at most 8,141
  pub read_then_build : (s words lent left : List ℕ) → Octets s → length words ≡ message_count → ReadsEcho s words 0 left
      → length s ≤ most_data → length s ≤ length lent
      → BuildsEcho (message_in left) (drop (data_begin left) s) lent (length s) (s ++ drop (length s) lent)
  -- "A setting that drops all requests defaults to off.": as long as it is not set, hj_get_echo_drop answers 0 (what is set is read back, demand 2)
  pub off_at_first : (steps : List Step) (x : Result) → Each (λ (c : Call). About c the_drop → ⊥) (history_of first steps)
      → Gives steps (operates (views drop_flag)) x → x.answer ≡ 0
  -- "placed in the least-significant octets of the field and the unused octets shall be set to all '0s'" (003, 3.3.4.7.5): the number that a reply has for
  -- the timestamp of a request, in eight octets
  pub stamp_placed : (t : Option Timestamp) → number_octets 8 (stamp_number t) ≡ replicate (8 - length (stamp_octets t)) 0 ++ stamp_octets t
  -- what hj_echo answers, and the reply; a list over 512 records is refused by 21 (demand 1)
  pub answers : (who : Customer) (steps : List Step) (rs : List Record) (at : ℕ) (slot : Slot) (octets output : List ℕ) (x : Result)
      → Gives steps (flies who (echoes rs at slot octets output)) x → too_long rs ≡ false
      → AnsweredAs (relay_for who steps rs) (board_of steps).drop at octets output (reply_made who steps rs at octets output) x
  pub on_the_wire : (who : Customer) (steps : List Step) (rs : List Record) (at : ℕ) (slot : Slot) (octets output : List ℕ) (x : Result)
      → Gives steps (flies who (echoes rs at slot octets output)) x → too_long rs ≡ false → (p : ℕ) → p < port_count → in_set p (took_in x) ≡ true
      → ReplyOnTheWire (relay_for who steps rs) at p octets output (reply_made who steps rs at octets output) x
  -- it goes by one port at the most: none but one takes it, or drops it
  pub one_port : (who : Customer) (steps : List Step) (rs : List Record) (at : ℕ) (slot : Slot) (octets output : List ℕ) (p k : ℕ) (x : Result)
      → Gives steps (flies who (echoes rs at slot octets output)) x → p < port_count → k < port_count
      → (in_set p (took_in x) || in_set p (dropped_in x)) ≡ true → (in_set k (took_in x) || in_set k (dropped_in x)) ≡ true → p ≡ k
  -- "the route line": the one taken matches the request's source, no matching entry that is up has more mask bits, and 11 is said exactly when none
  -- matches
  pub route_taken : (who : Customer) (steps : List Step) (rs : List Record) (at : ℕ) (slot : Slot) (octets output : List ℕ) (p : ℕ) (x : Result)
      → Gives steps (flies who (echoes rs at slot octets output)) x → too_long rs ≡ false → p < port_count
      → (in_set p (took_in x) || in_set p (dropped_in x)) ≡ true
      → RouteTaken (relay_for who steps rs) (reply_made who steps rs at octets output).destination p
  pub no_route : (who : Customer) (steps : List Step) (rs : List Record) (at : ℕ) (slot : Slot) (octets output : List ℕ) (x : Result)
      → Gives steps (flies who (echoes rs at slot octets output)) x → too_long rs ≡ false → onward_in x ≢ 0
      → (onward_in x ≡ 11)
      ↔ ((q : ℕ) → candidate (route_in (relay_for who steps rs) q) (reply_made who steps rs at octets output).destination ≡ false)
  -- a request that gets none, and a call that is refused, leave every word and octet as they were (docs/DECISIONS.md, D-81)
  pub none_leaves : (who : Customer) (steps : List Step) (rs : List Record) (at : ℕ) (slot : Slot) (octets output : List ℕ) (x : Result)
      (g : Gives steps (flies who (echoes rs at slot octets output)) x) → onward_in x ≡ 0
      → x.left ≡ lent_to (made g.before (flies who (echoes rs at slot octets output)))
  -- "Demand 3 counts replies, refused too (demand 1 lets these counters move), in npOutRequests, never npForwDatagrams, 11 to 15 as page 01": each counter
  -- moves by what the list `counted` has for it, by what C is told
  pub counts : (who : Customer) (steps : List Step) (rs : List Record) (at : ℕ) (slot : Slot) (octets output : List ℕ) (x : Result)
      (g : Gives steps (flies who (echoes rs at slot octets output)) x) (i : ℕ) → i < counter_count
      → counter_at (mission_of who (words_after g.before (flies who (echoes rs at slot octets output)) x)) i
      ≡ (counter_at (mission_of who g.before) i
      + get_or (counted (replied (ended_by x) (onward_in x) (took_in x)) (ports_in port_count (dropped_in x))) i 0) % 2 ^ 32
  -- so npOutRequests, which hj_counter answers at 17, is how often C was told of a reply that was made, sent or not
  pub out_requests : (who : Customer) (steps : List Step) (x : Result) (g : Gives steps (flies who (looks (counter 17))) x)
      → x.answer ≡ replies_in who steps _ g.before g.begun.then % 2 ^ 32
  -- "their copies join its sum": what is granted, taken and dropped of a reply is what C is told, in the sum of demand 3; it drops where 32 already waited,
  -- and waits in its port's line as the copy of a datagram does
  pub copies_told : (who : Customer) (steps : List Step) (rs : List Record) (p at : ℕ) (slot : Slot) (octets output : List ℕ) (x : Result) → p < port_count
      → Gives steps (flies who (echoes rs at slot octets output)) x → too_long rs ≡ false
      → (in_set p (own_outcome (seat_of who steps) (echoes rs at slot octets output)).granted
      ≡ (reply_verdict (relay_for who steps rs) at (reply_made who steps rs at octets output) (length output)).granted p)
      × ((in_set p (own_outcome (seat_of who steps) (echoes rs at slot octets output)).took ≡ in_set p (took_in x))
      × (in_set p (own_outcome (seat_of who steps) (echoes rs at slot octets output)).dropped ≡ in_set p (dropped_in x)))
  pub dropped_by_32 : (who : Customer) (steps : List Step) (rs : List Record) (p at : ℕ) (slot : Slot) (octets output : List ℕ) (x y : Result)
      → p < port_count → Gives steps (flies who (echoes rs at slot octets output)) x → in_set p (dropped_in x) ≡ true
      → Gives steps (flies who (looks (waiting p))) y → y.answer ≡ entry_places
  pub placed : (who : Customer) (steps : List Step) (rs : List Record) (p at : ℕ) (slot : Slot) (octets output : List ℕ) (x : Result)
      → Gives steps (flies who (echoes rs at slot octets output)) x → too_long rs ≡ false → p < port_count
      → (in_set p (took_in x) ≡ false → taken_own p (length (history_of who steps)) (seat_of who steps) (echoes rs at slot octets output) ≡ [])
      × (in_set p (took_in x) ≡ true
      → ReplyPlaced who steps p at slot octets (reply_made who steps rs at octets output) x
      (taken_own p (length (history_of who steps)) (seat_of who steps) (echoes rs at slot octets output)))
  -- "Octets beyond the length field are ignored.": what comes after them changes neither the answer, nor the words, nor the reply
  pub answers_no_further : (who : Customer) (steps : List Step) (rs : List Record) (at : ℕ) (slot : Slot) (s t output : List ℕ) (n : ℕ) (x y : Result)
      → length_of s ≤ n → (control_of s).end ≤ n → take n t ≡ take n s
      → Gives steps (flies who (echoes rs at slot s output)) x → Gives steps (flies who (echoes rs at slot t output)) y
      → (y.answer ≡ x.answer) × ((y.left.mission ≡ x.left.mission) × (y.left.output ≡ x.left.output))
  -- a reply is never a request: no relay, whatever its words, makes a reply to it, so that two cannot answer each other for ever
  pub never_a_request : (who : Customer) (steps : List Step) (rs : List Record) (at : ℕ) (slot : Slot) (octets output : List ℕ) (x : Result)
      → Gives steps (flies who (echoes rs at slot octets output)) x → took_in x ≢ 0
      → (b m : List ℕ) (ts : List Record) (q n : ℕ) (o : List ℕ) (y : Result) → Says (hj_echo b m ts q n (reply_out x) o) y → onward_in y ≡ 0
  -- nor, further on, to any datagram whose user data are a reply, whatever header it has by then
  pub replies_unanswered : (b m : List ℕ) (ts : List Record) (q n : ℕ) (s o : List ℕ) (h : Header) (k : Message) (z : Seen) (y : Result)
      → read_of s ≡ Good h → reading_of (user_data h s) ≡ Good k → k.kind ≡ Reply z → Says (hj_echo b m ts q n s o) y → onward_in y ≡ 0
