-- What C reads out of a result, by the functions of include/harpjuniper.h, and what the words that it lent hold. Assumes nothing.
use Rattle.std.specs.Prelude.{ℕ, ◌+◌, ◌*◌, ◌/◌, ◌%◌, ◌^◌, ◌≡◌, Bool, true, false, List, [], ◌∷◌, ◌++◌, replicate, take, drop, get_or, eqb}
use Rattle.checks.specs.Order.{pick}
use Rattle.sets.specs.Sets.{in_set}
use Rattle.answers.specs.Answers.{part_at, wide_at, refusal_in, slot_in, precedence_in}
use Rattle.echo.specs.Message.{request_type}
use Rattle.echo.specs.declared.Kind.{Kind}
use Rattle.echo.specs.declared.Kind.TheVariants.{Request, Reply}
use Rattle.echo.specs.declared.Message.{Message}
use Rattle.numbers.specs.InWords.{numbers_words}
use Rattle.numbers.specs.declared.Numbers.{Numbers}
use Rattle.queue.specs.declared.Entry.{Entry}
use Rattle.state.specs.Relay.{Mission, Memory, counter_in}
use Rattle.state.specs.Layout.{decode}
use Rattle.relay.specs.Outgoing.{stretch_of}
use Rattle.harpjuniper.specs.Face.{Reading, reading_count, reading_words}
use Rattle.harpjuniper_reads.specs.Back.{port_answer, group_answer, path_answer}
use Rattle.contracts.specs.Promised.{Result, Exported, hj_read_words, hj_build_words, hj_read_echo_words, hj_build_request, hj_build_reply}
use Rattle.contracts.specs.Stated.{Says}
use Rattle.history.specs.Seat.{Seat}
use Rattle.history.specs.Parts.{Part, the_router, the_port, the_lifetime, the_drop, the_group, the_path}
use Rattle.history.specs.Calls.{
  router_flag,
  lifetime_word,
  drop_flag,
  port_word,
  OperatorCall,
  orders,
  views,
  Look,
  group_word,
  path_word,
  pair_word,
  last_second,
  search,
  counter,
  waiting,
  read,
  build,
  class,
  form,
  checksum,
  read_echo,
  build_request,
  build_reply,
  board_size,
  mission_size,
  MissionCall,
  sets,
  hears,
  echoes,
  takes,
  sweeps,
  looks,
  Call,
  operator,
  own,
}
use Rattle.history.specs.Foretold.{answered_own}
use Rattle.history.specs.Outcome as outcome
use Rattle.demands.specs.Trace.{Customer, Step, operates, flies, is_of, Words, words_after, Trace}

-- ---- the answer
abbrev pub taken_out : ℕ → outcome.Answer
taken_out n =
    pick (eqb (refusal_in n) 0) (outcome.entry (record { slot = record { 0 = slot_in n }; precedence = precedence_in n })) (outcome.number (refusal_in n))

abbrev pub look_out : Look → ℕ → ℕ
look_out (group_word i word) n = refusal_in n
look_out (path_word i word) n = refusal_in n
look_out (pair_word i word) n = refusal_in n
look_out last_second n = refusal_in n
look_out (search rs a) n = n % 2 ^ 16
look_out (counter i) n = refusal_in n
look_out (waiting p) n = refusal_in n
look_out (read octets) n = n
look_out (build fields size output) n = refusal_in n
look_out (class a) n = n
look_out (form p) n = n
look_out (checksum octets) n = n
look_out (read_echo octets) n = n
look_out (build_request i k echoed output) n = refusal_in n
look_out (build_reply i k seen echoed output) n = refusal_in n
look_out board_size n = n
look_out mission_size n = n

abbrev pub operator_out : OperatorCall → ℕ → outcome.Answer
operator_out (orders o) n = outcome.number n
operator_out (views v) n = outcome.number (refusal_in n)

abbrev pub own_out : MissionCall → ℕ → outcome.Answer
own_out (sets s) n = outcome.number n
own_out (hears rs p slot second octets output) n = outcome.ended (part_at 0 n) (part_at 8 n) (part_at 16 n) (part_at 24 n)
own_out (echoes rs p slot octets output) n = outcome.replied (part_at 0 n) (part_at 16 n) (part_at 24 n)
own_out (takes p) n = taken_out n
own_out (sweeps second) n = outcome.number n
own_out (looks l) n = outcome.number (look_out l n)

abbrev pub read_out : Call → ℕ → outcome.Answer
read_out (operator c) n = operator_out c n
read_out (own c) n = own_out c n

-- of a received datagram: the refusal, the halves, and the ports that took and that dropped their copy
abbrev pub ended_by : Result → ℕ
ended_by x = part_at 0 x.answer

abbrev pub local_in : Result → ℕ
local_in x = part_at 8 x.answer

abbrev pub onward_in : Result → ℕ
onward_in x = part_at 16 x.answer

abbrev pub took_in : Result → ℕ
took_in x = part_at 24 x.answer

abbrev pub dropped_in : Result → ℕ
dropped_in x = part_at 32 x.answer

-- how many octets the header that came has, which is where the data begin (hj_data_from); how many a rewritten one has, and the ports that got it
-- (hj_rewritten_octets, hj_rewritten); and what stands above all parts
abbrev pub data_from : Result → ℕ
data_from x = part_at 40 x.answer

abbrev pub rewritten_octets_in : Result → ℕ
rewritten_octets_in x = part_at 48 x.answer

abbrev pub rewritten_in : Result → ℕ
rewritten_in x = part_at 56 x.answer

abbrev pub above_in : Result → ℕ
above_in x = x.answer / 2 ^ 64

-- the header that C finds for port p in the output: from where (hj_header), and how many octets (hj_header_octets)
abbrev pub header_octets : Result → ℕ → ℕ
header_octets x p = pick (in_set p (took_in x)) (pick (in_set p (rewritten_in x)) (rewritten_octets_in x) (data_from x)) 0

abbrev pub header_out : Result → ℕ → List ℕ
header_out x p = take (header_octets x p) (drop (stretch_of p) x.left.output)

-- what C sends by port p: that header, and the data of the datagram that came
abbrev pub wire_by : Result → List ℕ → ℕ → List ℕ
wire_by x octets p = header_out x p ++ drop (data_from x) octets

-- whether a call hears no datagram and answers no echo request
abbrev pub counts_nothing : MissionCall → Bool
counts_nothing (sets s) = true
counts_nothing (hears rs p slot second octets output) = false
counts_nothing (echoes rs p slot octets output) = false
counts_nothing (takes p) = true
counts_nothing (sweeps second) = true
counts_nothing (looks l) = true

-- the octets of a reply (hj_reply_octets), and the reply itself, which stands at the front of the output
abbrev pub reply_octets : Result → ℕ
reply_octets x = wide_at 40 x.answer

abbrev pub reply_out : Result → List ℕ
reply_out x = take (reply_octets x) x.left.output

-- ---- what the words of a mission hold: its settings and queues, what it remembers, and one of its counters
abbrev pub own_in : List ℕ → Mission
own_in w = (decode w).mission

abbrev pub memory_in : List ℕ → Memory
memory_in w = (decode w).memory

abbrev pub counter_at : List ℕ → ℕ → ℕ
counter_at w i = counter_in (decode w).counters i

-- ---- what a customer's own calls come to over a trace, one after the other: `of` is what one comes to, by the words before it and what it gives back
module _ {A : Type 0} (who : Customer) (none : A) (join : A → A → A) (of : Words → MissionCall → Result → A) where
  abbrev pub over_own : (cs : List Step) (w v : Words) → Trace w cs v → A
  over_own [] w v t = none
  over_own (operates c ∷ cs) w v t = over_own cs (words_after w (operates c) t.0) v t.1.1
  over_own (flies x c ∷ cs) w v t =
      let rest = over_own cs (words_after w (flies x c) t.0) v t.1.1 in
      pick (is_of who x) (join (of w c t.0) rest) rest

-- the entries that C reads out of a customer's takes of port p
abbrev pub entries_in : (who : Customer) (p : ℕ) (cs : List Step) (w v : Words) → Trace w cs v → List Entry
entries_in who p cs w v t = over_own who [] ◌++◌ (λ (y : Words) (c : MissionCall) (x : Result). answered_own p c (own_out c x.answer)) cs w v t

-- ---- what is read back: the step that asks for a word of a setting, and the word as it stands, or 21
abbrev pub asks_for : Customer → Part → ℕ → Step
asks_for who the_router word = operates (views router_flag)
asks_for who (the_port p) word = operates (views (port_word p word))
asks_for who the_lifetime word = operates (views lifetime_word)
asks_for who the_drop word = operates (views drop_flag)
asks_for who (the_group i) word = flies who (looks (group_word i word))
asks_for who (the_path i) word = flies who (looks (path_word i word))

abbrev pub part_told : Seat → Part → ℕ → ℕ
part_told x the_router word = x.board.router
part_told x (the_port p) word = port_answer x.board p word
part_told x the_lifetime word = x.board.lifetime
part_told x the_drop word = x.board.drop
part_told x (the_group i) word = group_answer x.mission i word
part_told x (the_path i) word = path_answer x.mission i word

-- ---- echo messages: what hj_read_echo_words answers and leaves of the words lent, and what hj_build_request or hj_build_reply, by the kind of message,
-- answers and leaves of the output
abbrev pub ReadsEcho : List ℕ → List ℕ → ℕ → List ℕ → Type 0
ReadsEcho s lent answer left =
    (x : Result) × (Says (hj_read_echo_words s lent) x × ((x.answer ≡ answer) × (x.left.numbers ≡ left)))

abbrev pub built_by : Kind → ℕ → ℕ → List ℕ → List ℕ → Exported
built_by Request i n echoed lent = hj_build_request i n echoed lent
built_by (Reply s) i n echoed lent = hj_build_reply i n s.hops s.format s.stamp s.mtu s.rate echoed lent

abbrev pub BuildsEcho : Message → List ℕ → List ℕ → ℕ → List ℕ → Type 0
BuildsEcho m echoed lent answer left =
    (x : Result) × (Says (built_by m.kind m.identifier m.sequence echoed lent) x × ((x.answer ≡ answer) × (x.left.output ≡ left)))

-- the message that ten words tell (struct hj_message), the timestamp in two of them
abbrev pub kind_in : List ℕ → Kind
kind_in w =
    pick (eqb (get_or w 0 0) request_type) Request
    (Reply (record { hops = get_or w 4 0; format = get_or w 5 0; stamp = get_or w 6 0 * 2 ^ 32 + get_or w 7 0; mtu = get_or w 8 0; rate = get_or w 9 0 }))

abbrev pub message_in : List ℕ → Message
message_in w = record { identifier = get_or w 1 0; sequence = get_or w 2 0; kind = kind_in w }

-- where its data begin
abbrev pub data_begin : List ℕ → ℕ
data_begin w = get_or w 3 0

-- ---- headers: what hj_read answers, which lends words that are 0, and what hj_build answers and leaves of the output
abbrev pub Reads : List ℕ → Reading → Type 0
Reads s r =
    (x : Result) × (Says (hj_read_words s (replicate reading_count 0)) x × ((x.answer ≡ r.refusal) × (x.left.numbers ≡ reading_words r)))

abbrev pub Builds : Numbers → ℕ → List ℕ → ℕ → List ℕ → Type 0
Builds fields size lent answer left =
    (x : Result) × (Says (hj_build_words (numbers_words fields) size lent) x × ((x.answer ≡ answer) × (x.left.output ≡ left)))
