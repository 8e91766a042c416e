-- Demand 2: "Headers are read and built as CCSDS 713.0-B-1 lays them out; every verdict, setting and taking follows the written rules: where a route is
-- sought, the one taken matches the destination under its mask, no matching entry has more mask bits, and 'no route' is said exactly when none matches.
-- A one-octet address never goes out into another domain." Each sentence is a field, said of what C calls, for each of two customers by itself, by page
-- 01's relay as that customer sees it (page 02, W-208). W-214: "Demand 2's last sentence now speaks of octets on the wire". Proved in
-- proofs/Demand2.antt. W-207: "demands 2 and 3 read the history with seconds and sweeps". Assumes nothing.
use Rattle.std.specs.Prelude.{ℕ, ◌+◌, ◌-◌, ◌^◌, ◌<◌, ◌≤◌, ◌≡◌, ◌⊎◌, ◌↔◌, ◌≢◌, true, false, ◌&&◌, ◌||◌, List, [], ◌++◌, get_or, length, take, drop}
use Rattle.history.specs.SearchBack.{LongestOrNo}
use Rattle.address.specs.Row.{Row}
use Rattle.address.specs.Class.{class_number}
use Rattle.address.specs.declared.Class.{Class}
use Rattle.checks.specs.Order.{Checks, NoneHolds, FirstHolds}
use Rattle.checks.specs.Answer.{refusal_number}
use Rattle.sets.specs.Sets.{in_set}
use Rattle.address.specs.declared.Address.{Address}
use Rattle.address.specs.declared.Slot.{Slot}
use Rattle.header.specs.Form.{control_of}
use Rattle.header.specs.Limits.{longest_header, most_data}
use Rattle.header.specs.Read.{read_checks, length_of, read_of, header_of}
use Rattle.header.specs.Shortest.{UnusedZero, NoneShorter}
use Rattle.header.specs.declared.Header.{Header}
use Rattle.checks.specs.Told.{Good}
use Rattle.numbers.specs.Words.{Words}
use Rattle.numbers.specs.declared.Numbers.{Numbers}
use Rattle.networks.specs.Networks.{domain_of}
use Rattle.meaning.specs.Names.{aim_of, origin_of}
use Rattle.queue.specs.Order.{Each}
use Rattle.queue.specs.Waits.{one, chosen, rank_by}
use Rattle.queue.specs.declared.Entry.{Entry}
use Rattle.routes.specs.Routes.{candidate}
use Rattle.routes.specs.declared.Record.{Record}
use Rattle.records.specs.Held.{is_free}
use Rattle.state.specs.Relay.{Memory, pair_at, port_in, route_in, port_set_up, Relay}
use Rattle.state.specs.Layout.{decode_board}
use Rattle.lent_state.specs.View.{too_long}
use Rattle.sets.specs.Limits.{port_count}
use Rattle.harpjuniper.specs.Face.{Reading, reading_of, data_read, numbers_checks, build_answer, build_output}
use Rattle.harpjuniper_routes.specs.Face.{route_word_told}
use Rattle.next_leg.specs.Leg.{rewrites, next_fields, data_of, next_header}
use Rattle.relay.specs.Outgoing.{stretch_of}
use Rattle.page.specs.Table.{one_octet, lies_far, Verdict, verdict_of, GivenBy, Decides, GivesNumber, step_rows, local_rows, onward_rows, wanted, best_port, best_code, more_ones, aim_at}
use Rattle.page.specs.Memory.{page_memory}
use Rattle.page.specs.Sought.{RouteSought, RouteTaken}
use Rattle.floods.specs.Sweep.{sweep_checks}
use Rattle.contracts.specs.Promised.{Result}
use Rattle.history.specs.Calls.{
  Order,
  orders,
  record_word,
  views,
  Setting,
  search,
  class,
  sets,
  hears,
  takes,
  sweeps,
  looks,
  Call,
  order_checks,
  board_left,
  list_left,
  checks_of,
  settle,
}
use Rattle.history.specs.Outcome as outcome
use Rattle.history.specs.Parts.{Part, About, setting_in}
use Rattle.history.specs.Reach.{Reached, KeysUnique}
use Rattle.history.specs.Ranges.{Octets, InRange, EntryFits}
use Rattle.history.specs.Line.{Copy, entry_of, sent_of, line_at}
use Rattle.history.specs.Marked.{Marked, marked_cases}
use Rattle.demands.specs.Trace.{Customer, number_of, Step, operates, flies, step_of, mission_of, words_after, history_of, board_of, seat_of, relay_of, relay_for, Gives}
use Rattle.demands.specs.ReadOut.{read_out, own_out, ended_by, local_in, onward_in, took_in, dropped_in, own_in, memory_in, asks_for, part_told, Reads, Builds, data_from, rewritten_in, above_in, header_octets, header_out, wire_by}

-- C is told this verdict of page 01, of these octets
pub record ToldAs (octets : List ℕ) (x : Result) (v : Verdict) : Type 0 where
  pub refusal : ended_by x ≡ v.refusal
  pub local : local_in x ≡ v.local
  pub onward : onward_in x ≡ v.onward
  pub took : (p : ℕ) → p < port_count → in_set p (took_in x) ≡ v.took p
  pub dropped : (p : ℕ) → p < port_count → in_set p (dropped_in x) ≡ v.dropped p
  -- where the data begin, of every datagram that is not refused; nothing above; and with a refusal nothing else
  pub data_from_lem : ended_by x ≡ 0 → data_from x ≡ (header_of octets).size
  pub above : above_in x ≡ 0
  pub alone : ended_by x ≢ 0 → x.answer ≡ ended_by x

-- and each number exactly where its row of page 01's tables decides: at is the arrival port
pub record ExactlyAs (r : Relay) (at second : ℕ) (octets : List ℕ) (room : ℕ) (x : Result) : Type 0 where
  pub refusal : GivenBy (step_rows r at second octets room) (ended_by x)
  pub local : NoneHolds (step_rows r at second octets room) → GivenBy (local_rows r at (aim_at r at octets) (header_of octets).fields) (local_in x)
  pub onward : NoneHolds (step_rows r at second octets room) → (n : ℕ)
      → (onward_in x ≡ n)
      ↔ Decides (GivesNumber r at (header_of octets) n) (onward_rows r at (aim_at r at octets) (header_of octets).fields)
      (wanted (best_port more_ones r (aim_at r at octets)) (best_code more_ones r (aim_at r at octets)))

-- the output as W-214 says it, code being what the route taken asks for: "port p's from 50 × p on, written only where p took an entry", and only as long as
-- its header is
pub record WrittenAs (r : Relay) (at : ℕ) (octets output : List ℕ) (code : ℕ) (x : Result) : Type 0 where
  pub header : (p : ℕ) → p < port_count → in_set p (took_in x) ≡ true
      → header_out x p ≡ next_header (lies_far r at p) (port_in r at).address.0 code octets
  -- rewritten exactly where addresses are widened or an element is added
  pub rewritten : (p : ℕ) → p < port_count
      → in_set p (rewritten_in x) ≡ (in_set p (took_in x) && rewrites (lies_far r at p) code (header_of octets).fields)
  -- every octet outside the headers of the ports that took an entry stays as lent
  pub as_many : length x.left.output ≡ length output
  pub others : (i : ℕ)
      → ((p : ℕ) → p < port_count → in_set p (took_in x) ≡ true → (i < stretch_of p) ⊎ (stretch_of p + header_octets x p ≤ i))
      → get_or x.left.output i 0 ≡ get_or output i 0

-- what C sends by port p, read as the system behind that port reads it: one-octet addresses are filled in from that port's domain
pub record OnTheWire (r : Relay) (at p : ℕ) (octets : List ℕ) (code : ℕ) (wire : List ℕ) : Type 0 where
  pub came : Header
  pub read : read_of octets ≡ Good came
  pub goes : Header
  pub reads : read_of wire ≡ Good goes
  -- "The address in the rewritten header always names the same system that the arriving octet named": destination, path and source
  pub aim : aim_of (port_in r p).address.0 goes.fields.addresses ≡ aim_of (port_in r at).address.0 came.fields.addresses
  pub origin : origin_of (port_in r p).address.0 goes.fields.addresses ≡ origin_of (port_in r at).address.0 came.fields.addresses
  -- so an address of one octet goes out into no other domain
  pub domain : one_octet goes.fields.addresses ≡ true → lies_far r at p ≡ false
  -- the fields that came, with the changes that W-214 states and no others; the length field is the header and the data, and fits the port
  pub fields : goes.fields ≡ next_fields (lies_far r at p) (port_in r at).address.0 code came.fields
  pub long : goes.length ≡ goes.size + data_of came
  pub fits : goes.length ≤ (port_in r p).mtu

-- what goes out where hj_take hands out e: the copy that is asked for, and the octets that C sends for it, which read as a header; of a reply (W-203) the
-- octets that came are those that it was made as, at the port of its request
pub record GoesOut (r : Relay) (p : ℕ) (line : List Copy) (e : Entry) : Type 0 where
  pub copy : Copy
  pub others : List Copy
  pub first : chosen (rank_by entry_of) line ≡ one copy others
  pub entry : copy.entry ≡ e
  pub came : Header
  pub read : read_of copy.octets ≡ Good came
  pub goes : Header
  pub reads : read_of (sent_of copy) ≡ Good goes
  -- with one-octet addresses the port's domain is that of the port by which it came in
  pub domain : one_octet goes.fields.addresses ≡ true → domain_of (port_in r p).address ≡ domain_of copy.arrival
  -- and what it names, the octets that came named there
  pub aim : aim_of (port_in r p).address.0 goes.fields.addresses ≡ aim_of copy.arrival.0 came.fields.addresses
  pub origin : origin_of (port_in r p).address.0 goes.fields.addresses ≡ origin_of copy.arrival.0 came.fields.addresses

-- C is told the answer of a marked case, however its calls were made, and whatever the other customer called between them
abbrev pub Answered : Customer → Marked → Type 0
Answered who m =
    (steps : List Step) (x : Result) → history_of who steps ≡ m.calls → Gives steps (step_of who m.asked) x → read_out m.asked x.answer ≡ m.answer

-- the answer n of a setting with these tests: by its number exactly where its test holds and none before it, and 0 exactly where none holds
abbrev pub DecidedBy : Checks → ℕ → Type 0
DecidedBy checks answer = ((n : ℕ) → n ≢ 0 → (answer ≡ n) ↔ FirstHolds checks n) × ((answer ≡ 0) ↔ NoneHolds checks)

-- a sweep at this second, of a customer that remembered k, with this lifetime set
pub record SweptAs (k : Memory) (lifetime second : ℕ) (x : Result) : Type 0 where
  -- "a second under the last accepted one .. refuses a .. sweep with 29", which leaves all;
  pub decided : DecidedBy (sweep_checks k second) x.answer
  pub refused : x.answer ≢ 0 → memory_in x.left.mission ≡ k
  -- "any other second is accepted",
  pub last : x.answer ≡ 0 → (memory_in x.left.mission).last ≡ second
  -- and "frees exactly pairs whose age is over the lifetime set": of the pairs that are held those, and every other place stays as it is
  pub freed : x.answer ≡ 0 → (i : ℕ) → is_free (pair_at k i) ≡ false
      → (is_free (pair_at (memory_in x.left.mission) i) ≡ true) ↔ (lifetime < second - (pair_at k i).second)
  pub others : x.answer ≡ 0 → (i : ℕ) → (is_free (pair_at k i) ≡ true) ⊎ (second - (pair_at k i).second ≤ lifetime) → pair_at (memory_in x.left.mission) i ≡ pair_at k i

pub record Demand2 : Type 0 where
  -- "Headers are read .. as CCSDS 713.0-B-1 lays them out": hj_read answers what the layout gives, and refuses by n exactly where the condition of n
  -- holds and none before it
  pub reads : (s : List ℕ) → Reads s (reading_of (read_of s))
  pub reads_refuses : (s : List ℕ) (r : Reading) → Reads s r → (n : ℕ) → n ≢ 0 → (r.refusal ≡ n) ↔ FirstHolds (read_checks s) n
  pub reads_no_further : (s t : List ℕ) (n : ℕ) (r : Reading) → length_of s ≤ n → (control_of s).end ≤ n → take n t ≡ take n s → Reads s r → Reads t r
  -- ".. and built": hj_build answers and writes what the layout gives, and refuses likewise. "It writes the shortest control field and unused bits as
  -- zero. Reading what it built gives the same fields; building what was read gives the same header octets where the control field was shortest, unused
  -- bits zero and the data at most 8,141 octets."
  pub builds : (fields : Numbers) (size : ℕ) (lent : List ℕ) → Builds fields size lent (build_answer fields size (length lent)) (build_output fields size lent)
  pub builds_refuses : (fields : Numbers) (size : ℕ) (lent left : List ℕ) (answer n : ℕ) → Words fields → Builds fields size lent answer left → n ≢ 0
      → (answer ≡ refusal_number n) ↔ FirstHolds (numbers_checks fields size (length lent)) n
  pub builds_shortest : (fields : Numbers) (size : ℕ) (lent left : List ℕ) (answer : ℕ) → Words fields → Octets lent → Builds fields size lent answer left
      → answer < 2 ^ 32 → NoneShorter left × UnusedZero (control_of left)
  pub build_then_read : (fields : Numbers) (size : ℕ) (lent left user_data : List ℕ) (answer : ℕ) → Words fields → Builds fields size lent answer left
      → answer < 2 ^ 32 → size ≤ length user_data
      → Reads (take answer left ++ user_data) (record { refusal = 0; length = answer + size; header = answer; fields = fields })
  pub read_then_build : (s : List ℕ) (r : Reading) (lent : List ℕ) → Octets s → Reads s r → r.refusal ≡ 0 → data_read r ≤ most_data
      → longest_header ≤ length lent → NoneShorter s
      → Builds r.fields (data_read r) lent r.header (take r.header s ++ drop r.header lent)
  -- "every verdict .. follows the written rules": what C is told of a datagram is what page 01's tables give of the relay that the customer sees with the
  -- list lent, each number exactly where its row decides, and the output is as the page says; a list over 512 records is refused (demand 1)
  pub verdict : (who : Customer) (steps : List Step) (rs : List Record) (at : ℕ) (slot : Slot) (second : ℕ) (octets output : List ℕ) (x : Result)
      → Gives steps (flies who (hears rs at slot second octets output)) x → too_long rs ≡ false
      → ToldAs octets x (verdict_of (relay_for who steps rs) at second octets (length output))
      × (ExactlyAs (relay_for who steps rs) at second octets (length output) x
      × WrittenAs (relay_for who steps rs) at octets output (verdict_of (relay_for who steps rs) at second octets (length output)).code x)
  -- W-207: what is remembered then, whatever is answered, is what the page says of the relay that the customer sees; of a list over 512 records demand 1 says
  -- that all stays
  pub memory : (who : Customer) (steps : List Step) (rs : List Record) (at : ℕ) (slot : Slot) (second : ℕ) (octets output : List ℕ) (x : Result)
      → Gives steps (flies who (hears rs at slot second octets output)) x → too_long rs ≡ false
      → memory_in x.left.mission ≡ page_memory (relay_for who steps rs) at second octets (length output)
  -- and what hj_sweep answers and leaves; settings and queues it leaves as they are
  pub sweeps : (who : Customer) (steps : List Step) (second : ℕ) (x : Result) (g : Gives steps (flies who (sweeps second)) x)
      → SweptAs (memory_in (mission_of who g.before)) (board_of steps).lifetime second x × (own_in x.left.mission ≡ own_in (mission_of who g.before))
  -- "Octets beyond the length field are ignored.": what comes after them changes neither the answer nor the words
  pub hears_no_further : (who : Customer) (steps : List Step) (rs : List Record) (at : ℕ) (slot : Slot) (second : ℕ) (s t output : List ℕ) (n : ℕ) (x y : Result)
      → length_of s ≤ n → (control_of s).end ≤ n → take n t ≡ take n s
      → Gives steps (flies who (hears rs at slot second s output)) x → Gives steps (flies who (hears rs at slot second t output)) y
      → (y.answer ≡ x.answer) × (y.left.mission ≡ x.left.mission)
  -- for every port that took an entry, the octets that C finds for it in the output, with the data behind them, read as the header that came with the changes
  -- of W-214 and no others (the hop count, if it has one, one less), and name the same destination, source and path
  pub on_the_wire : (who : Customer) (steps : List Step) (rs : List Record) (at : ℕ) (slot : Slot) (second : ℕ) (octets output : List ℕ) (x : Result)
      → Gives steps (flies who (hears rs at slot second octets output)) x → too_long rs ≡ false → (p : ℕ) → p < port_count → in_set p (took_in x) ≡ true
      → OnTheWire (relay_for who steps rs) at p octets (verdict_of (relay_for who steps rs) at second octets (length output)).code (wire_by x octets p)
  -- page 01's marked cases a to l, for each customer
  pub marked : (who : Customer) → Each (Answered who) (marked_cases (number_of who))
  -- "every .. setting .. follows the written rules": the operator's orders, which leave a board and a list,
  pub orders_follow : (steps : List Step) (o : Order) (x : Result) (g : Gives steps (operates (orders o)) x)
      → DecidedBy (order_checks (board_of steps) o) x.answer
      × ((decode_board (words_after g.before (operates (orders o)) x).board ≡ board_left (board_of steps) o) × (x.left.routes ≡ list_left (board_of steps) o))
  -- and a customer's own, which leave its groups and paths
  pub settings : (who : Customer) (steps : List Step) (s : Setting) (x : Result) → Gives steps (flies who (sets s)) x
      → DecidedBy (checks_of (relay_of who steps) s) x.answer × (own_in x.left.mission ≡ (settle (relay_of who steps) s).mission)
  -- what is taken "holds until it is changed", whatever other calls are made, the other customer's among them, and is read back, a word at a time: of a
  -- port, of a group, of a path, and of a record in a list; and so is the lifetime
  pub settings_hold : (who : Customer) (steps later : List Step) (part : Part) → Each (λ (c : Call). About c part → ⊥) (history_of who later)
      → setting_in (seat_of who (steps ++ later)) part ≡ setting_in (seat_of who steps) part
  pub settings_back : (who : Customer) (steps : List Step) (part : Part) (word : ℕ) (x : Result) → Gives steps (asks_for who part word) x
      → x.answer ≡ part_told (seat_of who steps) part word
  pub record_back : (steps : List Step) (rs : List Record) (i word : ℕ) (x : Result) → Gives steps (operates (views (record_word rs i word))) x
      → x.answer ≡ route_word_told rs i word
  -- the settings in force pass the tests that took them, no two places hold the same entry, and all is within the ranges that the C header promises
  pub settings_good : (who : Customer) (steps : List Step)
      → Reached (seat_of who steps) × (KeysUnique (seat_of who steps) × InRange (seat_of who steps))
  -- "every .. taking follows the written rules": 16 exactly where the port is not set up, or not the customer's; 18 exactly where it is and nothing waits
  pub takings : (who : Customer) (steps : List Step) (p : ℕ) (x : Result) → Gives steps (flies who (takes p)) x
      → ((x.answer ≡ refusal_number 16) ↔ (port_set_up (relay_of who steps) p ≡ false))
      × ((x.answer ≡ refusal_number 18)
      ↔ ((port_set_up (relay_of who steps) p ≡ true) × (line_at p (number_of who) (history_of who steps) ≡ [])))
  -- what is handed out has a precedence of 0 to 15 and a slot of 16 bits
  pub takings_fit : (who : Customer) (steps : List Step) (p : ℕ) (x : Result) (e : Entry) → Gives steps (flies who (takes p)) x
      → own_out (takes p) x.answer ≡ outcome.entry e → EntryFits e
  -- "where a route is sought, the one taken matches the destination under its mask, no matching entry has more mask bits,": W-204 reads "no matching entry
  -- that is up", and a candidate is filled, up and matches; W-208: of the routes that the customer sees in the list lent
  pub route_taken : (who : Customer) (steps : List Step) (rs : List Record) (at : ℕ) (slot : Slot) (second : ℕ) (octets output : List ℕ) (a : Address) (p : ℕ)
      (x : Result) → Gives steps (flies who (hears rs at slot second octets output)) x → too_long rs ≡ false
      → RouteSought (relay_for who steps rs) at second octets (length output) a → p < port_count
      → (in_set p (took_in x) || in_set p (dropped_in x)) ≡ true → RouteTaken (relay_for who steps rs) a p
  -- "and 'no route' is said exactly when none matches.": none that is up
  pub no_route : (who : Customer) (steps : List Step) (rs : List Record) (at : ℕ) (slot : Slot) (second : ℕ) (octets output : List ℕ) (a : Address) (x : Result)
      → Gives steps (flies who (hears rs at slot second octets output)) x → too_long rs ≡ false
      → RouteSought (relay_for who steps rs) at second octets (length output) a
      → (onward_in x ≡ 11) ↔ ((q : ℕ) → candidate (route_in (relay_for who steps rs) q) a ≡ false)
  -- W-202: hj_search says which route an address takes, or a plain no
  pub search : (who : Customer) (steps : List Step) (rs : List Record) (a : Address) (x : Result) → Gives steps (flies who (looks (search rs a))) x
      → too_long rs ≡ false → LongestOrNo (relay_for who steps rs) a x.answer
  -- and hj_class says the class that page 01's table gives an address
  pub class : (who : Customer) (steps : List Step) (a : Address) (x : Result) → a.0 < 2 ^ 32 → Gives steps (flies who (looks (class a))) x
      → (c : Class) × ((x.answer ≡ class_number c) × Row c a.0)
  -- "A one-octet address never goes out into another domain.": of the octets that go out, when hj_take hands the copy out, by the port as it is then
  pub domain : (who : Customer) (steps : List Step) (p : ℕ) (x : Result) (e : Entry) → Gives steps (flies who (takes p)) x
      → own_out (takes p) x.answer ≡ outcome.entry e
      → GoesOut (relay_of who steps) p (line_at p (number_of who) (history_of who steps)) e
