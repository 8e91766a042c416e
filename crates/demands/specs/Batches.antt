-- Page 02, W-201: "Answers, queues, counters and outputs must equal those of single calls in the same order, a refused one in the middle included." Said of what
-- C calls: whatever is lent, a batch gives back what a trace of single calls does, one for each item, and leaves the same words. So a program that hands over
-- many datagrams in one call is one that hands them over one by one, and all that is said of traces (Demand1 to Demand3, Floods, Echoes, Apart) is said of
-- it. Proved in proofs/Batches.antt. Assumes nothing.
use Rattle.std.specs.Prelude.{ℕ, zero, suc, ◌*◌, ◌<◌, ◌≤◌, ◌≡◌, Bool, true, false, ◌↔◌, ◌≢◌, ◌⊎◌, List, [], ◌∷◌, ◌++◌, map, eqb, length, get_or, drop}
use Rattle.checks.specs.Order.{pick}
use Rattle.queue.specs.Order.{Each}
use Rattle.words.specs.Cut.{total}
use Rattle.routes.specs.declared.Record.{Record}
use Rattle.lent_state.specs.View.{too_long}
use Rattle.judge.specs.Ending.{output_room}
use Rattle.answers.specs.Answers.{part_at}
use Rattle.batch.specs.Items.{most_items, Lists, octets_at, room_at}
use Rattle.contracts.specs.Promised.{Result, lent_to, Exported, hj_receive_many}
use Rattle.contracts.specs.Stated.{Says}
use Rattle.history.specs.Calls.{hears}
use Rattle.history.specs.Ranges.{Octets}
use Rattle.demands.specs.Trace.{Customer, first, second, Step, operates, flies, Words, mission_of, made, words_after, Trace, Fit, Passes, Begun, is_of, history_of}
use Rattle.demands.specs.Apart.{left_to}

-- ---- what C does: a step as before, or a batch of a customer's. rs is the list of routes, x the lists and the octets, n the answers' room and o the output.
pub data Act : Type 0 where
  single : Step → Act
  batch : Customer → List Record → Lists → List ℕ → List ℕ → Act

-- "One call takes up to 64 datagrams as octets laid end to end, with a list of lengths, ports and slots", and the second "per item" (W-207): item i as a step of
-- its own, with its 400 octets of the output
abbrev pub hearing : Customer → List Record → Lists → List ℕ → ℕ → Step
hearing who rs x o i =
    flies who
    (hears rs (get_or x.ports i 0) (record { 0 = get_or x.slots i 0 }) (get_or x.seconds i 0) (octets_at x.lengths x.octets i) (room_at o i))

-- the k items from i on, in their order
abbrev pub hearings : Customer → List Record → Lists → List ℕ → ℕ → ℕ → List Step
hearings who rs x o i zero = []
hearings who rs x o i (suc k) = hearing who rs x o i ∷ hearings who rs x o (suc i) k

-- an act as steps, by what it answers: a batch is as many hearings as it has items, and none where the whole call is refused
abbrev pub steps_of : Act → ℕ → List Step
steps_of (single c) answer = c ∷ []
steps_of (batch who rs x n o) answer = pick (eqb answer 0) (hearings who rs x o 0 (length x.lengths)) []

-- ---- the call from C, and the words after it
abbrev pub many_by : List ℕ → List ℕ → List Record → Lists → List ℕ → List ℕ → Exported
many_by b m rs x n o = hj_receive_many b m rs x.lengths x.ports x.slots x.seconds x.octets n o

abbrev pub called : Words → Act → Exported
called w (single c) = made w c
called w (batch who rs x n o) = many_by w.board (mission_of who w) rs x n o

-- a customer's words are now m
abbrev pub with_mission : Customer → Words → List ℕ → Words
with_mission first w m = record { board = w.board; zero = m; one = w.one }
with_mission second w m = record { board = w.board; zero = w.zero; one = m }

abbrev pub left_by : Words → Act → Result → Words
left_by w (single c) y = words_after w c y
left_by w (batch who rs x n o) y = with_mission who w y.left.mission

-- the words v are left, where w are lent first
abbrev pub Runs : Words → List Act → Words → Type 0
Runs w [] v = v ≡ w
Runs w (c ∷ cs) v = (y : Result) × (Says (called w c) y × Runs (left_by w c y) cs v)

-- the steps of all acts, in their order
abbrev pub steps_in : (cs : List Act) (w v : Words) → Runs w cs v → List Step
steps_in [] w v r = []
steps_in (c ∷ cs) w v r = steps_of c r.0.answer ++ steps_in cs (left_by w c r.0) v r.1.1

-- ---- what a customer has part in: the operator's acts and its own, in their order, and what they give back
abbrev pub is_for : Customer → Act → Bool
is_for who (single (operates c)) = true
is_for who (single (flies x c)) = is_of who x
is_for who (batch x rs l n o) = is_of who x

abbrev pub acts_of : Customer → List Act → List Act
acts_of who [] = []
acts_of who (c ∷ cs) = pick (is_for who c) (c ∷ acts_of who cs) (acts_of who cs)

abbrev pub given_for : (who : Customer) (cs : List Act) (w v : Words) → Runs w cs v → List Result
given_for who [] w v r = []
given_for who (c ∷ cs) w v r =
    let rest = given_for who cs (left_by w c r.0) v r.1.1 in
    pick (is_for who c) (r.0 ∷ rest) rest

-- what the call asks of C before it promises anything: in a batch, slots of 16 bits
abbrev pub SlotsPass : Act → Type 0
SlotsPass (single c) = Unit
SlotsPass (batch who rs x n o) = Each (λ (slot : ℕ). slot < 65536) x.slots

-- what C can pass: beside these, seconds of 32 bits, and octets
abbrev pub ActPasses : Act → Type 0
ActPasses (single c) = Passes c
ActPasses (batch who rs x n o) = SlotsPass (batch who rs x n o) × (Fit x.seconds × Octets x.octets)

-- ---- what is refused by 27 is not this
pub record Fits (x : Lists) (n o : List ℕ) : Type 0 where
  -- "Lists of unequal length"
  pub ports : length x.ports ≡ length x.lengths
  pub slots : length x.slots ≡ length x.lengths
  pub seconds : length x.seconds ≡ length x.lengths
  pub answers : length n ≡ length x.lengths
  -- "lengths that sum to more than the octets lent": the sum does not wrap
  pub octets : total x.lengths ≤ length x.octets
  -- "more than 64 items"
  pub few : length x.lengths ≤ most_items
  -- "or output room short of 50 each" of eight ports (W-214)
  pub output : output_room * length x.lengths ≤ length o

-- ---- all that a trace gives back, one call after the other
abbrev pub given_back : (cs : List Step) (w v : Words) → Trace w cs v → List Result
given_back [] w v t = []
given_back (c ∷ cs) w v t = t.0 ∷ given_back cs (words_after w c t.0) v t.1.1

-- what a batch gives back, y, is what single calls on the same words do
module _ (who : Customer) (w : Words) (rs : List Record) (x : Lists) (o : List ℕ) (y : Result) where
  abbrev singly : List Step
  singly = hearings who rs x o 0 (length x.lengths)

  abbrev after : Words
  after = with_mission who w y.left.mission

  pub record AsSingles : Type 0 where
    -- one for each item, in the same order, and the same words are left: the queues, the counters, and all else that a mission has
    pub calls : Trace w singly after
    -- the answers are theirs, in their order
    pub answers : y.left.numbers ≡ map (λ (z : Result). z.answer) (given_back singly w after calls)
    -- an item's 400 octets of the output are what its call leaves of them, and what stands behind the last stays
    pub outputs : (i : ℕ) → i < length x.lengths
        → room_at y.left.output i ≡ get_or (map (λ (z : Result). z.left.output) (given_back singly w after calls)) i []
    pub rest : drop (output_room * length x.lengths) y.left.output ≡ drop (output_room * length x.lengths) o
    -- the board and the list of routes are lent to be read, as to a single call (board-and-list-stay of Apart)
    pub board : y.left.board ≡ w.board
    pub routes : y.left.routes ≡ rs

pub record Batches : Type 0 where
  -- "Lists of unequal length, lengths that sum to more than the octets lent, more than 64 items, or output room short of 50 each refuse the whole call with
  -- 27": whatever the words and the octets are; but 21 where the list of routes is too long (docs/DECISIONS.md), and 0 where neither is so
  pub answered : (b m : List ℕ) (rs : List Record) (x : Lists) (n o : List ℕ) (y : Result) → Says (many_by b m rs x n o) y
      → ((y.answer ≡ 21) ↔ (too_long rs ≡ true))
      × (((y.answer ≡ 27) ↔ ((too_long rs ≡ false) × (Fits x n o → ⊥))) × ((y.answer ≡ 0) ↔ ((too_long rs ≡ false) × Fits x n o)))
  -- "before anything is done or counted": all that is lent is left as it was, the answers and the output too
  pub refused_leaves : (b m : List ℕ) (rs : List Record) (x : Lists) (n o : List ℕ) (y : Result) → Says (many_by b m rs x n o) y → y.answer ≢ 0
      → y.left ≡ lent_to (many_by b m rs x n o)
  -- "Answers, queues, counters and outputs must equal those of single calls in the same order, a refused one in the middle included.": of any words, those of
  -- the wrong number too, for which each single call answers 16
  pub as_singles : (who : Customer) (w : Words) (rs : List Record) (x : Lists) (n o : List ℕ) (y : Result) → SlotsPass (batch who rs x n o)
      → Says (called w (batch who rs x n o)) y → y.answer ≡ 0 → AsSingles who w rs x o y
  -- 17 cannot occur in an item, for each has its 400 octets of room (docs/DECISIONS.md)
  pub never_17 : (b m : List ℕ) (rs : List Record) (x : Lists) (n o : List ℕ) (y : Result) → Says (many_by b m rs x n o) y → y.answer ≡ 0
      → (i : ℕ) → i < length x.lengths → part_at 0 (get_or y.left.numbers i 0) ≢ 17
  -- an item of length 0 is refused by 1, unless 16 or 29 comes first (docs/DECISIONS.md)
  pub length_0 : (b m : List ℕ) (rs : List Record) (x : Lists) (n o : List ℕ) (y : Result) → Says (many_by b m rs x n o) y → y.answer ≡ 0
      → (i : ℕ) → i < length x.lengths → get_or x.lengths i 0 ≡ 0
      → (get_or y.left.numbers i 0 ≡ 16) ⊎ ((get_or y.left.numbers i 0 ≡ 29) ⊎ (get_or y.left.numbers i 0 ≡ 1))
  -- So a program with batches among its calls does what a trace does, in which each is its hearings; and after a fresh board and fresh missions such a trace is
  -- what the demands speak of.
  pub runs : (w v : Words) (cs : List Act) → Each SlotsPass cs → (r : Runs w cs v) → Trace w (steps_in cs w v r) v
  pub begun : (w u v : Words) (steps : List Step) (cs : List Act) → Begun w steps u → Each ActPasses cs → (r : Runs u cs v)
      → Begun w (steps ++ steps_in cs u v r) v
  -- there is such a program for any acts
  pub lasts : (w : Words) (cs : List Act) → Each ActPasses cs → (v : Words) × Runs w cs v
  -- Apart, of such programs: where the operator's acts and A's are the same, lent lists included, and stand in the same order among themselves, all that is
  -- given back to them is the same, the answer of a batch and the words left to A too, whatever single calls and batches the other customer makes
  pub apart : (who : Customer) (steps others : List Step) → history_of who steps ≡ history_of who others → (cs ds : List Act)
      → acts_of who cs ≡ acts_of who ds → (w w' u u' v v' : Words) → Begun w steps u → Begun w' others u' → (r : Runs u cs v) (s : Runs u' ds v')
      → (given_for who cs u v r ≡ given_for who ds u' v' s) × (left_to who v ≡ left_to who v')
