-- Floods, for each of two customers by itself: page 02, W-207, said of what C calls. After any steps, whatever the other customer does between them, a
-- flooded datagram goes on once until a sweep frees its pair; the words hold exactly the pairs that the rules keep; and the last second is the greatest
-- that was accepted. What one call does is demand 2. Proved in proofs/Floods.antt. Assumes nothing.
use Rattle.std.specs.Prelude.{ℕ, ◌+◌, ◌<◌, ◌≤◌, ◌≡◌, ◌↔◌, ◌≢◌, Bool, true, false, not, ◌&&◌, ◌||◌, List, [], ◌∷◌, ◌++◌, length, get_or}
use Rattle.address.specs.declared.Slot.{Slot}
use Rattle.header.specs.Read.{read_of, header_of}
use Rattle.header.specs.declared.Header.{Header}
use Rattle.checks.specs.Told.{Good}
use Rattle.sets.specs.Limits.{pair_places}
use Rattle.meaning.specs.Names.{origin_of}
use Rattle.meaning.specs.Flood.{is_flooded, source_in, pair_of}
use Rattle.queue.specs.Order.{InOrder}
use Rattle.records.specs.Held.{same_pair, is_free}
use Rattle.records.specs.declared.Pair.{Pair}
use Rattle.records.specs.declared.PairPlace.{PairPlace}
use Rattle.routes.specs.declared.Record.{Record}
use Rattle.state.specs.Relay.{pair_at, port_in}
use Rattle.state.specs.Seen.{seated}
use Rattle.state.specs.Layout.{decode_board, decode, pair_words}
use Rattle.floods.specs.Memory.{is_held}
use Rattle.contracts.specs.Promised.{Result}
use Rattle.history.specs.Calls.{pair_word, last_second, MissionCall, sets, hears, echoes, takes, sweeps, looks}
use Rattle.history.specs.Answers.{listed}
use Rattle.history.specs.Ranges.{Octets}
use Rattle.history.specs.Floods.{Among, HeldIn, held_after, accepted_own, greatest}
use Rattle.history.specs.Ledger.{one}
use Rattle.demands.specs.Trace.{Customer, number_of, Step, flies, Words, mission_of, Trace, AllPass, Begun, history_of, board_of, Gives}
use Rattle.demands.specs.ReadOut.{own_out, ended_by, local_in, onward_in, took_in, dropped_in, memory_in, over_own}

-- the pair of these octets, come in by port `at` where the words are w: "source and timestamp, format included", the source as that port fills it in
abbrev pub pair_on : Customer → Words → ℕ → List ℕ → Pair
pair_on who w at octets = pair_of (port_in (seated (decode_board w.board) (decode (mission_of who w))) at).address.0 (header_of octets).fields

-- what their source names there
abbrev pub source_on : Customer → Words → ℕ → List ℕ → ℕ
source_on who w at octets =
    source_in (origin_of (port_in (seated (decode_board w.board) (decode (mission_of who w))) at).address.0 (header_of octets).fields.addresses)

-- the words hold it
abbrev pub holds_in : Customer → Words → Pair → Bool
holds_in who w q = is_held (memory_in (mission_of who w)) q

module _ (who : Customer) (q : Pair) where
  -- how often C is told, of flooded datagrams with this pair, that ports were wanted: that some took an entry, 1; that there are none, 11; or 10, 13, 14, 15
  abbrev pub goes_on : Words → MissionCall → Result → ℕ
  goes_on w (sets s) x = 0
  goes_on w (hears rs at slot second octets output) x =
      one
      (is_flooded (header_of octets).fields
      && (same_pair (pair_on who w at octets) q && listed (1 ∷ 10 ∷ 11 ∷ 13 ∷ 14 ∷ 15 ∷ []) (onward_in x)))
  goes_on w (echoes rs at slot octets output) x = 0
  goes_on w (takes p) x = 0
  goes_on w (sweeps second) x = 0
  goes_on w (looks l) x = 0

  abbrev pub times_on : (cs : List Step) (w v : Words) → Trace w cs v → ℕ
  times_on cs w v t = over_own who 0 ◌+◌ goes_on cs w v t

  -- whether a sweep frees the pair: the words before it hold it, and those after it do not
  abbrev pub frees : Words → MissionCall → Result → Bool
  frees w (sets s) x = false
  frees w (hears rs at slot second octets output) x = false
  frees w (echoes rs at slot octets output) x = false
  frees w (takes p) x = false
  frees w (sweeps second) x = holds_in who w q && not (is_held (memory_in x.left.mission) q)
  frees w (looks l) x = false

  abbrev pub some_frees : (cs : List Step) (w v : Words) → Trace w cs v → Bool
  some_frees cs w v t = over_own who false ◌||◌ frees cs w v t

-- the seconds that C is told were accepted, one after the other: of datagrams that 21, 16, 17 and 29 did not end, and of sweeps that were answered by 0
abbrev pub accepted_in : (who : Customer) (cs : List Step) (w v : Words) → Trace w cs v → List ℕ
accepted_in who cs w v t = over_own who [] ◌++◌ (λ (y : Words) (c : MissionCall) (x : Result). accepted_own c (own_out c x.answer)) cs w v t

-- what C is told of a datagram that goes to nobody
pub record GoesNowhere (x : Result) : Type 0 where
  pub took : took_in x ≡ 0
  pub dropped : dropped_in x ≡ 0

pub record Floods : Type 0 where
  -- "pairs of source and timestamp, format included": octets that read as headers have the same pair exactly where their sources name the same system, each
  -- at the port that it came in by, and their timestamps are the same, format, P-field and time; so both forms of one source are one pair
  pub alike : (who : Customer) (w : Words) (at bt : ℕ) (s t : List ℕ) (h k : Header) → Octets s → Octets t → read_of s ≡ Good h → read_of t ≡ Good k
      → (pair_on who w at s ≡ pair_on who w bt t) ↔ ((source_on who w at s ≡ source_on who w bt t) × (h.fields.stamp ≡ k.fields.stamp))
  -- "not asked for a held pair", which is kept with the first: of the datagrams with one pair that are heard in steps in which no sweep frees it, one at the
  -- most goes on, whatever ports they come by; and none where the words held it before
  pub once : (who : Customer) (q : Pair) (steps later : List Step) (w v u : Words) → Begun w steps v → (t : Trace v later u) → AllPass later
      → some_frees who q later v u t ≡ false → times_on who q later v u t ≤ 1
  pub none_while_held : (who : Customer) (q : Pair) (steps later : List Step) (w v u : Words) → Begun w steps v → (t : Trace v later u) → AllPass later
      → some_frees who q later v u t ≡ false → holds_in who v q ≡ true → times_on who q later v u t ≡ 0
  -- so a flooded datagram whose pair the words hold goes to nobody, whatever port it comes by, and on a router its onward half is "not asked"
  pub never_again : (who : Customer) (steps : List Step) (rs : List Record) (at : ℕ) (slot : Slot) (second : ℕ) (octets output : List ℕ) (x : Result)
      (g : Gives steps (flies who (hears rs at slot second octets output)) x) → is_flooded (header_of octets).fields ≡ true
      → holds_in who g.before (pair_on who g.before at octets) ≡ true
      → GoesNowhere x × ((board_of steps).router ≢ 0 → onward_in x ≡ 0)
  -- "no" with "not asked" is said of such a datagram alone
  pub unsaid : (who : Customer) (steps : List Step) (rs : List Record) (at : ℕ) (slot : Slot) (second : ℕ) (octets output : List ℕ) (x : Result)
      (g : Gives steps (flies who (hears rs at slot second octets output)) x) → ended_by x ≡ 0 → local_in x ≡ 0 → onward_in x ≡ 0
      → ((board_of steps).router ≢ 0)
      × ((is_flooded (header_of octets).fields ≡ true) × (holds_in who g.before (pair_on who g.before at octets) ≡ true))
  -- "The relay keeps 64 pairs of source and timestamp ..": a pair with its second stands in a place of the words exactly where the rules keep it, by the
  -- calls of the history (which sweeps are refused, the field last says by the calls too), each in one place, and they keep 64 at the most;
  pub held : (who : Customer) (steps : List Step) (w v : Words) → Begun w steps v → (x : PairPlace)
      → Among x (held_after (number_of who) (history_of who steps)) ↔ HeldIn x (memory_in (mission_of who v))
  pub held_once : (who : Customer) (steps : List Step) (w v : Words) → Begun w steps v → (i j : ℕ) → i < pair_places → j < pair_places
      → is_free (pair_at (memory_in (mission_of who v)) i) ≡ false
      → (pair_at (memory_in (mission_of who v)) i).pair ≡ (pair_at (memory_in (mission_of who v)) j).pair → i ≡ j
  pub held_most : (who : Customer) (steps : List Step) → length (held_after (number_of who) (history_of who steps)) ≤ pair_places
  -- and hj_pair_word answers what stands there, a word at a time
  pub held_read : (who : Customer) (steps : List Step) (i word : ℕ) (x : Result) (g : Gives steps (flies who (looks (pair_word i word))) x)
      → i < pair_places → word < 5 → x.answer ≡ get_or (pair_words (pair_at (memory_in (mission_of who g.before)) i)) word 0
  -- "a second under the last accepted one (0 at first) refuses ..; any other second is accepted": hj_last_second answers the greatest of those that were
  -- accepted, and 0 where none was; and they never fall
  pub last : (who : Customer) (steps : List Step) (x : Result) (g : Gives steps (flies who (looks last_second)) x)
      → x.answer ≡ greatest (accepted_in who steps _ g.before g.begun.then)
  pub seconds_never_fall : (who : Customer) (steps : List Step) (w v : Words) (b : Begun w steps v)
      → InOrder (λ (m n : ℕ). m ≤ n) (accepted_in who steps _ v b.then)
