-- The settings and the pairs as C reads them back (include/harpjuniper.h): a word of the record at a place, as it stands. The words of a record are those
-- of crate state, in their order. Assumes nothing.
use Rattle.std.specs.Prelude.{ℕ}
use Rattle.sets.specs.Limits.{port_count, group_places, path_places, pair_places}
use Rattle.state.specs.Relay.{Mission, Memory, group_at, path_at, pair_at}
use Rattle.state.specs.Seen.{Board, owned_at}
use Rattle.state.specs.Layout.{owned_words, group_words, path_words, pair_words}
use Rattle.lent_state.specs.Read.{word_answer, place_answer}

-- set up, address, mask, MTU, mission
unfoldable pub port_answer : Board → ℕ → ℕ → ℕ
port_answer b p word = place_answer p port_count (word_answer (owned_words (owned_at b p)) word)

-- filled, address, the ports to send to, those subscribed
unfoldable pub group_answer : Mission → ℕ → ℕ → ℕ
group_answer m i word = place_answer i group_places (word_answer (group_words (group_at m i)) word)

-- filled, path, the ports to send to, delivered here
unfoldable pub path_answer : Mission → ℕ → ℕ → ℕ
path_answer m i word = place_answer i path_places (word_answer (path_words (path_at m i)) word)

-- format, source, the timestamp's upper and lower octets, second
unfoldable pub pair_answer : Memory → ℕ → ℕ → ℕ
pair_answer k i word = place_answer i pair_places (word_answer (pair_words (pair_at k i)) word)
