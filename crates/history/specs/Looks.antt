-- The number that a call which only looks carries: its refusal, 0 where there is none; of a class, a form, a checksum and the words of a board or a mission
-- the number itself; of a search the sixteen lowest bits, which are the refusal and, above it, whether a route was found (page 01, "Refusal numbers" and
-- "Classes of a four-octet address"; page 02, W-202, W-203 and W-208). What it answers beside that is fixed by its promise. Assumes nothing.
use Rattle.std.specs.Prelude.{ℕ, ◌%◌, ◌^◌, ◌&&◌, length, ltb}
use Rattle.checks.specs.Order.{pick, first_of}
use Rattle.address.specs.Class.{class_of, class_number}
use Rattle.address.specs.Path.{path_form, path_number}
use Rattle.checksum.specs.Sum.{checksum_of}
use Rattle.header.specs.Read.{read_of}
use Rattle.echo.specs.Message.{echo_checks}
use Rattle.echo.specs.Built.{build_checks}
use Rattle.echo.specs.declared.Kind.{Kind}
use Rattle.echo.specs.declared.Kind.TheVariants.{Request, Reply}
use Rattle.echo.specs.declared.Message.{Message}
use Rattle.sets.specs.Limits.{port_count, group_places, path_places, pair_places, counter_count}
use Rattle.state.specs.Layout.{board_words, mission_words}
use Rattle.lent_state.specs.View.{too_long}
use Rattle.harpjuniper.specs.Face.{reading_of, numbers_checks}
use Rattle.route_calls.specs.Search.{search_answer}
use Rattle.history.specs.Seat.{Seat, relay_with}
use Rattle.history.specs.Calls.{
  View,
  router_flag,
  lifetime_word,
  drop_flag,
  port_word,
  record_word,
  Look,
  group_word,
  path_word,
  pair_word,
  last_second,
  search,
  counter,
  waiting,
  read,
  build,
  read_echo,
  build_request,
  build_reply,
  class,
  form,
  checksum,
  board_size,
  mission_size,
}

-- a word of a place: 21 where there is no such place among so many, or no such word among so many
abbrev pub word_refusal : ℕ → ℕ → ℕ → ℕ → ℕ
word_refusal place places word words = pick (ltb place places && ltb word words) 0 21

-- a port has five words, a record of a list seven
abbrev pub view_number : View → ℕ
view_number router_flag = 0
view_number lifetime_word = 0
view_number drop_flag = 0
view_number (port_word p word) = word_refusal p port_count word 5
view_number (record_word rs i word) = pick (too_long rs) 21 (word_refusal i (length rs) word 7)

-- an echo message of this kind
abbrev pub message_from : Kind → ℕ → ℕ → Message
message_from kind identifier sequence = record { identifier = identifier; sequence = sequence; kind = kind }

-- a group has four, and a path; a pair's place five; a search looks at what the mission sees of the list
abbrev pub look_number : Seat → Look → ℕ
look_number x (group_word i word) = word_refusal i group_places word 4
look_number x (path_word i word) = word_refusal i path_places word 4
look_number x (pair_word i word) = word_refusal i pair_places word 5
look_number x last_second = 0
look_number x (search rs a) = pick (too_long rs) 21 (search_answer (relay_with x rs) a % 2 ^ 16)
look_number x (counter i) = pick (ltb i counter_count) 0 21
look_number x (waiting p) = pick (ltb p port_count) 0 21
look_number x (read octets) = (reading_of (read_of octets)).refusal
look_number x (build fields size output) = first_of (numbers_checks fields size (length output))
look_number x (read_echo octets) = first_of (echo_checks octets)
look_number x (build_request identifier sequence echoed output) =
    first_of (build_checks (message_from Request identifier sequence) (length echoed) (length output))
look_number x (build_reply identifier sequence seen echoed output) =
    first_of (build_checks (message_from (Reply seen) identifier sequence) (length echoed) (length output))
look_number x (class a) = class_number (class_of a.0)
look_number x (form p) = path_number (path_form p.0)
look_number x (checksum octets) = checksum_of octets
look_number x board_size = board_words
look_number x mission_size = mission_words
