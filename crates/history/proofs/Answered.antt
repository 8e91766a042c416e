-- Demand 1, all calls under one statement: whatever is asked, the answer stands in the table (specs/Answers.antt and specs/Looks.antt). Assumes nothing.
use native.Mathlib.Omega.{arith}
use Prim.Native.Nat.{ℕ, ◌-◌, ◌%◌, ◌^◌, ◌<◌}
use mathlib.Core.Path.{◌≡◌, refl}
use mathlib.Core.Bool.{Bool, true, false, ◌&&◌}
use mathlib.Core.List.{List, [], ◌∷◌}
use lib.ListN.{length}
use lib.Dec.{eqb, ltb}
use borrow.Author.Tests.{lt-ltb}
use Rattle.std.proofs.Common.{Option, Some, None}
use Rattle.checks.specs.Order.{pick, first_of}
use Rattle.address.specs.Class.{class_of}
use Rattle.address.specs.Path.{path_form}
use Rattle.address.specs.declared.Class.{Class}
use Rattle.address.specs.declared.Class.TheVariants as kind
use Rattle.address.specs.declared.PathForm.{PathForm}
use Rattle.address.specs.declared.PathForm.TheVariants as shape
use Rattle.address.specs.Class as named
use Rattle.address.specs.Path as pathed
use Rattle.checksum.specs.Sum.{ones_sum, checksum_of}
use Rattle.header.specs.Read.{read_checks, header_of, read_of}
use Rattle.header.specs.declared.Header.{Header}
use Rattle.checks.specs.Told.{Good, Refused}
use Rattle.echo.specs.Message.{echo_checks}
use Rattle.echo.specs.Built.{build_checks}
use Rattle.echo.specs.declared.Kind.TheVariants.{Request, Reply}
use Rattle.routes.specs.Search.{Found, search_of}
use Rattle.lent_state.specs.View.{too_long}
use Rattle.harpjuniper.specs.Face.{reading_of, numbers_checks}
use Rattle.route_calls.specs.Search.{search_parts, found_number, search_answer}
use Rattle.floods.specs.Sweep.{sweep_checks}
use Rattle.history.specs.Seat.{Seat, relay_in, relay_with}
use Rattle.history.specs.Calls.{
  View,
  router_flag,
  lifetime_word,
  drop_flag,
  port_word,
  record_word,
  orders,
  views,
  Look,
  group_word,
  path_word,
  pair_word,
  last_second,
  search,
  counter,
  waiting,
  read,
  build,
  read_echo,
  build_request,
  build_reply,
  class,
  form,
  checksum,
  board_size,
  mission_size,
  MissionCall,
  sets,
  hears,
  echoes,
  takes,
  sweeps,
  looks,
  Call,
  operator,
  own,
}
use Rattle.history.specs.Looks.{view_number, message_from, look_number}
use Rattle.history.specs.Outcome.{number, own_outcome, outcome}
use Rattle.history.specs.Answers.{numbers, below, view_numbers, look_row, own_rows, answers_of, stands}
use Rattle.history.proofs.Listed.{number_row, order_listed, setting_listed, every_ending_is_listed, taking_listed}
use Rattle.history.proofs.Replying.{every_reply_is_listed}

-- 0 where there is such a place and such a word, or 21
place_row : (t : Bool) → stands (numbers (0 ∷ 21 ∷ []) ∷ []) (number (pick t 0 21)) ≡ true
place_row true = refl
place_row false = refl

record_row : (t u : Bool) → stands (numbers (0 ∷ 21 ∷ []) ∷ []) (number (pick t 21 (pick u 0 21))) ≡ true
record_row true u = refl
record_row false u = place_row u

read_row : (t : Bool) (n : ℕ) (h : Header) → stands (numbers (0 ∷ 1 ∷ 2 ∷ 4 ∷ 3 ∷ 5 ∷ []) ∷ []) (number n) ≡ true
    → stands (numbers (0 ∷ 1 ∷ 2 ∷ 4 ∷ 3 ∷ 5 ∷ []) ∷ []) (number (reading_of (pick t (Good h) (Refused n))).refusal) ≡ true
unfolding reading_of
read_row true n h k = refl
read_row false n h k = k

class_row : (c : Class) → stands (numbers (0 ∷ 1 ∷ 2 ∷ 3 ∷ 4 ∷ 5 ∷ 6 ∷ []) ∷ []) (number (named.class_number c)) ≡ true
class_row kind.Invalid = refl
class_row kind.Unicast = refl
class_row kind.Multicast = refl
class_row kind.NetBroadcast = refl
class_row kind.DomainBroadcast = refl
class_row kind.ScpsBroadcast = refl
class_row kind.LimitedBroadcast = refl

form_row : (f : PathForm) → stands (numbers (0 ∷ 1 ∷ []) ∷ []) (number (pathed.path_number f)) ≡ true
form_row shape.Invalid = refl
form_row shape.Valid = refl

found_row : (f : Option Found) → stands (numbers (21 ∷ 0 ∷ 256 ∷ []) ∷ []) (number (found_number f % 2 ^ 16)) ≡ true
unfolding search_parts
found_row (Some top) = let e : search_parts 1 top.place top.ones top.route.port % 2 ^ 16 ≡ 256 = omega arith in rw e refl
found_row None = refl

search_row : (t : Bool) (f : Option Found) → stands (numbers (21 ∷ 0 ∷ 256 ∷ []) ∷ []) (number (pick t 21 (found_number f % 2 ^ 16))) ≡ true
search_row true f = refl
search_row false f = found_row f

below_row : (n k : ℕ) → n < k → stands (below k ∷ []) (number n) ≡ true
below_row n k h = simp (lt-ltb n k h)

checksum_row : (octets : List ℕ) → stands (below 65536 ∷ []) (number (checksum_of octets)) ≡ true
checksum_row octets = below_row (65535 - ones_sum octets) 65536 (omega arith)

view_listed : (v : View) → stands (numbers (view_numbers v) ∷ []) (number (view_number v)) ≡ true
view_listed router_flag = refl
view_listed lifetime_word = refl
view_listed drop_flag = refl
view_listed (port_word p word) = place_row (ltb p 8 && ltb word 5)
view_listed (record_word rs i word) = record_row (too_long rs) (ltb i (length rs) && ltb word 7)

look_listed : (seat : Seat) (l : Look) → stands (look_row l ∷ []) (number (look_number seat l)) ≡ true
unfolding read_of read_checks numbers_checks echo_checks build_checks search_answer
look_listed seat (group_word i word) = place_row (ltb i 16 && ltb word 4)
look_listed seat (path_word i word) = place_row (ltb i 16 && ltb word 4)
look_listed seat (pair_word i word) = place_row (ltb i 64 && ltb word 5)
look_listed seat last_second = refl
look_listed seat (search rs a) = search_row (too_long rs) (search_of a (relay_with seat rs).routes)
look_listed seat (counter i) = place_row (ltb i 18)
look_listed seat (waiting p) = place_row (ltb p 8)
look_listed seat (read octets) =
    let n = first_of (read_checks octets) in
    read_row (eqb n 0) n (header_of octets) (number_row (0 ∷ 1 ∷ 2 ∷ 4 ∷ 3 ∷ 5 ∷ []) (read_checks octets) refl refl)
look_listed seat (build fields size output) = number_row (0 ∷ 17 ∷ 19 ∷ 20 ∷ []) (numbers_checks fields size (length output)) refl refl
look_listed seat (read_echo octets) = number_row (0 ∷ 1 ∷ 4 ∷ 5 ∷ []) (echo_checks octets) refl refl
look_listed seat (build_request identifier sequence echoed output) =
    number_row (0 ∷ 17 ∷ 20 ∷ []) (build_checks (message_from Request identifier sequence) (length echoed) (length output)) refl refl
look_listed seat (build_reply identifier sequence seen echoed output) =
    number_row (0 ∷ 17 ∷ 20 ∷ []) (build_checks (message_from (Reply seen) identifier sequence) (length echoed) (length output)) refl refl
look_listed seat (class a) = class_row (class_of a.0)
look_listed seat (form p) = form_row (path_form p.0)
look_listed seat (checksum octets) = checksum_row octets
look_listed seat board_size = refl
look_listed seat mission_size = refl

own_listed : (seat : Seat) (c : MissionCall) → stands (own_rows c) (own_outcome seat c).answer ≡ true
own_listed seat (sets s) = setting_listed (relay_in seat) s
own_listed seat (hears rs port slot second octets output) = every_ending_is_listed seat rs port second octets (length output)
own_listed seat (echoes rs port slot octets output) = every_reply_is_listed seat rs port octets (length output)
own_listed seat (takes port) = taking_listed seat port
own_listed seat (sweeps second) = number_row (0 ∷ 29 ∷ []) (sweep_checks seat.memory second) refl refl
own_listed seat (looks l) = look_listed seat l

-- Whatever is called, and on whatever seat, the answer stands in the table's rows for that call.
pub every_answer_is_listed : (seat : Seat) (c : Call) → stands (answers_of c) (outcome seat c).answer ≡ true
every_answer_is_listed seat (operator (orders o)) = order_listed seat.board o
every_answer_is_listed seat (operator (views v)) = view_listed v
every_answer_is_listed seat (own c) = own_listed seat c
