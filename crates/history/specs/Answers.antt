-- The table of all that each call may answer: page 01, "Settings", "One received datagram, step by step" and "Refusal numbers";
-- page 02, W-208 (21 of a list over 512 records before all else), W-207 (28, 29 and 30) and W-203. Assumes nothing.
use Rattle.std.specs.Prelude.{ℕ, Bool, true, false, not, ◌&&◌, ◌||◌, List, [], ◌∷◌, eqb, ltb}
use Rattle.history.specs.Calls.{
  Order,
  set_router,
  set_port,
  set_lifetime,
  set_drop,
  set_route,
  clear_route,
  View,
  router_flag,
  lifetime_word,
  drop_flag,
  port_word,
  record_word,
  OperatorCall,
  orders,
  views,
  Setting,
  set_group,
  set_path,
  clear_group,
  clear_path,
  Look,
  group_word,
  path_word,
  pair_word,
  last_second,
  search,
  counter,
  waiting,
  read,
  build,
  read_echo,
  build_request,
  build_reply,
  class,
  form,
  checksum,
  board_size,
  mission_size,
  MissionCall,
  sets,
  hears,
  echoes,
  takes,
  sweeps,
  looks,
  Call,
  operator,
  own,
}
use Rattle.history.specs.Outcome.{Answer, number, ended, replied, entry}

pub data Row : Type 0 where
  -- a number of this list
  numbers : List ℕ → Row
  -- any number below this one
  below : ℕ → Row
  -- a refusal, a local half and an onward half of these lists; and whether a port took an entry
  endings : List ℕ → List ℕ → List ℕ → Bool → Row
  -- a refusal and an onward half of these lists; and whether a port took an entry
  replies : List ℕ → List ℕ → Bool → Row
  -- any entry
  entries : Row

-- the numbers of a setting, in the order in which they are tested
abbrev pub order_numbers : Order → List ℕ
order_numbers (set_router x) = 0 ∷ 24 ∷ []
order_numbers (set_port p address mask mtu mission) = 0 ∷ 21 ∷ 25 ∷ 22 ∷ 24 ∷ 35 ∷ []
order_numbers (set_lifetime x) = 0 ∷ []
order_numbers (set_drop x) = 0 ∷ 24 ∷ []
order_numbers (set_route rs i prefix mask port availability capabilities mission) = 0 ∷ 21 ∷ 22 ∷ 24 ∷ 23 ∷ []
order_numbers (clear_route rs i) = 0 ∷ 21 ∷ []

abbrev pub setting_numbers : Setting → List ℕ
setting_numbers (set_group i address send subscribed) = 0 ∷ 21 ∷ 25 ∷ 23 ∷ []
setting_numbers (set_path i path send here) = 0 ∷ 21 ∷ 25 ∷ 24 ∷ 23 ∷ []
setting_numbers (clear_group i) = 0 ∷ 21 ∷ []
setting_numbers (clear_path i) = 0 ∷ 21 ∷ []

abbrev pub view_numbers : View → List ℕ
view_numbers router_flag = 0 ∷ []
view_numbers lifetime_word = 0 ∷ []
view_numbers drop_flag = 0 ∷ []
view_numbers (port_word p word) = 0 ∷ 21 ∷ []
view_numbers (record_word rs i word) = 0 ∷ 21 ∷ []

abbrev pub look_row : Look → Row
look_row (group_word i word) = numbers (0 ∷ 21 ∷ [])
look_row (path_word i word) = numbers (0 ∷ 21 ∷ [])
look_row (pair_word i word) = numbers (0 ∷ 21 ∷ [])
look_row last_second = numbers (0 ∷ [])
look_row (search rs a) = numbers (21 ∷ 0 ∷ 256 ∷ [])
look_row (counter i) = numbers (0 ∷ 21 ∷ [])
look_row (waiting p) = numbers (0 ∷ 21 ∷ [])
look_row (read octets) = numbers (0 ∷ 1 ∷ 2 ∷ 4 ∷ 3 ∷ 5 ∷ [])
look_row (build fields size output) = numbers (0 ∷ 17 ∷ 19 ∷ 20 ∷ [])
look_row (read_echo octets) = numbers (0 ∷ 1 ∷ 4 ∷ 5 ∷ [])
look_row (build_request identifier sequence echoed output) = numbers (0 ∷ 17 ∷ 20 ∷ [])
look_row (build_reply identifier sequence seen echoed output) = numbers (0 ∷ 17 ∷ 20 ∷ [])
look_row (class a) = numbers (0 ∷ 1 ∷ 2 ∷ 3 ∷ 4 ∷ 5 ∷ 6 ∷ [])
look_row (form p) = numbers (0 ∷ 1 ∷ [])
look_row (checksum octets) = below 65536
look_row board_size = numbers (43 ∷ [])
look_row mission_size = numbers (732 ∷ [])

abbrev pub ending_rows : List Row
ending_rows =
    -- refused: nothing is said of the halves, and no port took an entry
    endings (21 ∷ 16 ∷ 17 ∷ 29 ∷ 1 ∷ 2 ∷ 4 ∷ 3 ∷ 5 ∷ 8 ∷ 7 ∷ 6 ∷ 28 ∷ []) (0 ∷ []) (0 ∷ []) false
    -- not delivered: refused onward, or sent on
    ∷ endings (0 ∷ []) (0 ∷ []) (9 ∷ 30 ∷ 11 ∷ 10 ∷ 13 ∷ 14 ∷ 15 ∷ []) false
    ∷ endings (0 ∷ []) (0 ∷ []) (1 ∷ []) true
    -- not delivered and not asked: a flooded datagram whose pair is held, and nothing else (law `unsaid_is_held`)
    ∷ endings (0 ∷ []) (0 ∷ []) (0 ∷ []) false
    -- delivered or 26: not asked or refused onward, or sent on
    ∷ endings (0 ∷ []) (1 ∷ 26 ∷ []) (0 ∷ 30 ∷ 11 ∷ 10 ∷ 13 ∷ 14 ∷ 15 ∷ []) false
    ∷ endings (0 ∷ []) (1 ∷ 26 ∷ []) (1 ∷ []) true
    ∷ []

abbrev pub echo_rows : List Row
echo_rows =
    -- refused: no reply is made
    replies (21 ∷ 16 ∷ 17 ∷ []) (0 ∷ []) false
    -- none is made, or it does not go; or a port took it
    ∷ replies (0 ∷ []) (0 ∷ 11 ∷ 14 ∷ 15 ∷ []) false
    ∷ replies (0 ∷ []) (1 ∷ []) true
    ∷ []

abbrev pub operator_row : OperatorCall → Row
operator_row (orders o) = numbers (order_numbers o)
operator_row (views v) = numbers (view_numbers v)

abbrev pub own_rows : MissionCall → List Row
own_rows (sets s) = numbers (setting_numbers s) ∷ []
own_rows (hears rs port slot second octets output) = ending_rows
own_rows (echoes rs port slot octets output) = echo_rows
own_rows (takes port) = numbers (16 ∷ 18 ∷ []) ∷ entries ∷ []
own_rows (sweeps second) = numbers (0 ∷ 29 ∷ []) ∷ []
own_rows (looks l) = look_row l ∷ []

abbrev pub answers_of : Call → List Row
answers_of (operator c) = operator_row c ∷ []
answers_of (own c) = own_rows c

-- ---- an answer stands in the table
abbrev pub listed : List ℕ → ℕ → Bool
listed [] n = false
listed (x ∷ xs) n = eqb n x || listed xs n

-- some port, or none
abbrev pub some : Bool → ℕ → Bool
some true took = not (eqb took 0)
some false took = eqb took 0

abbrev pub suits : Row → Answer → Bool
suits (numbers ns) (number n) = listed ns n
suits (numbers ns) (ended refusal local onward took) = false
suits (numbers ns) (replied refusal onward took) = false
suits (numbers ns) (entry e) = false
suits (below k) (number n) = ltb n k
suits (below k) (ended refusal local onward took) = false
suits (below k) (replied refusal onward took) = false
suits (below k) (entry e) = false
suits (endings refusals locals onwards sent) (number n) = false
suits (endings refusals locals onwards sent) (ended refusal local onward took) =
    listed refusals refusal && (listed locals local && (listed onwards onward && some sent took))
suits (endings refusals locals onwards sent) (replied refusal onward took) = false
suits (endings refusals locals onwards sent) (entry e) = false
suits (replies refusals onwards sent) (number n) = false
suits (replies refusals onwards sent) (ended refusal local onward took) = false
suits (replies refusals onwards sent) (replied refusal onward took) = listed refusals refusal && (listed onwards onward && some sent took)
suits (replies refusals onwards sent) (entry e) = false
suits entries (number n) = false
suits entries (ended refusal local onward took) = false
suits entries (replied refusal onward took) = false
suits entries (entry e) = true

abbrev pub stands : List Row → Answer → Bool
stands [] a = false
stands (row ∷ rows) a = suits row a || stands rows a
