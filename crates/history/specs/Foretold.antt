-- How long a copy waits, over histories: page 02, W-213 ("if, after an entry is placed on a port, r entries stand before it, and h entries of
-- higher precedence enter that port while it waits, then it is handed out at exactly the take numbered r + h + 1 after its placing, provided that
-- many takes are made. Refused calls and other ports' traffic count nothing"). Takes are those of the port that hand out, higher is strictly
-- higher, and a dropped copy does not enter. All are folds over what the calls do, and both numbers are those of the port's line. Assumes nothing.
use Rattle.std.specs.Prelude.{ℕ, suc, Bool, false, ◌≡◌, List, [], ◌∷◌, ◌++◌, length, eqb, ltb}
use Rattle.checks.specs.Order.{pick}
use Rattle.queue.specs.Waits.{chosen, rank_by}
use Rattle.queue.specs.Foretold.{how_many, standing_before}
use Rattle.queue.specs.declared.Entry.{Entry}
use Rattle.history.specs.Seat.{Seat}
use Rattle.history.specs.Calls.{MissionCall, sets, hears, echoes, takes, sweeps, looks, Call, operator, own}
use Rattle.history.specs.Outcome.{Answer, number, ended, replied, entry, outcome, next, seat_after, sum_from}
use Rattle.history.specs.Ledger.{handed_out}
use Rattle.history.specs.Line.{Copy, entry_of, taken_by, handed_by, line_by, taken_from, handed_from, line_at}

-- a history and one call more
abbrev pub and_then : List Call → Call → List Call
and_then cs c = cs ++ (c ∷ [])

module _ (p : ℕ) where
  -- the entries that the takes of the port answer, in turn, as C sees them
  abbrev pub answered_own : MissionCall → Answer → List Entry
  answered_own (sets s) a = []
  answered_own (hears rs port slot second octets output) a = []
  answered_own (echoes rs port slot octets output) a = []
  answered_own (takes q) (number n) = []
  answered_own (takes q) (ended refusal local onward took) = []
  answered_own (takes q) (replied refusal onward took) = []
  answered_own (takes q) (entry e) = pick (eqb q p) (e ∷ []) []
  answered_own (sweeps second) a = []
  answered_own (looks l) a = []

  abbrev pub answered_by : Call → Answer → List Entry
  answered_by (operator c) a = []
  answered_by (own c) a = answered_own c a

  abbrev pub answered_from : Seat → List Call → List Entry
  answered_from x [] = []
  answered_from x (c ∷ cs) = answered_by c (outcome x c).answer ++ answered_from (next x c) cs

  module _ (x : Copy) where
    abbrev pub is_handed : List Copy → Bool
    is_handed [] = false
    is_handed (y ∷ l) = eqb y.turn x.turn

    -- the calls while x waits: those before the call that hands it out, all where none does
    abbrev pub waits_from : ℕ → Seat → List Copy → List Call → List Call
    waits_from n at line [] = []
    waits_from n at line (c ∷ cs) =
        pick (is_handed (handed_by p (outcome at c).out (chosen (rank_by entry_of) line))) [] (c ∷ waits_from (suc n) (next at c) (line_by p n at c line) cs)

  -- ---- what calls ds do after a history cs of mission m
  module _ (m : ℕ) where
    -- the copies that the port takes, and those that it hands out, in turn
    abbrev pub taken_since : List Call → List Call → List Copy
    taken_since cs ds = taken_from p (length cs) (seat_after m cs) ds

    abbrev pub handed_since : List Call → List Call → List Copy
    handed_since cs ds = handed_from p (length cs) (seat_after m cs) (line_at p m cs) ds

    -- how many of them are takes of the port that hand out
    abbrev pub takes_since : List Call → List Call → ℕ
    takes_since cs ds = sum_from (handed_out p) (seat_after m cs) ds

    -- the entries that the takes of the port answer
    abbrev pub answered_since : List Call → List Call → List Entry
    answered_since cs ds = answered_from (seat_after m cs) ds

    -- the call that follows cs places no copy on the port and is no take of it that hands out: the operator's call, a setting, a sweep or a look, a refused call, a
    -- datagram or a reply of which this port took no entry, a take of another port
    abbrev pub Idle : List Call → Call → Type 0
    Idle cs c = (taken_by p (length cs) (seat_after m cs) c ≡ []) × (handed_out p (outcome (seat_after m cs) c) ≡ 0)

    -- ---- one copy
    module _ (x : Copy) where
      -- r: of those that wait after cs, how many go out before x if it enters now
      abbrev pub before : List Call → ℕ
      before cs = standing_before (rank_by entry_of) x (line_at p m cs)

      abbrev pub while_waits : List Call → List Call → List Call
      while_waits cs ds = waits_from x (length cs) (seat_after m cs) (line_at p m cs) ds

      -- h: of those that enter while x waits, how many are of higher precedence
      abbrev pub higher_enter : List Call → List Call → ℕ
      higher_enter cs ds = how_many (λ (y : Copy). ltb (rank_by entry_of x) (rank_by entry_of y)) (taken_since cs (while_waits cs ds))

    -- "Refused calls and other ports' traffic count nothing": what is counted of c and the calls ds after it is what is counted of ds alone
    pub record CountsNothing (x : Copy) (cs : List Call) (c : Call) (ds : List Call) : Type 0 where
      pub line : line_at p m (and_then cs c) ≡ line_at p m cs
      pub handed : handed_since cs (c ∷ ds) ≡ handed_since (and_then cs c) ds
      pub takes : takes_since cs (c ∷ ds) ≡ takes_since (and_then cs c) ds
      pub higher : higher_enter x cs (c ∷ ds) ≡ higher_enter x (and_then cs c) ds
