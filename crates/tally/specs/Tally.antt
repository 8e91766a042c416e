-- The counters that an ending moves: page 01, "Refusal numbers" and what stands below its table. The counters' order is that of a mission's state
-- (specs/Relay.antt of the crate state). Assumes nothing.
use Rattle.std.specs.Prelude.{ℕ, ◌<◌, List, [], ◌∷◌, eqb, Option, Some, None}
use Rattle.checks.specs.Order.{pick}
use Rattle.address.specs.Mask.{ones_of}
use Rattle.state.specs.Relay.{added}
use Rattle.verdict.specs.Numbers.{local_number, obstacle_number}
use Rattle.verdict.specs.declared.Local.{Local}
use Rattle.verdict.specs.declared.Local.TheVariants.{No, Delivered, Unknown}
use Rattle.verdict.specs.declared.Onward.{Onward}
use Rattle.verdict.specs.declared.Onward.TheVariants.{NotAsked, SentOn, Refused}
use Rattle.verdict.specs.declared.Ruling.{Ruling}
use Rattle.sets.specs.Limits.{counter_count}
use Rattle.judge.specs.Remembered.{is_unheard}
use Rattle.judge.specs.declared.Ending.{Ending}

-- a refusal's number and the place of its counter
abbrev pub CounterRow : Type 0
CounterRow = ℕ × ℕ

-- page 01's table
abbrev pub numbered : List CounterRow
numbered =
    (1, 1)
    ∷ (2, 2)
    ∷ (3, 1)
    ∷ (4, 3)
    ∷ (5, 4)
    ∷ (6, 3)
    ∷ (7, 3)
    ∷ (8, 5)
    ∷ (9, 6)
    ∷ (10, 9)
    ∷ (11, 11)
    ∷ (12, 11)
    ∷ (13, 13)
    ∷ (14, 14)
    ∷ (26, 7)
    -- page 02, W-207: "28 and 30 each get a counter"
    ∷ (28, 15)
    ∷ (30, 16)
    ∷ []

-- the counter of a number, where the table has one
abbrev pub in_table : List CounterRow → ℕ → Option ℕ
in_table [] n = None
in_table (row ∷ rows) n = pick (eqb n row.0) (Some row.1) (in_table rows n)

unfoldable pub counter_for : ℕ → Option ℕ
counter_for n = in_table numbered n

-- "These two count nothing. All later ends count one in npInReceives."; 21, a list over 512 records, comes before both (page 02, W-208), and 29 "counts
-- nothing" (W-207)
abbrev pub receipt_counter : ℕ → Option ℕ
receipt_counter refusal = pick (is_unheard refusal) None (Some 0)

-- "npInDelivers counts deliveries"
abbrev pub local_counter : Local → Option ℕ
local_counter No = None
local_counter Delivered = Some 8
local_counter Unknown = counter_for (local_number Unknown)

-- "npForwDatagrams datagrams with at least one entry taken"
abbrev pub onward_counter : Onward → Option ℕ
onward_counter NotAsked = None
onward_counter SentOn = Some 10
onward_counter (Refused o) = counter_for (obstacle_number o)

-- "npOutDiscards counts dropped copies, also when another port took its copy"
abbrev pub discard_counter : ℕ → Option ℕ
discard_counter dropped = pick (eqb dropped 0) None (Some 12)

-- a counter, and how much more it counts
abbrev pub Move : Type 0
Move = Option ℕ × ℕ

-- what a ruling counts, and all that an ending counts
abbrev pub ruling_moves : Ruling → List Move
ruling_moves x =
    (local_counter x.local, 1)
    ∷ (onward_counter x.onward, 1)
    ∷ (discard_counter x.dropped, ones_of x.dropped)
    ∷ []

abbrev pub moves_of : Ending → List Move
moves_of e = (receipt_counter e.refusal, 1) ∷ (counter_for e.refusal, 1) ∷ ruling_moves e.ruling

-- ---- a reply (page 02, W-203): "Demand 3 counts replies, refused too .., in npOutRequests, never npForwDatagrams, 11 to 15 as page 01"
-- one that is made
abbrev pub made_counter : Onward → Option ℕ
made_counter NotAsked = None
made_counter SentOn = Some 17
made_counter (Refused o) = Some 17

-- one that does not go
abbrev pub unsent_counter : Onward → Option ℕ
unsent_counter NotAsked = None
unsent_counter SentOn = None
unsent_counter (Refused o) = counter_for (obstacle_number o)

abbrev pub reply_moves : Ruling → List Move
reply_moves x = (made_counter x.onward, 1) ∷ (unsent_counter x.onward, 1) ∷ (discard_counter x.dropped, ones_of x.dropped) ∷ []

-- one of the eighteen, or none
abbrev pub Inside : Option ℕ → Type 0
Inside (Some place) = place < counter_count
Inside None = Unit

-- n more at a counter, where there is one
unfoldable pub counted_at : List ℕ → Option ℕ → ℕ → List ℕ
counted_at l (Some place) n = added l place n
counted_at l None n = l

abbrev pub counted_all : List ℕ → List Move → List ℕ
counted_all l [] = l
counted_all l (move ∷ moves) = counted_all (counted_at l move.0 move.1) moves
