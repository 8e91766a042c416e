-- A port's queue: page 01, "Numbers that hold everywhere" (32 entries per port queue), and the end of "One received datagram, step by
-- step" (each with fewer than 32 waiting takes one entry, the others drop theirs; "Taking from a port"; where a newcomer goes).
-- Assumes nothing.
use Rattle.std.specs.Prelude.{Option, Some, None, ℕ, ◌+◌, ◌-◌, ◌≤◌, true, false, ◌≡◌, List, [], ◌∷◌, ◌++◌, length, take, drop, replicate, ltb}
use Rattle.checks.specs.Order.{pick}
use Rattle.queue.specs.Order.{insert_by, Sorted}
use Rattle.queue.specs.declared.Entry.{Entry}
use Rattle.queue.specs.declared.Queue.{Queue}
use Rattle.queue.specs.declared.Put.{Put}
use Rattle.queue.specs.declared.Taken.{Taken}

-- how many entries a queue holds
abbrev pub entry_places : ℕ
entry_places = 32

-- what a free place holds
abbrev pub free : Entry
free = record { slot = record { 0 = 0 }; precedence = 0 }

-- page 01, "Settings": queues are empty at first
unfoldable pub fresh : Queue
fresh = record { entries = replicate entry_places free; count = 0 }

-- the entries that wait, the next one first; and what the places behind them hold
abbrev pub waiting : Queue → List Entry
waiting q = take q.count q.entries

abbrev pub behind : Queue → List Entry
behind q = drop q.count q.entries

abbrev pub precedence_of : Entry → ℕ
precedence_of e = e.precedence

-- page 01: "just ahead of the first entry with lower precedence, else last"
abbrev pub insert : Entry → List Entry → List Entry
insert = insert_by precedence_of

-- a queue with fewer than 32 waiting takes the newcomer; any other drops it and stays as it is, also where the count is over 32
unfoldable pub put_of : Queue → Entry → Put
put_of q e =
    pick (ltb q.count entry_places)
    (record { queue = record { entries = insert e (waiting q) ++ drop (q.count + 1) q.entries; count = q.count + 1 }; took = true })
    (record { queue = q; took = false })

-- all places but the first, and a free one behind them
abbrev pub moved_up : List Entry → List Entry
moved_up entries = drop 1 entries ++ (free ∷ [])

-- what a take answers, by the entries that wait: none, or the first, removed
abbrev pub taken_from : Queue → List Entry → Taken
taken_from q [] = record { queue = q; head = None }
taken_from q (first ∷ rest) = record { queue = record { entries = moved_up q.entries; count = q.count - 1 }; head = Some first }

-- where the count is over 32, as no call leaves it, nothing is handed out and the queue stays as it is
unfoldable pub take_of : Queue → Taken
take_of q = pick (ltb entry_places q.count) (record { queue = q; head = None }) (taken_from q (waiting q))

-- ---- the queues that calls leave

-- what is handed out where these entries wait
abbrev pub head_of : List Entry → Option Entry
head_of [] = None
head_of (first ∷ rest) = Some first

-- a queue whose count can be that of its waiting entries
pub record Bounded (q : Queue) : Type 0 where
  pub places : length q.entries ≡ entry_places
  pub fits : q.count ≤ entry_places

-- a queue as puts and takes leave it that began with a fresh one
pub record Sound (q : Queue) : Type 0 where
  pub bounded : Bounded q
  pub sorted : Sorted precedence_of (waiting q)
  pub clean : behind q ≡ replicate (entry_places - q.count) free
