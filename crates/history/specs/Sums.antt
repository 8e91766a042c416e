-- The eighteen counters in the customer's words, one rule for all: page 01's table of refusal numbers read by counter, step 1 ("These two count nothing.
-- All later ends count one in npInReceives"), page 02, W-207 (29 "counts nothing"; "28 and 30 each get a counter"), and what stands below the table
-- ("npOutDiscards counts dropped copies .. npInDelivers counts deliveries, npForwDatagrams datagrams with at least one entry taken"); of replies page 02,
-- W-203. No counter and no list of moves is looked at here. Assumes nothing.
use Rattle.std.specs.Prelude.{ℕ, zero, suc, ◌+◌, not, List, [], ◌∷◌, eqb, get_or}
use Rattle.sets.specs.Sets.{in_set}
use Rattle.sets.specs.Limits.{port_count}
use Rattle.history.specs.Answers.{listed}
use Rattle.history.specs.Outcome.{Answer, number, ended, replied, entry, Outcome}
use Rattle.history.specs.Ledger.{one}

-- how many of the first n ports are in a set
abbrev pub ports_in : ℕ → ℕ → ℕ
ports_in zero set = 0
ports_in (suc p) set = ports_in p set + one (in_set p set)

-- what an answer gives each counter, where so many copies were dropped; only a received datagram gives any, and a reply
abbrev pub counted : Answer → ℕ → List ℕ
counted (number n) copies = []
counted (ended refusal local onward took) copies =
    -- npInReceives: every end but 16 and 17, 21 before both, a list over 512 records (page 02, W-208), and 29 after them, a second of the past (W-207)
    one (not (listed (21 ∷ 16 ∷ 17 ∷ 29 ∷ []) refusal))
    -- npInBadLength: 1, short; 3, length
    ∷ one (listed (1 ∷ 3 ∷ []) refusal)
    -- npInBadVersion: 2, version
    ∷ one (eqb refusal 2)
    -- npInBadAddress: 4, form; 6, address; 7, no domain to supply
    ∷ one (listed (4 ∷ 6 ∷ 7 ∷ []) refusal)
    -- npInBadChecksum: 5, checksum
    ∷ one (eqb refusal 5)
    -- unsupported: 8, service not carried
    ∷ one (eqb refusal 8)
    -- npInAddrErrors: 9, not for us
    ∷ one (eqb onward 9)
    -- npInUnknownProtos: 26, TP-ID unknown
    ∷ one (eqb local 26)
    -- npInDelivers: deliveries
    ∷ one (eqb local 1)
    -- npForwHopDiscard: 10, hops used up
    ∷ one (eqb onward 10)
    -- npForwDatagrams: datagrams with at least one entry taken
    ∷ one (not (eqb took 0))
    -- npOutNoRoutes: 11, no route; 12, not up
    ∷ one (listed (11 ∷ 12 ∷ []) onward)
    -- npOutDiscards: dropped copies, also when another port took its copy
    ∷ copies
    -- left domain: 13, would leave its domain
    ∷ one (eqb onward 13)
    -- too big: 14, too big for every port
    ∷ one (eqb onward 14)
    -- 28, a flood without source or timestamp
    ∷ one (eqb refusal 28)
    -- 30, all pairs held
    ∷ one (eqb onward 30)
    -- npOutRequests: no datagram that was received
    ∷ 0
    ∷ []
-- "Demand 3 counts replies, refused too .., in npOutRequests, never npForwDatagrams, 11 to 15 as page 01", "counting nothing for the request"
counted (replied refusal onward took) copies =
    -- the eleven of what is received, delivered and sent on
    0 ∷ 0 ∷ 0 ∷ 0 ∷ 0 ∷ 0 ∷ 0 ∷ 0 ∷ 0 ∷ 0 ∷ 0
    -- npOutNoRoutes: 11, no route
    ∷ one (eqb onward 11)
    -- npOutDiscards: dropped copies
    ∷ copies
    -- left domain
    ∷ 0
    -- too big: 14
    ∷ one (eqb onward 14)
    -- 28 and 30, of floods
    ∷ 0 ∷ 0
    -- npOutRequests: each reply that is made
    ∷ one (not (eqb onward 0))
    ∷ []
counted (entry e) copies = []

-- what an outcome gives each counter; a copy is dropped for each of the eight ports that drops
abbrev pub counts : Outcome → List ℕ
counts o = counted o.answer (ports_in port_count o.dropped)

-- and what it gives counter i
abbrev pub given_by : ℕ → Outcome → ℕ
given_by i o = get_or (counts o) i 0
