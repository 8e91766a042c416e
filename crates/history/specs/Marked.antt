-- Page 01, "Marked cases (prove these together)": a to l as one table, each row a history of mission m, the call that is asked then, and its
-- answer. The routes are in the list that is lent with the datagram (page 02, W-208). `marked_cases_lem`,
-- in proofs/Marked.antt, is the one statement over it. Assumes nothing.
use Rattle.std.specs.Prelude.{ℕ, ◌+◌, ◌*◌, ◌^◌, List, [], ◌∷◌, ◌++◌, map, replicate}
use Rattle.address.specs.Class.{class_number}
use Rattle.address.specs.Mask.{mask_of}
use Rattle.address.specs.Octets.{dotted}
use Rattle.address.specs.declared.Class.{Class}
use Rattle.address.specs.declared.Class.TheVariants.{Invalid, Unicast, Multicast, NetBroadcast, DomainBroadcast}
use Rattle.header.specs.Form.{bit_weight}
use Rattle.judge.specs.Ending.{output_room}
use Rattle.routes.specs.declared.Record.{Record}
use Rattle.adjust.specs.Settled.{new_record}
use Rattle.history.specs.Calls.{Order, set_router, set_port, orders, class, hears, takes, looks, Call, operator, own}
use Rattle.history.specs.Outcome.{Answer, number, ended, entry}

-- a history of orders
abbrev pub ordered : List Order → List Call
ordered = map (λ (o : Order). operator (orders o))

-- ---- the settings, of mission m: a router, and ports of its own that no destination of the table is an address or a broadcast of
module _ (m : ℕ) where
  -- port p is 172.16.p.1
  abbrev pub port : ℕ → Order
  port p = set_port p (record { 0 = dotted 172 16 p 1 }) (record { 0 = mask_of 24 }) 1500 m

  abbrev pub router_with_ports : List Order
  router_with_ports = set_router 1 ∷ port 0 ∷ port 1 ∷ port 2 ∷ port 3 ∷ port 4 ∷ []

  -- a route to port p that is up: its prefix, the ones of its mask
  abbrev pub route : ℕ → ℕ → ℕ → Record
  route p prefix ones = new_record prefix (mask_of ones) p 1 0 m

  -- "Routes to ports 0, 1, 2, 3 in turn, all up: A 0.0.0.0 mask 0 ones; B 10.0.0.0, 8; C 10.4.9.0, 24; D 10.4.9.14, 32"
  abbrev pub A : Record
  A = route 0 (dotted 0 0 0 0) 0

  abbrev pub B : Record
  B = route 1 (dotted 10 0 0 0) 8

  abbrev pub C : Record
  C = route 2 (dotted 10 4 9 0) 24

  abbrev pub D : Record
  D = route 3 (dotted 10 4 9 14) 32

  -- the lists that are lent with a datagram
  abbrev pub all_routes : List Record
  all_routes = A ∷ B ∷ C ∷ D ∷ []

  abbrev pub without_a : List Record
  without_a = B ∷ C ∷ D ∷ []

-- ---- a datagram to a.b.c.d from 172.16.4.2, of thirteen octets that are all header (003, 3.2.2.1 and table 3-4)
abbrev pub datagram : ℕ → ℕ → ℕ → ℕ → ℕ → List ℕ
datagram a b c d precedence =
    -- version 001 and the length
    32 ∷ 13
    -- TP-ID 4; a second control octet follows, and there is a destination
    ∷ (4 * 16 + bit_weight 20 + bit_weight 22)
    -- there are a source and basic QOS, and addresses have four octets
    ∷ (bit_weight 25 + bit_weight 30 + bit_weight 31)
    ∷ a ∷ b ∷ c ∷ d
    ∷ 172 ∷ 16 ∷ 4 ∷ 2
    ∷ (precedence * 16)
    ∷ []

-- it comes in by port 4, in second 0 (page 02, W-207)
abbrev pub heard : List Record → ℕ → List ℕ → Call
heard rs slot octets = own (hears rs 4 (record { 0 = slot }) 0 octets (replicate output_room 0))

-- ---- the answers
-- not delivered, and sent on by port p alone
abbrev pub sent_by : ℕ → Answer
sent_by p = ended 0 0 1 (2 ^ p)

-- not delivered, and not sent on by reason of this number
abbrev pub not_sent : ℕ → Answer
not_sent n = ended 0 0 n 0

abbrev pub handed_out : ℕ → ℕ → Answer
handed_out slot precedence = entry (record { slot = record { 0 = slot }; precedence = precedence })

-- ---- the table
pub record Marked : Type 0 where
  pub calls : List Call
  pub asked : Call
  pub answer : Answer

abbrev pub is_of_class : ℕ → ℕ → ℕ → ℕ → Class → Marked
is_of_class a b c d x = record { calls = []; asked = own (looks (class (record { 0 = dotted a b c d }))); answer = number (class_number x) }

module _ (m : ℕ) where
  -- what becomes of a datagram to a.b.c.d with these routes
  abbrev pub goes : List Record → ℕ → ℕ → ℕ → ℕ → Answer → Marked
  goes rs a b c d answer = record { calls = ordered (router_with_ports m); asked = heard rs 1 (datagram a b c d 0); answer = answer }

  -- the entries of case l, put on D's port
  abbrev pub put : ℕ → ℕ → Call
  put slot precedence = heard (all_routes m) slot (datagram 10 4 9 14 precedence)

  abbrev pub four_put : List Call
  four_put = ordered (router_with_ports m) ++ put 1 3 ∷ put 2 5 ∷ put 3 3 ∷ put 4 5 ∷ []

  -- what is handed out there next, after so many takes
  abbrev pub comes_out : ℕ → ℕ → ℕ → Marked
  comes_out before slot precedence =
      record { calls = four_put ++ replicate before (own (takes 3)); asked = own (takes 3); answer = handed_out slot precedence }

  abbrev pub marked_cases : List Marked
  marked_cases =
      -- a. "10.4.9.14 takes D."
      goes (all_routes m) 10 4 9 14 (sent_by 3)
      -- b. "10.4.9.16 takes C."
      ∷ goes (all_routes m) 10 4 9 16 (sent_by 2)
      -- c. "10.4.8.14 takes B."
      ∷ goes (all_routes m) 10 4 8 14 (sent_by 1)
      -- d. "192.0.2.1 takes A."
      ∷ goes (all_routes m) 192 0 2 1 (sent_by 0)
      -- e. "The same without A: 11."
      ∷ goes (without_a m) 192 0 2 1 (not_sent 11)
      -- f. "10.4.9.15 multicast."
      ∷ is_of_class 10 4 9 15 Multicast
      -- g. "10.4.9.254 invalid."
      ∷ is_of_class 10 4 9 254 Invalid
      -- h. "10.4.9.255 domain broadcast."
      ∷ is_of_class 10 4 9 255 DomainBroadcast
      -- i. "172.16.0.255 unicast."
      ∷ is_of_class 172 16 0 255 Unicast
      -- j. "172.16.255.255 net broadcast."
      ∷ is_of_class 172 16 255 255 NetBroadcast
      -- k. "240.0.0.1 invalid."
      ∷ is_of_class 240 0 0 1 Invalid
      -- l. "Entries (slot, precedence) put as (1,3) (2,5) (3,3) (4,5) come out 2, 4, 1, 3."
      ∷ comes_out 0 2 5
      ∷ comes_out 1 4 5
      ∷ comes_out 2 1 3
      ∷ comes_out 3 3 3
      ∷ []
