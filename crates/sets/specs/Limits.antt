-- How many there are of each thing that a relay has: page 01, "Numbers that hold everywhere"; page 02, W-208 ("the 64
-- route places of page 01 become 512"; two missions); W-207 ("64 pairs"; "28 and 30 each get a counter"); W-203 (npOutRequests). Ports, places, counters and missions are
-- numbered from 0.
-- How many entries a queue holds stands with the queue. Assumes nothing.
use Rattle.std.specs.Prelude.{ℕ}

abbrev pub port_count : ℕ
port_count = 8

abbrev pub route_places : ℕ
route_places = 512

abbrev pub group_places : ℕ
group_places = 16

abbrev pub path_places : ℕ
path_places = 16

abbrev pub pair_places : ℕ
pair_places = 64

abbrev pub counter_count : ℕ
counter_count = 18

abbrev pub mission_count : ℕ
mission_count = 2
