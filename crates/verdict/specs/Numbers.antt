-- Page 01's number of each half ("the local half (no, delivered, 26) and the onward half (not asked, a number, or the ports that took an entry)";
-- "Refusal numbers"; page 02, W-207: 30). No obstacle has 12, a route that is not up: page 02, W-204, gives it no more. Assumes nothing.
use Rattle.std.specs.Prelude.{ℕ}
use Rattle.verdict.specs.declared.Local.{Local}
use Rattle.verdict.specs.declared.Local.TheVariants.{No, Delivered, Unknown}
use Rattle.verdict.specs.declared.Obstacle.{Obstacle}
use Rattle.verdict.specs.declared.Obstacle.TheVariants.{NotForUs, HopsUsedUp, NoRoute, LeavesDomain, TooBig, QueuesFull, PairsHeld}
use Rattle.verdict.specs.declared.Onward.{Onward}
use Rattle.verdict.specs.declared.Onward.TheVariants.{NotAsked, SentOn, Refused}

abbrev pub local_number : Local → ℕ
local_number No = 0
local_number Delivered = 1
local_number Unknown = 26

abbrev pub obstacle_number : Obstacle → ℕ
obstacle_number NotForUs = 9
obstacle_number HopsUsedUp = 10
obstacle_number NoRoute = 11
obstacle_number LeavesDomain = 13
obstacle_number TooBig = 14
obstacle_number QueuesFull = 15
obstacle_number PairsHeld = 30

abbrev pub onward_number : Onward → ℕ
onward_number NotAsked = 0
onward_number SentOn = 1
onward_number (Refused o) = obstacle_number o
