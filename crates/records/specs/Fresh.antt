-- Records as a fresh relay has them (page 01, "Settings"), and as emptying leaves them, so that equal settings are equal states.
-- Assumes nothing.
use Rattle.records.specs.declared.Port.{Port}
use Rattle.records.specs.declared.OwnedPort.{OwnedPort}
use Rattle.records.specs.declared.Group.{Group}
use Rattle.records.specs.declared.PathPlace.{PathPlace}
use Rattle.records.specs.declared.PairPlace.{PairPlace}

-- a port that is not set up
abbrev pub fresh_port : Port
fresh_port = record { ready = 0; address = record { 0 = 0 }; mask = record { 0 = 0 }; mtu = 0 }

abbrev pub fresh_owned : OwnedPort
fresh_owned = record { port = fresh_port; mission = 0 }

-- a place that is empty
abbrev pub fresh_group : Group
fresh_group = record { filled = 0; address = record { 0 = 0 }; send = 0; subscribed = 0 }

abbrev pub fresh_path : PathPlace
fresh_path = record { filled = 0; path = record { 0 = 0 }; send = 0; here = 0 }

-- a place that holds no pair (page 02, W-207)
abbrev pub fresh_pair : PairPlace
fresh_pair = record { pair = record { format = 0; source = record { 0 = 0 }; upper = 0; lower = 0 }; second = 0 }
