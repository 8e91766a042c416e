-- What C's types say of the numbers: an address has two of 64 bits, and a time has one. The others need no bound: fields keep no more of them than
-- fits an octet, or four. Assumes nothing.
use Rattle.std.specs.Prelude.{◌^◌, ◌<◌}
use Rattle.numbers.specs.declared.Numbers.{Numbers}

pub record Words (n : Numbers) : Type 0 where
  pub destination : (n.destination.high < 256 ^ 8) × (n.destination.low < 256 ^ 8)
  pub source : (n.source.high < 256 ^ 8) × (n.source.low < 256 ^ 8)
  pub time : n.time < 256 ^ 8
