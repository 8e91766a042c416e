-- Every set of ports that an ending has is one of the ports 0 to 7. Assumes nothing.
use native.Mathlib.Omega.{arith}
use Prim.Native.Nat.{ℕ}
use mathlib.Core.List.{List}
use Rattle.judge.specs.Ending.{no_ruling}
use Rattle.judge.specs.declared.Ending.{Ending}
use Rattle.routes.specs.declared.Record.{Record}
use Rattle.page.proofs.Small.{Small, ruled_small}
use Rattle.history.specs.Seat.{Seat, relay_with, heard_by}
use Rattle.history.proofs.Heard.{heard_so}
use Rattle.history.proofs.Listed.{of_any_ending}

none_small : Small no_ruling
none_small = record { granted = omega arith; took = omega arith; dropped = omega arith }

pub sets_small : (seat : Seat) (rs : List Record) (port second : ℕ) (octets : List ℕ) (room : ℕ) → Small (heard_by seat rs port second octets room).ruling
sets_small seat rs port second octets room =
    heard_so seat rs port second octets room (λ (e : Ending). Small e.ruling) none_small
    (of_any_ending Small ruled_small none_small (relay_with seat rs) port second octets room)
