-- `echo::write_message` meets its contract. Assumes nothing.
use native.Mathlib.Omega.{arith}
use Prim.Native.Nat.{◌+◌, ◌-◌, ◌≤◌}
use mathlib.Core.List.{◌++◌}
use mathlib.Core.Path.{◌≡◌, refl}
use lib.ListN.{length, take, drop}
use lib.Seq.{take-length}
use Rattle.echo.proofs.Laws.{mid_put, written}
use Rattle.echo.proofs.write_message.Goals as goal

pub returns : goal.returns
returns c =
    let echoed = c.args.echoed.now in
    let n = length echoed in
    let from = c.put_fixed-from.result in
    let l = c.put_fixed-from.new.out in
    let from_is = c.put_fixed-from.ensures.value in
    let room : from + n ≤ length l = omega (arith, c.requires, from_is, c.put_fixed-from.auto.out) in
    let is : c.put_front.new.out ≡ take n echoed ++ drop n (take (from + n - from) (drop from l)) = rw (take-length echoed) c.put_front.ensures in
    let put = mid_put _ _ _ _ echoed refl room is in record {
      value = rw from_is;
      out_after = written c.args.m echoed _ _ _ _ _ _ from_is c.requires c.put_fixed-from.ensures.out_after put c.checksum-sum.ensures
          c.put_number.ensures.out_after;
    }
