-- What a ruling grants to a port it takes or drops: it takes where fewer than 32 wait, and drops where not (page 01, end of "Onward half"). Assumes nothing.
use Prim.Native.Nat.{ℕ, ◌+◌, ◌<◌}
use mathlib.Core.Path.{◌≡◌, refl, sym, ◌∙◌}
use mathlib.Core.Bool.{Bool, true, false, not, ◌&&◌}
use borrow.Author.Tests.{not-true}
use mathlib.Core.List.{List}
use lib.Dec.{ltb}
use Rattle.checks.proofs.Bools.{true_false, and_true}
use Rattle.sets.specs.Sets.{in_set}
use Rattle.routes.specs.declared.Record.{Record}
use Rattle.state.specs.Relay.{queue_at}
use Rattle.verdict.specs.declared.Local.TheVariants.{No}
use Rattle.verdict.specs.declared.Onward.{Onward}
use Rattle.verdict.specs.declared.Onward.TheVariants.{NotAsked}
use Rattle.verdict.specs.declared.Ruling.{Ruling}
use Rattle.judge.specs.Ending.{ending_of}
use Rattle.judge.specs.declared.Ending.{Ending}
use Rattle.survey.proofs.Bits.{in_none}
use Rattle.page.proofs.Exactly.{took_exactly, dropped_exactly}
use Rattle.history.specs.Seat.{Seat, relay_with, heard_by}
use Rattle.history.specs.Ledger.{one}
use Rattle.history.proofs.Heard.{heard_so}

split_case : (g f : Bool) → one g ≡ one (g && f) + one (g && not f)
split_case true true = refl
split_case true false = refl
split_case false f = refl

module _ (seat : Seat) (p : ℕ) (inside : p < 8) where
  pub record Fair (x : Ruling) : Type 0 where
    pub split : one (in_set p x.granted) ≡ one (in_set p x.took) + one (in_set p x.dropped)
    pub room : in_set p x.took ≡ true → ltb (queue_at seat.mission p).count 32 ≡ true
    pub full : in_set p x.dropped ≡ true → ltb (queue_at seat.mission p).count 32 ≡ false

  -- a port takes the copy that it is granted where fewer than 32 wait, and else drops it
  pub fair_by : (x : Ruling) → in_set p x.took ≡ (in_set p x.granted && ltb (queue_at seat.mission p).count 32)
      → in_set p x.dropped ≡ (in_set p x.granted && not (ltb (queue_at seat.mission p).count 32)) → Fair x
  fair_by x took dropped =
      let room = ltb (queue_at seat.mission p).count 32 in
      record {
        split = rw (took, dropped) (split_case (in_set p x.granted) room);
        room = λ h. (and_true (in_set p x.granted) room (sym took ∙ h)).1;
        full = λ h. not-true room (and_true (in_set p x.granted) (not room) (sym dropped ∙ h)).1;
      }

  -- page 01's relay rules so ..
  ruled_fair : (rs : List Record) (port second : ℕ) (octets : List ℕ) (size : ℕ) → Fair (ending_of (relay_with seat rs) port second octets size).ruling
  ruled_fair rs port second octets size =
      let r = relay_with seat rs in
      fair_by (ending_of r port second octets size).ruling (took_exactly r port second octets size p inside) (dropped_exactly r port second octets size p inside)

  -- .. and so does every ending
  pub none_fair : (x : Onward) → Fair (record { local = No; onward = x; granted = 0; took = 0; dropped = 0 })
  none_fair x =
      record {
        split = rw (in_none p) refl;
        room = λ h. true_false (sym h ∙ in_none p);
        full = λ h. true_false (sym h ∙ in_none p);
      }

  pub fair : (rs : List Record) (port second : ℕ) (octets : List ℕ) (size : ℕ) → Fair (heard_by seat rs port second octets size).ruling
  fair rs port second octets size = heard_so seat rs port second octets size (λ (e : Ending). Fair e.ruling) (none_fair NotAsked) (ruled_fair rs port second octets size)
