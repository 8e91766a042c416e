-- What a mission sees of the board's ports: its own as they stand, and no other set up. Assumes nothing.
use Prim.Native.Nat.{ℕ, ◌<◌}
use mathlib.Core.Path.{◌≡◌, refl, sym, ap, ◌∙◌}
use mathlib.Core.Bool.{Bool, true, false}
use mathlib.Core.List.{List}
use lib.ListN.{get_or, get_or-map}
use Rattle.checks.specs.Order.{pick}
use Rattle.checks.proofs.Bools.{true_false}
use Rattle.sets.specs.Sets.{in_set}
use Rattle.sets.proofs.Members.{in_gathered}
use Rattle.records.specs.declared.Port.{Port}
use Rattle.records.specs.declared.OwnedPort.{OwnedPort}
use Rattle.records.specs.Fresh.{fresh_port, fresh_owned}
use Rattle.records.specs.SetUp.{is_set_up}
use Rattle.records.specs.Owned.{owns, seen_port}
use Rattle.state.specs.Relay.{ready_of}
use Rattle.state.specs.Seen.{Board, owned_at, ports_seen, all_ports}

-- ---- one port
either_fresh : (t : Bool) → pick t fresh_port fresh_port ≡ fresh_port
either_fresh true = refl
either_fresh false = refl

-- a port of a fresh board is not set up for anyone
pub seen_fresh : (n : ℕ) → seen_port n fresh_owned ≡ fresh_port
unfolding seen_port
seen_fresh n = either_fresh (owns n fresh_owned)

up_case : (t : Bool) (x : Port) → is_set_up (pick t x fresh_port) ≡ true → (t ≡ true) × (pick t x fresh_port ≡ x)
up_case true x h = (refl, refl)
up_case false x h = true_false (sym h)

-- a port seen as set up is the mission's own, as it stands
pub seen_own : (n : ℕ) (x : OwnedPort) → is_set_up (seen_port n x) ≡ true → (owns n x ≡ true) × (seen_port n x ≡ x.port)
unfolding seen_port
seen_own n x h = up_case (owns n x) x.port h

-- ---- the ports of a board
module _ (b : Board) (p : ℕ) where
  pub seen_at : (n : ℕ) → get_or (ports_seen n b) p fresh_port ≡ seen_port n (owned_at b p)
  unfolding ports_seen
  seen_at n =
      ap (λ (d : Port). get_or (ports_seen n b) p d) (sym (seen_fresh n)) ∙ get_or-map (seen_port n) b.ports p fresh_owned

  pub all_at : get_or (all_ports b) p fresh_port ≡ (owned_at b p).port
  unfolding all_ports
  all_at = get_or-map (λ (x : OwnedPort). x.port) b.ports p fresh_owned

  pub seen_set_up : (n : ℕ) → is_set_up (get_or (ports_seen n b) p fresh_port) ≡ true
      → (owns n (owned_at b p) ≡ true) × (get_or (ports_seen n b) p fresh_port ≡ (owned_at b p).port)
  seen_set_up n h =
      let own = seen_own n (owned_at b p) (rw (← seen_at n) h) in
      (own.0, seen_at n ∙ own.1)

-- ---- the set of those that are set up
pub in_ready : (ports : List Port) (p : ℕ) → p < 8 → in_set p (ready_of ports) ≡ is_set_up (get_or ports p fresh_port)
unfolding ready_of
in_ready ports p h = in_gathered (λ (q : ℕ). is_set_up (get_or ports q fresh_port)) p 8 h
