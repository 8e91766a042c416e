-- What a mission's pairs say of a flooded datagram, by the table's tests. Assumes nothing.
use native.Mathlib.Omega.{arith}
use Prim.Native.Nat.{ℕ, zero, suc, ◌<◌}
use mathlib.Core.Path.{◌≡◌, refl, sym}
use mathlib.Core.Bool.{Bool, true, false, not, ◌&&◌, ◌||◌}
use lib.Dec.{eqb, ltb}
use borrow.Author.Tests.{eqb-true, eqb-false, lt-ltb, le-ltb}
use Rattle.checks.specs.Order.{pick}
use Rattle.checks.proofs.Bools.{true_false}
use Rattle.sets.specs.Sets.{any_below, first_below}
use Rattle.header.specs.declared.Fields.{Fields}
use Rattle.meaning.specs.Flood.{is_flooded, pair_of}
use Rattle.records.specs.Held.{is_free}
use Rattle.state.specs.Relay.{pair_at, Relay, port_in}
use Rattle.verdict.specs.declared.Flood.{Flood}
use Rattle.verdict.specs.declared.Flood.TheVariants.{Plain, Unsent, Full, New}
use Rattle.verdict.specs.declared.Target.{Target}
use Rattle.floods.specs.Memory.{is_held, free_place, sought_pair, unless_here, flood_of}
use Rattle.page.specs.Table.{is_host, pair_held, some_free}
use Rattle.page.specs.Memory.{lowest_free}

-- the pair is held or not, some place is free or not, and which is the lowest of these
abbrev pub pairs_say : Bool → Bool → ℕ → Flood
pairs_say held free place = pick held Unsent (pick free (New place) Full)

abbrev pub flood_by : Bool → Bool → Target → Flood → Flood
flood_by flooded host t say = pick (flooded && not host) (unless_here t say) Plain

-- ---- the first that is met is one of the n exactly where there is one
module _ (test : ℕ → Bool) where
  abbrev Met : ℕ → ℕ → Bool → Type 0
  Met n first true = (first < n) × (test first ≡ true)
  Met n first false = first ≡ n

  first_met : (n : ℕ) → Met n (first_below test n) (any_below test n)
  first_met zero = refl
  first_met (suc n) = by (first_below test n) (any_below test n) (first_met n) (eqb (first_below test n) n) refl (test n) refl
    where
      by : (first : ℕ) (some : Bool) → Met n first some → (t : Bool) → eqb first n ≡ t → (u : Bool) → test n ≡ u
          → Met (suc n) (pick t (pick u n (suc n)) first) (some || u)
      by first true met true e u f = absurd (omega (arith, eqb-true first n e, met.0))
      by first true met false e u f = (omega (arith, met.0), met.1)
      by first false met true e true f = (omega arith, f)
      by first false met true e false f = refl
      by first false met false e u f = absurd (eqb-false first n e met)

  pub first_inside : (n : ℕ) → ltb (first_below test n) n ≡ any_below test n
  first_inside n = by (first_below test n) (any_below test n) (first_met n)
    where
      by : (first : ℕ) (some : Bool) → Met n first some → ltb first n ≡ some
      by first true met = lt-ltb first n met.0
      by first false met = le-ltb first n (omega (arith, met))

  -- and there it holds
  pub first_where : (n : ℕ) → any_below test n ≡ true → (first_below test n < n) × (test (first_below test n) ≡ true)
  first_where n e = by (first_below test n) (any_below test n) (first_met n) e
    where
      by : (first : ℕ) (some : Bool) → Met n first some → some ≡ true → (first < n) × (test first ≡ true)
      by first true met e = met
      by first false met e = true_false (sym e)

module _ (r : Relay) (at : ℕ) (f : Fields) where
  held_is : is_held r.memory (pair_of (port_in r at).address.0 f) ≡ pair_held r at f
  unfolding is_held pair_held
  held_is = refl

  place_is : free_place r.memory ≡ lowest_free r
  unfolding free_place lowest_free
  place_is = refl

  free_is : ltb (free_place r.memory) 64 ≡ some_free r
  unfolding free_place some_free
  free_is = first_inside (λ (i : ℕ). is_free (pair_at r.memory i)) 64

  -- What the pairs say, on a router and of what is flooded alone.
  pub flood_is : (t : Target) → flood_of r.router t r.memory (port_in r at).address.0 f
      ≡ flood_by (is_flooded f) (is_host r) t (pairs_say (pair_held r at f) (some_free r) (lowest_free r))
  unfolding flood_of sought_pair
  flood_is t = rw (held_is, free_is, place_is)
