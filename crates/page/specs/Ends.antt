-- What it is that receiving ends as the tables say: the same numbers, and the same of each port. Assumes nothing.
use Rattle.std.specs.Prelude.{ℕ, ◌<◌, ◌≡◌, Bool, true, ◌&&◌, List}
use Rattle.checks.specs.Order.{pick}
use Rattle.sets.specs.Limits.{port_count}
use Rattle.sets.specs.Sets.{in_set}
use Rattle.address.specs.declared.Address.{Address}
use Rattle.header.specs.Read.{header_of}
use Rattle.next_leg.specs.Leg.{rewrites, next_size, next_header, header_for}
use Rattle.routes.specs.Routes.{candidate}
use Rattle.routes.specs.Search.{longer_mask}
use Rattle.routes.specs.declared.Route.{Route}
use Rattle.state.specs.Relay.{Relay, port_in, route_in}
use Rattle.verdict.specs.Numbers.{local_number, onward_number}
use Rattle.verdict.specs.declared.Ruling.{Ruling}
use Rattle.judge.specs.declared.Ending.{Ending}
use Rattle.page.specs.Table.{Verdict, lies_far}

-- both halves by their numbers, and for each port whether it is granted a copy, takes it or drops it
pub record Agrees (x : Ruling) (v : Verdict) : Type 0 where
  pub local : local_number x.local ≡ v.local
  pub onward : onward_number x.onward ≡ v.onward
  pub granted : (p : ℕ) → p < port_count → in_set p x.granted ≡ v.granted p
  pub took : (p : ℕ) → p < port_count → in_set p x.took ≡ v.took p
  pub dropped : (p : ℕ) → p < port_count → in_set p x.dropped ≡ v.dropped p

-- and the refusal
pub record Ends (e : Ending) (v : Verdict) : Type 0 where
  pub refusal : e.refusal ≡ v.refusal
  pub ruling : Agrees e.ruling v

-- each port that took a copy gets the header that W-214 gives it, r being the relay and at the arrival port: rewritten exactly where it says so, and as
-- many octets long as C is told
pub record HeadersAs (r : Relay) (at : ℕ) (octets : List ℕ) (e : Ending) (v : Verdict) : Type 0 where
  pub header : (p : ℕ) → p < port_count → in_set p e.ruling.took ≡ true
      → header_for e.legs octets p ≡ next_header (lies_far r at p) (port_in r at).address.0 v.code octets
  pub rewritten : (p : ℕ) → p < port_count
      → in_set p e.legs.rewritten ≡ (in_set p e.ruling.took && rewrites (lies_far r at p) v.code (header_of octets).fields)
  pub size : (p : ℕ) → p < port_count → in_set p e.ruling.took ≡ true
      → pick (in_set p e.legs.rewritten) e.legs.octets e.size ≡ next_size (lies_far r at p) (port_in r at).address.0 v.code (header_of octets)

-- of routes that match an address, `more` chooses as the comparison of masks as numbers does
abbrev pub Chooses : (Route → Route → Bool) → Relay → Type 0
Chooses more r =
    (a : Address) (p q : ℕ) → candidate (route_in r p) a ≡ true → candidate (route_in r q) a ≡ true
    → more (route_in r p) (route_in r q) ≡ longer_mask (route_in r p) (route_in r q)
