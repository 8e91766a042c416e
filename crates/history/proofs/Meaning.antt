-- Demand 2: for every copy granted, what each address of the header that goes out names at the port that it leaves by is what the header that came named at
-- the port that it came in by; hence a one-octet address goes out into no other domain (page 02, W-214). Assumes nothing.
use Prim.Native.Nat.{ℕ, ◌<◌}
use mathlib.Core.Path.{◌≡◌, sym, subst}
use mathlib.Core.Bool.{Bool, true, false}
use mathlib.Core.List.{List}
use borrow.Author.Tests.{eqb-true, eq-eqb}
use Rattle.checks.proofs.Bools.{not-false}
use Rattle.sets.specs.Sets.{in_set}
use Rattle.header.specs.Read.{read_of}
use Rattle.header.specs.declared.Header.{Header}
use Rattle.checks.specs.Told.{Good}
use Rattle.header.proofs.Refusals.{read_good}
use Rattle.networks.specs.Networks.{domain_of}
use Rattle.meaning.specs.Names.{aim_of, origin_of, is_bound}
use Rattle.next_leg.specs.Leg.{next_fields}
use Rattle.next_leg.proofs.Names.{same_aim, same_origin, stays_home}
use Rattle.routes.specs.declared.Route.{Route}
use Rattle.state.specs.Relay.{Relay, port_in, port_set_up}
use Rattle.judge.specs.Ending.{ending_of}
use Rattle.page.specs.Ends.{Chooses}
use Rattle.page.specs.Table.{step_rows, one_octet, lies_far, verdict_by}
use Rattle.page.proofs.Exactly.{granted_exactly}
use Rattle.page.proofs.Sought.{Passed, granted_fits}

-- what the header of a copy that port p is granted is written by: whether the port lies in another domain, and what the route taken asks for, by any
-- comparison that so chooses
module _ (more : Route → Route → Bool) (r : Relay) (chooses : Chooses more r) (p : ℕ) (inside : p < 8) (port second : ℕ) (octets : List ℕ) (room : ℕ) (h : Header)
    (good : read_of octets ≡ Good h) (copy : in_set p (ending_of r port second octets room).ruling.granted ≡ true) where
  abbrev far : Bool
  far = lies_far r port p

  abbrev arrival : ℕ
  arrival = (port_in r port).address.0

  abbrev code : ℕ
  code = (verdict_by more r port second octets room).code

  -- It has passed all that the tables ask.
  pub has_passed : Passed r port h code p
  has_passed =
      subst (λ (x : Header). Passed r port x code p) (sym ((read_good octets h).0 good).1)
      (granted_fits r port second octets room p inside more chooses copy)

  -- The port that it came in by is set up.
  pub arrival_set_up : port_set_up r port ≡ true
  unfolding step_rows
  arrival_set_up = not-false (port_set_up r port) ((granted_exactly r port second octets room more chooses p inside).0 copy).0.0

  home : far ≡ false → domain_of (port_in r p).address ≡ domain_of (port_in r port).address
  home near = eqb-true (domain_of (port_in r p).address) (domain_of (port_in r port).address) (not-false _ near)

  bound : is_bound h.fields.addresses ≡ 1 → far ≡ false
  bound one = has_passed.bound (eq-eqb (is_bound h.fields.addresses) 1 one)

  -- A one-octet address goes out into no other domain.
  pub stays_near : one_octet (next_fields far arrival code h.fields).addresses ≡ true → far ≡ false
  stays_near one = stays_home arrival code far h.fields bound one

  pub stays_in_its_domain : one_octet (next_fields far arrival code h.fields).addresses ≡ true → domain_of (port_in r p).address ≡ domain_of (port_in r port).address
  stays_in_its_domain one = home (stays_near one)

  -- What the destination, the path and the source that go out name at the port the copy leaves by is what those that came named where it came in.
  pub names_the_same :
      (aim_of (port_in r p).address.0 (next_fields far arrival code h.fields).addresses ≡ aim_of arrival h.fields.addresses)
      × (origin_of (port_in r p).address.0 (next_fields far arrival code h.fields).addresses ≡ origin_of arrival h.fields.addresses)
  names_the_same =
      let out = (port_in r p).address.0 in
      (same_aim out arrival code far h.fields home bound, same_origin out arrival code far h.fields home bound)
