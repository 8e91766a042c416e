-- Steps 4, 5 and 6, by the arrival port's address: page 01, "One received datagram, step by step"; and page 02, W-207: "else 28, after 6". The first whose
-- condition holds ends the call with its number. Assumes nothing.
use Rattle.std.specs.Prelude.{[], ◌∷◌}
use Rattle.checks.specs.Order.{Checks}
use Rattle.address.specs.declared.Address.{Address}
use Rattle.header.specs.declared.Fields.{Fields}
use Rattle.meaning.specs.Names.{aim_of, origin_of, not_carried, no_domain, bad_aim, bad_source}
use Rattle.meaning.specs.Flood.{unmarked}

abbrev pub arrival_checks : Address → Fields → Checks
arrival_checks at f =
    (not_carried f, 8)
    ∷ (no_domain at f.addresses, 7)
    ∷ (bad_aim (aim_of at.0 f.addresses), 6)
    ∷ (bad_source (origin_of at.0 f.addresses), 6)
    ∷ (unmarked f, 28)
    ∷ []
