-- The records of the list of routes that both missions are lent: page 02, W-208 ("Each route says which mission may use it, and 'same entry' (23)
-- now means same prefix, mask and mission"). Assumes nothing.
use Rattle.std.specs.Prelude.{ℕ, Bool, not, ◌&&◌, List, eqb, get_or}
use Rattle.routes.specs.declared.Record.{Record}
use Rattle.routes.specs.declared.Route.{Route}

abbrev pub empty_record : Record
empty_record = record { filled = 0; prefix = 0; mask = 0; port = 0; availability = 0; capabilities = 0; mission = 0 }

-- "places beyond its end are empty" (docs/DECISIONS.md)
abbrev pub record_at : List Record → ℕ → Record
record_at rs i = get_or rs i empty_record

-- a record without its mission
abbrev pub route_of : Record → Route
route_of x =
    record {
      filled = x.filled;
      prefix = record { 0 = x.prefix };
      mask = record { 0 = x.mask };
      port = x.port;
      availability = x.availability;
      capabilities = x.capabilities;
    }

-- 0 is empty, anything else filled
abbrev pub is_record : Record → Bool
is_record x = not (eqb x.filled 0)

-- "same prefix, mask and mission"
abbrev pub same_key : Record → Record → Bool
same_key x y = eqb x.prefix y.prefix && (eqb x.mask y.mask && eqb x.mission y.mission)
