-- A scan of the list of routes: what one record adds to it. Page 02, W-208 ("Each route says which mission may use it"); page 01, "Onward half", for
-- the longest match, and "Settings", 23, for the same entry. Of records that one address matches those with as many ones hold one entry, so that a
-- set of counts says which entries lower places hold; proofs/Searched.antt and proofs/Same.antt have what a scan then finds. Assumes nothing.
use Rattle.std.specs.Prelude.{ℕ, ◌+◌, ◌^◌, Bool, true, false, not, ◌&&◌, List, [], ◌∷◌, eqb, ltb, length, drop, Some, None}
use Rattle.std.specs.Option.{option_map_or}
use Rattle.std.specs.Int.Bits.{bit_and, bit_or}
use Rattle.checks.specs.Order.{pick}
use Rattle.sets.specs.Sets.{in_set}
use Rattle.address.specs.Mask.{ones_of, mask_form}
use Rattle.routes.specs.declared.Record.{Record}
use Rattle.routes.specs.Records.{is_record}
use Rattle.routes.specs.Refusals.{is_mixed, codes_refused}
use Rattle.settings.specs.Sets.{is_ready}
use Rattle.listing.specs.declared.Sought.{Sought}
use Rattle.listing.specs.declared.Sought.TheVariants.{Nothing, Best, Same}
use Rattle.listing.specs.declared.Query.{Query}
use Rattle.listing.specs.declared.Match.{Match}
use Rattle.listing.specs.declared.Scan.{Scan}

abbrev pub begun_scan : Scan
begun_scan = record { found = None; seen = 0 }

-- nothing is looked at where nothing is sought
abbrev pub first_by : Sought → ℕ → ℕ
first_by Nothing n = n
first_by Best n = 0
first_by Same n = 0

abbrev pub first_place : Query → ℕ → ℕ
first_place q n = first_by q.sought n

-- ---- one record
-- the address under its mask is its prefix, it is filled, and of this mission
unfoldable pub matches : Query → Record → Bool
matches q r = eqb (bit_and q.address r.mask) r.prefix && (is_record r && eqb r.mission q.mission)

-- refused by nothing that a match leaves open
unfoldable pub unrefused : Query → Record → Bool
unrefused q r =
    is_ready r.port q.own && (not (codes_refused r.availability r.capabilities) && not (is_mixed (mask_form r.mask)))

-- the longest match is up (page 02, W-204); the same entry has the mask that is sought, up or not
abbrev pub wanted_by : Sought → Bool → Bool → Bool
wanted_by Best up same = up
wanted_by Same up same = same
wanted_by Nothing up same = same

unfoldable pub is_wanted : Query → Record → Bool
is_wanted q r = wanted_by q.sought (eqb r.availability 1) (eqb r.mask q.mask)

-- nothing is found yet, or a smaller mask
unfoldable pub is_longer : Scan → Record → Bool
is_longer s r = option_map_or (λ (found : Match). ltb found.mask r.mask) s.found true

-- these counts of ones are seen too
abbrev pub noted : Scan → ℕ → Scan
noted s counts =
    record {
      found = s.found;
      seen = bit_or s.seen counts;
    }

abbrev pub match_of : ℕ → Record → Match
match_of place r = record { place = place; mask = r.mask; port = r.port; capabilities = r.capabilities }

abbrev pub found_at : Scan → ℕ → Record → Scan
found_at s place r = record { found = Some (match_of place r); seen = s.seen }

unfoldable pub taken_of : Query → Scan → ℕ → Record → Scan
taken_of q s place r = pick (is_wanted q r && is_longer s r) (found_at s place r) s

-- a match that stands, and whose entry no lower place holds
unfoldable pub judged_of : Query → Scan → ℕ → Record → Scan
judged_of q s place r =
    pick (unrefused q r && not (in_set (ones_of r.mask) s.seen)) (taken_of q (noted s (2 ^ ones_of r.mask)) place r) s

unfoldable pub step_of : Query → Scan → ℕ → Record → Scan
step_of q s place r = pick (matches q r) (judged_of q s place r) s

-- ---- the list
-- what is found once the records from this place on are looked at too
unfoldable pub scan_from : Query → Scan → ℕ → List Record → Scan
scan_from q s place [] = s
scan_from q s place (r ∷ rs) = scan_from q (step_of q s place r) (place + 1) rs

-- the scan of all places, numbered from 0
unfoldable pub scan_of : Query → List Record → Scan
scan_of q rs = scan_from q begun_scan (first_place q (length rs)) (drop (first_place q (length rs)) rs)

-- a place other than i is found
abbrev pub found_elsewhere : Scan → ℕ → Bool
found_elsewhere s i = option_map_or (λ (found : Match). not (eqb found.place i)) s.found false
