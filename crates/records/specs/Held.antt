-- Whether a place is a group's or a path's: page 01, "Settings" ("Group and path addresses are matched exactly"); and whether it holds a pair: page 02,
-- W-207 ("pairs of source and timestamp, format included"). An empty place is nobody's. Assumes nothing.
use Rattle.std.specs.Prelude.{ℕ, Bool, not, ◌&&◌, eqb}
use Rattle.address.specs.declared.Address.{Address}
use Rattle.address.specs.declared.PathAddress.{PathAddress}
use Rattle.records.specs.declared.Group.{Group}
use Rattle.records.specs.declared.PathPlace.{PathPlace}
use Rattle.records.specs.declared.Pair.{Pair}
use Rattle.records.specs.declared.PairPlace.{PairPlace}

-- a place that is filled, and by this address
abbrev pub holds_number : ℕ → ℕ → ℕ → Bool
holds_number filled held wanted = not (eqb filled 0) && eqb held wanted

abbrev pub holds_group : Group → Address → Bool
holds_group g a = holds_number g.filled g.address.0 a.0

abbrev pub holds_path : PathPlace → PathAddress → Bool
holds_path x p = holds_number x.filled x.path.0 p.0

-- the place holds the pair q: the formats 1 to 3 and the octets of both are the same
abbrev pub same_pair : Pair → Pair → Bool
same_pair x q = eqb x.format q.format && (eqb x.source.0 q.source.0 && (eqb x.upper q.upper && eqb x.lower q.lower))

unfoldable pub holds_pair : PairPlace → Pair → Bool
holds_pair x q = same_pair x.pair q

-- the place holds none
abbrev pub is_free : PairPlace → Bool
is_free x = eqb x.pair.format 0
