-- Whether another place of a mission holds the same entry: page 01, "Settings" ("writing a place over itself is allowed"; "Group and path
-- addresses are matched exactly and differ from place to place"). Of a route, see crate listing. Assumes nothing.
use Rattle.std.specs.Prelude.{ℕ, Bool, not, ◌&&◌, eqb}
use Rattle.address.specs.declared.Address.{Address}
use Rattle.address.specs.declared.PathAddress.{PathAddress}
use Rattle.sets.specs.Limits.{group_places, path_places}
use Rattle.sets.specs.Sets.{any_below}
use Rattle.records.specs.Held.{holds_group, holds_path}
use Rattle.state.specs.Relay.{Mission, group_at, path_at}

-- place j is another one than i, and holds the entry
abbrev pub other_group : Mission → ℕ → Address → ℕ → Bool
other_group m i a j = not (eqb j i) && holds_group (group_at m j) a

abbrev pub other_path : Mission → ℕ → PathAddress → ℕ → Bool
other_path m i p j = not (eqb j i) && holds_path (path_at m j) p

-- 23: some place does
unfoldable pub group_elsewhere : Mission → ℕ → Address → Bool
group_elsewhere m i a = any_below (other_group m i a) group_places

unfoldable pub path_elsewhere : Mission → ℕ → PathAddress → Bool
path_elsewhere m i p = any_below (other_path m i p) path_places
