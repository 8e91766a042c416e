-- The route that an address takes as C is told it (include/harpjuniper.h): page 02, W-202 ("the place number and its count of mask ones as well, and
-- for no match a plain no"). Assumes nothing.
use Rattle.std.specs.Prelude.{ℕ, ◌+◌, ◌*◌, ◌%◌, ◌^◌, Option, Some, None}
use Rattle.address.specs.declared.Address.{Address}
use Rattle.routes.specs.Search.{Found, search_of}
use Rattle.state.specs.Relay.{Relay}

-- from the lowest bits on: eight of refusal, which are 0, eight of found, sixteen of place, eight of ones, eight of port
unfoldable pub search_parts : ℕ → ℕ → ℕ → ℕ → ℕ
search_parts found place ones port =
    found % 2 ^ 8 * 2 ^ 8 + place % 2 ^ 16 * 2 ^ 16 + ones % 2 ^ 8 * 2 ^ 32 + port % 2 ^ 8 * 2 ^ 40

-- the number of each case; no number of ones stands for no
abbrev pub found_number : Option Found → ℕ
found_number (Some top) = search_parts 1 top.place top.ones top.route.port
found_number None = 0

unfoldable pub search_answer : Relay → Address → ℕ
search_answer r a = found_number (search_of a r.routes)
