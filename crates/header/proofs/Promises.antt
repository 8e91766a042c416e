-- The laws between reading, building and sending on, each whole in one statement. Assumes nothing.
use Prim.Native.Nat.{ℕ, ◌-◌, ◌≤◌, ◌<◌}
use mathlib.Core.Path.{◌≡◌}
use mathlib.Core.List.{List, ◌++◌}
use lib.ListN.{get_or, length, take, drop}
use Rattle.header.specs.Limits.{longest_header, most_data}
use Rattle.header.specs.Form.{control_of}
use Rattle.header.specs.Read.{read_of}
use Rattle.header.specs.Build.{built_of, built_output}
use Rattle.header.specs.Shortest.{Shortest}
use Rattle.header.specs.Onward.{header_sent_on, one_less, with_hops}
use Rattle.header.specs.declared.Header.{Header}
use Rattle.checks.specs.Told.{Good}
use Rattle.header.proofs.Again.{done_again, output_again}
use Rattle.header.proofs.SentOn.{read_sent_on, sent_as_it_came}

-- building what was read gives the same header octets, where the control field was shortest and the data at most 8,141 octets
pub build_what_was_read : (s : List ℕ) (h : Header) → ((i : ℕ) → get_or s i 0 < 256) → read_of s ≡ Good h → Shortest (control_of s)
    → h.length - h.size ≤ most_data → (lent : List ℕ) → longest_header ≤ length lent
    → (built_of h.fields (h.length - h.size) (length lent) ≡ Good h.size)
    × (built_output h.fields (h.length - h.size) lent ≡ take h.size s ++ drop h.size lent)
build_what_was_read s h small e short few lent room = (done_again s h small e short (length lent) room few, output_again s h small e short lent room few)

-- reading the header sent on, with the datagram's data after it, gives the same fields with the hop count less one
pub read_what_was_sent_on : (s : List ℕ) (h : Header) → ((i : ℕ) → get_or s i 0 < 256) → read_of s ≡ Good h
    → read_of (header_sent_on s ++ drop h.size s) ≡ Good (with_hops (one_less h.fields.hops) h)
read_what_was_sent_on = read_sent_on

-- a header whose hop count stays goes on as it came
pub sent_on_unchanged : (s : List ℕ) (h : Header) → ((i : ℕ) → get_or s i 0 < 256) → read_of s ≡ Good h
    → one_less h.fields.hops ≡ h.fields.hops → header_sent_on s ≡ take h.size s
sent_on_unchanged = sent_as_it_came
