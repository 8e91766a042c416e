-- What goes out where ports took an entry: page 01, the end of "Onward half". Assumes nothing.
use Rattle.std.specs.Prelude.{ℕ, zero, suc, ◌*◌, ◌≤◌, ◌≡◌, List, take, eqb}
use Rattle.std.specs.Int.Bits.{bit_and}
use Rattle.checks.specs.Order.{pick}
use Rattle.octets.specs.Octets.{pasted}
use Rattle.sets.specs.Limits.{port_count}
use Rattle.sets.specs.Sets.{in_set, only_port}
use Rattle.header.specs.Limits.{longest_header}
use Rattle.next_leg.specs.Leg.{header_for}
use Rattle.next_leg.specs.declared.Legs.{Legs}
use Rattle.judge.specs.declared.Ending.{Ending}
use Rattle.queue.specs.Queue.{put_of}
use Rattle.queue.specs.declared.Entry.{Entry}
use Rattle.state.specs.Relay.{Relay, queue_in, with_queue}

-- "takes one entry (slot, precedence)"
abbrev pub entered : Relay → ℕ → Entry → Relay
entered r p e = with_queue r p (put_of (queue_in r p) e).queue

-- where port p is in the set
unfoldable pub entered_if : Relay → ℕ → Entry → ℕ → Relay
entered_if r took e p = pick (eqb (bit_and took (only_port p)) 0) r (entered r p e)

-- in each of the first n ports that are in the set
unfoldable pub entered_all : Relay → ℕ → Entry → ℕ → Relay
entered_all r took e zero = r
entered_all r took e (suc p) = entered_if (entered_all r took e p) took e p

-- "each output .. has 50 octets for each of eight ports, port p's from 50 × p on, written only where p took an entry" (page 02, W-214), and only as long
-- as its header is; each other octet stays as lent
abbrev pub stretch_of : ℕ → ℕ
stretch_of p = longest_header * p

unfoldable pub sent_if : ℕ → Legs → List ℕ → ℕ → List ℕ → List ℕ
sent_if took l octets p lent = pick (in_set p took) (pasted lent (stretch_of p) (header_for l octets p)) lent

-- of the first n ports
unfoldable pub sent_below : ℕ → Legs → List ℕ → List ℕ → ℕ → List ℕ
sent_below took l octets lent zero = lent
sent_below took l octets lent (suc p) = sent_if took l octets p (sent_below took l octets lent p)

-- the same with two headers made ready, for ports of the arrival port's domain and for those of the set far (law `ready_sent`)
unfoldable pub chosen_if : ℕ → ℕ → List ℕ → List ℕ → ℕ → List ℕ → List ℕ
chosen_if took far near other p lent = pick (in_set p took) (pasted lent (stretch_of p) (pick (in_set p far) other near)) lent

unfoldable pub chosen_below : ℕ → ℕ → List ℕ → List ℕ → List ℕ → ℕ → List ℕ
chosen_below took far near other lent zero = lent
chosen_below took far near other lent (suc p) = chosen_if took far near other p (chosen_below took far near other lent p)

-- a header of so many octets stands ready at the front of these, where any of the ports is to get it
abbrev pub Ready : ℕ → List ℕ → ℕ → List ℕ → Type 0
Ready ports header size made = (size ≤ longest_header) × ((ports ≡ 0 → ⊥) → take size made ≡ header)

unfoldable pub sent_output : Ending → List ℕ → List ℕ → List ℕ
sent_output e octets lent = sent_below e.ruling.took e.legs octets lent port_count
