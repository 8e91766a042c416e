-- Taking from a port: page 01, "Taking from a port". Assumes nothing.
use Rattle.std.specs.Prelude.{Option, Some, None, ℕ, not}
use Rattle.checks.specs.Order.{pick}
use Rattle.queue.specs.Queue.{take_of}
use Rattle.queue.specs.declared.Entry.{Entry}
use Rattle.queue.specs.declared.Queue.{Queue}
use Rattle.queue.specs.declared.Taken.{Taken}
use Rattle.state.specs.Relay.{Relay, port_set_up, queue_in, with_queue}
use Rattle.checks.specs.Told.{Told, Good, Refused}

-- what taking tells: the entry, or the refusal's number
abbrev pub Taking : Type 0
Taking = Told Entry

-- "16 if not set up, 18 if nothing waits, else the first entry, removed"
abbrev pub hands_out : Option Entry → Taking
hands_out (Some e) = Good e
hands_out None = Refused 18

unfoldable pub take_outcome : Relay → ℕ → Taking
take_outcome r port = pick (not (port_set_up r port)) (Refused 16) (hands_out (take_of (queue_in r port)).head)

-- the queue without what was handed out
abbrev pub without : Relay → ℕ → Queue → Option Entry → Relay
without r port rest (Some e) = with_queue r port rest
without r port rest None = r

abbrev pub after_taking : Relay → ℕ → Taken → Relay
after_taking r port t = without r port t.queue t.head

unfoldable pub taken_relay : Relay → ℕ → Relay
taken_relay r port = pick (not (port_set_up r port)) r (after_taking r port (take_of (queue_in r port)))
