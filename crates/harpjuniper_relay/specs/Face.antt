-- What taking and the reads answer, of a relay and of its counters: page 01, "Taking from a port" and the counters. Assumes nothing.
use Rattle.std.specs.Prelude.{ℕ, List, ltb}
use Rattle.checks.specs.Order.{pick}
use Rattle.sets.specs.Limits.{port_count, counter_count}
use Rattle.state.specs.Relay.{Relay, Mission, queue_at, counter_in}
use Rattle.taking.specs.Taking.{take_outcome}
use Rattle.checks.specs.Answer.{refusal_number}
use Rattle.answers.specs.Answers.{taking_number}

abbrev pub take_answer : Relay → ℕ → ℕ
take_answer r port = taking_number (take_outcome r port)

-- 21 where there is no such counter, and no such port
unfoldable pub counter_answer : List ℕ → ℕ → ℕ
counter_answer l i = pick (ltb i counter_count) (counter_in l i) (refusal_number 21)

unfoldable pub waiting_answer : Mission → ℕ → ℕ
waiting_answer m port = pick (ltb port port_count) (queue_at m port).count (refusal_number 21)
