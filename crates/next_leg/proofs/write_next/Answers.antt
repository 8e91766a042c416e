-- `next_leg::write_next` meets its contract. Assumes nothing.
use native.Mathlib.Omega.{arith}
use Rattle.next_leg.proofs.Made.{next_small, header_kept, header_made}
use Rattle.next_leg.proofs.write_next.Goals as goal

pub write_header-requires : goal.write_header-requires
write_header-requires c = record { longest_header_in_bounds = (c.requires.1.0, omega (arith, c.requires.0.short)); tpid_bound = next_small _ _ _ _ c.requires.0 c.fields_next.ensures }

pub returns-then-is_rewritten : goal.returns-then-is_rewritten
returns-then-is_rewritten c = let t = header_made _ _ _ _ _ _ c.requires.1.1.0 c.is_rewritten.ensures c.if-is_rewritten.true c.fields_next.ensures (next_small _ _ _ _ c.requires.0 c.fields_next.ensures).1.0 c.write_header.ensures.value c.write_header.ensures.out_after in record { value = t.0; out_after = t.1 }

pub send_on-requires : goal.send_on-requires
send_on-requires c = (c.requires.1.0, c.requires.1.1.1)

pub returns : goal.returns
returns c = let t = header_kept _ _ _ _ _ _ c.requires.1.1.0 c.is_rewritten.ensures c.if-is_rewritten.false c.requires.1.1.1.0 c.send_on.ensures.value c.send_on.ensures.out_after in record { value = t.0; out_after = t.1 }
