-- `builder::build_header` meets its contract: each check's answer is told by its condition, and each return is a law of `Laws`. Assumes nothing.
use native.Mathlib.Omega.{arith}
use mathlib.Core.Path.{◌≡◌, sym, ◌∙◌}
use lib.ListN.{length}
use Rattle.checks.specs.Order.{check_of}
use Rattle.checks.specs.declared.Check.TheVariants.{Passed}
use Rattle.header.specs.Limits.{lacks_room, too_much_data}
use Rattle.header.specs.Range.{out_of_range}
use Rattle.builder.proofs.Laws.{small_fields, short, roomy, no_room, no_range, too_long, done}
use Rattle.builder.proofs.build_header.Goals as goal
use Rattle.builder.proofs.build_header.Goals.{In-Passed, In-Passed-check_data, In-Passed-check_fields}

pub returns-in_default-clause-out_after : goal.returns-in_default-clause-out_after
returns-in_default-clause-out_after c = let args = c.args in no_room args.f args.n args.out.now (sym c.check_room.ensures ∙ c.in_default.is)

pub returns-in_default-check_fields-clause-out_after : goal.returns-in_default-check_fields-clause-out_after
returns-in_default-check_fields-clause-out_after c = let room : check_of (lacks_room (length c.args.out.now)) ≡ Passed = sym c.check_room.ensures ∙ c.in-Passed.is in let args = c.args in no_range args.f args.n args.out.now (room) (sym c.check_fields.ensures ∙ c.in_default-check_fields.is)

pub returns-in_default-check_data-clause-out_after : goal.returns-in_default-check_data-clause-out_after
returns-in_default-check_data-clause-out_after c = let room : check_of (lacks_room (length c.args.out.now)) ≡ Passed = sym c.check_room.ensures ∙ c.in-Passed.is in let fits : check_of (out_of_range c.args.f) ≡ Passed = sym c.check_fields.ensures ∙ c.in-Passed-check_fields.is in let args = c.args in too_long args.f args.n args.out.now (room) (fits) (sym c.check_data.ensures ∙ c.in_default-check_data.is)

pub write_header-requires : goal.write_header-requires
write_header-requires c = let room : check_of (lacks_room (length c.args.out.now)) ≡ Passed = sym c.check_room.ensures ∙ c.in-Passed.is in let fits : check_of (out_of_range c.args.f) ≡ Passed = sym c.check_fields.ensures ∙ c.in-Passed-check_fields.is in let few : check_of (too_much_data c.args.n) ≡ Passed = sym c.check_data.ensures ∙ c.in-Passed-check_data.is in let args = c.args in record { longest_header_in_bounds = (roomy args.f args.n args.out.now (room), omega (arith, short args.n (few))); tpid_bound = small_fields args.f (fits) }

pub returns-clause-out_after : goal.returns-clause-out_after
returns-clause-out_after c = let room : check_of (lacks_room (length c.args.out.now)) ≡ Passed = sym c.check_room.ensures ∙ c.in-Passed.is in let fits : check_of (out_of_range c.args.f) ≡ Passed = sym c.check_fields.ensures ∙ c.in-Passed-check_fields.is in let few : check_of (too_much_data c.args.n) ≡ Passed = sym c.check_data.ensures ∙ c.in-Passed-check_data.is in let args = c.args in done args.f args.n args.out.now (room) (fits) (few) _ c.write_header.ensures.out_after
