-- `harpjuniper::build_numbers` meets its contract: the law of no room, of no fields, or of what the builder answers. Assumes nothing.
use mathlib.Core.Path.{◌≡◌, sym, ◌∙◌}
use lib.ListN.{length}
use Rattle.checks.specs.Order.{check_of}
use Rattle.checks.specs.declared.Check.TheVariants.{Passed}
use Rattle.header.specs.Limits.{lacks_room}
use Rattle.header.proofs.BuiltLaws.{built_told}
use Rattle.harpjuniper.proofs.Laws.{no_room, no_fields, built}
use Rattle.harpjuniper.proofs.build_numbers.Goals as goal
use Rattle.harpjuniper.proofs.build_numbers.Goals.{In-Passed}

pub returns-in_default : goal.returns-in_default
returns-in_default c = let t = no_room c.args.fields c.args.data_size c.args.output.now (sym c.check_room.ensures ∙ c.in_default.is) _ c.refusal.ensures in record { value = t.0; output_after = t.1 }

pub returns-in_default-check_numbers : goal.returns-in_default-check_numbers
returns-in_default-check_numbers c = let room : check_of (lacks_room (length c.args.output.now)) ≡ Passed = sym c.check_room.ensures ∙ c.in-Passed.is in let t = no_fields c.args.fields c.args.data_size c.args.output.now (room) (sym c.check_numbers.ensures ∙ c.in_default-check_numbers.is) _ c.refusal-in_default-check_numbers.ensures in record { value = t.0; output_after = t.1 }

pub returns : goal.returns
returns c = let room : check_of (lacks_room (length c.args.output.now)) ≡ Passed = sym c.check_room.ensures ∙ c.in-Passed.is in let t = built c.args.fields c.args.data_size c.args.output.now (room) (sym c.check_numbers.ensures ∙ c.in-Passed-check_numbers.is) _ _ _ _
    c.from.ensures (built_told _ _ _ _ c.build_header.ensures.value) c.build_header.ensures.out_after c.built_answer.ensures in record { value = t.0; output_after = t.1 }
