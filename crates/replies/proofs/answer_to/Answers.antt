-- `replies::answer_to` meets its contract. Assumes nothing.
use mathlib.Core.Path.{sym, ◌∙◌}
use Rattle.replies.proofs.Chosen.{granted, asks_long}
use Rattle.replies.proofs.Answered.{asked_free, not_asked_lem, is_asked_lem}
use mathlib.Core.Path.{ap}
use mathlib.Core.Bool.{not}
use Rattle.replies.proofs.answer_to.Goals as goal

pub returns-then-not-is_asked : goal.returns-then-not-is_asked
returns-then-not-is_asked c = not_asked_lem c.args.dropping c.args.a c.args.s c.args.mtu c.args.octets.now c.is_asked.ensures (ap not c.if-not-is_asked.true) c.no_answer.ensures

pub asking_of-requires : goal.asking_of-requires
asking_of-requires c = c.requires (asked_free c.args.dropping c.args.a c.args.s (granted _ c.is_asked.ensures (ap not c.if-not-is_asked.false)))

pub make_reply-requires : goal.make_reply-requires
make_reply-requires c = asks_long c.args.a.header _ (sym c.asking_of.ensures ∙ c.in-Some.is)

pub returns-in-Some : goal.returns-in-Some
returns-in-Some c = is_asked_lem c.args.dropping c.args.a c.args.s c.args.mtu c.args.octets.now c.is_asked.ensures (ap not c.if-not-is_asked.false) _ c.asking_of.ensures c.in-Some.is c.make_reply.ensures

pub returns-in-None : goal.returns-in-None
returns-in-None c = is_asked_lem c.args.dropping c.args.a c.args.s c.args.mtu c.args.octets.now c.is_asked.ensures (ap not c.if-not-is_asked.false) _ c.asking_of.ensures c.in-None.is c.no_answer-in-None.ensures
