-- `echo::read_message` meets its contract: past the checks a message that is no request has the fixed part of a reply. Assumes nothing.
use borrow.Author.Rules.{rules}
use mathlib.Core.Path.{sym, ◌∙◌}
use Rattle.echo.specs.Message.{message_of}
use Rattle.echo.proofs.Laws.{reply-room}
use Rattle.echo.proofs.read_message.Goals as goal

pub kind_in-requires : goal.kind_in-requires
kind_in-requires c = reply-room c.args.s.now (sym c.check_type.ensures ∙ c.in-Passed.is) (sym c.check_whole.ensures ∙ c.in-Passed-check_whole.is)

pub returns : goal.returns
unfolding message_of
returns c = search rules
