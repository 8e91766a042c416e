-- `replies::request::asks_in_header` meets its contract. Assumes nothing.
use borrow.Author.Rules.{rules}
use Rattle.replies.specs.Request.{asks_in_header}
use Rattle.replies.proofs.request.asks_in_header.Goals as goal

pub returns-then-source_flag-ne0 : goal.returns-then-source_flag-ne0
unfolding asks_in_header
returns-then-source_flag-ne0 c = search rules

pub returns-else-source_flag-ne0 : goal.returns-else-source_flag-ne0
unfolding asks_in_header
returns-else-source_flag-ne0 c = search rules
