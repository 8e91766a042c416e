-- `echo::check_type` meets its contract. Assumes nothing.
use mathlib.Core.Path.{sym, ◌∙◌}
use Rattle.octets.specs.Octets.{octet}
use Rattle.echo.proofs.Laws.{other_code, is_request, is_reply_lem, is_other}
use Rattle.echo.proofs.check_type.Goals as goal

pub returns-then-octet_at-ne0 : goal.returns-then-octet_at-ne0
returns-then-octet_at-ne0 c = rw (← c.octet_at.ensures) (other_code (octet c.args.s.now 0) _ c.if-octet_at-ne0.true)

pub returns-then-number-eq-REQUEST_TYPE : goal.returns-then-number-eq-REQUEST_TYPE
returns-then-number-eq-REQUEST_TYPE c = is_request _ _ (sym c.octet_at.ensures ∙ c.if-octet_at-ne0.false) (sym c.octet_at-number.ensures ∙ c.if-number-eq-REQUEST_TYPE.true)

pub returns-then-number-eq-REPLY_TYPE : goal.returns-then-number-eq-REPLY_TYPE
returns-then-number-eq-REPLY_TYPE c = is_reply_lem _ _ (sym c.octet_at.ensures ∙ c.if-octet_at-ne0.false) (sym c.octet_at-number.ensures ∙ c.if-number-eq-REPLY_TYPE.true)

pub returns : goal.returns
returns c = rw (← c.octet_at-number.ensures) (is_other _ (octet c.args.s.now 1) c.if-number-eq-REQUEST_TYPE.false c.if-number-eq-REPLY_TYPE.false)
