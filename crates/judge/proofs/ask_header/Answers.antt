-- `judge::ask_header` meets its contract: the checks gone through one by one. Assumes nothing.
use native.Mathlib.Omega.{arith}
use Rattle.checks.proofs.Steps.{fails_here, passes}
use Rattle.judge.proofs.Stages.{header_refused, source_refused, header_aimed}
use Rattle.judge.proofs.ask_header.Goals as goal

pub returns-in_default : goal.returns-in_default
returns-in_default c = header_refused _ _ _ _ _ (fails_here _ _ _ c.check_carried.ensures c.in_default.is) (λ z. omega arith) c.refused.ensures

pub returns-in_default-check_domain : goal.returns-in_default-check_domain
returns-in_default-check_domain c = header_refused _ _ _ _ _ (passes _ _ _ c.check_carried.ensures c.in-Passed.is (fails_here _ _ _ c.check_domain.ensures c.in_default-check_domain.is)) (λ z. omega arith) c.refused-in_default-check_domain.ensures

pub returns-in_default-check_origin : goal.returns-in_default-check_origin
returns-in_default-check_origin c = source_refused _ _ _ _ _ c.check_carried.ensures c.in-Passed.is c.check_domain.ensures c.in-Passed-check_domain.is c.origin_of.ensures c.check_origin.ensures c.in_default-check_origin.is c.refused-in_default-check_origin.ensures

pub returns : goal.returns
returns c = header_aimed _ _ _ _ _ c.check_carried.ensures c.in-Passed.is c.check_domain.ensures c.in-Passed-check_domain.is c.origin_of.ensures c.check_origin.ensures c.in-Passed-check_origin.is c.aim_of.ensures c.ask_good.ensures
