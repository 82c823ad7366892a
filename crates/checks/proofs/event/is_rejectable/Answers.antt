-- `is_rejectable` meets its contract.
use Rattle.plan.proofs.RuleReads.{bit_test}
use Rattle.checks.proofs.event.is_rejectable.Goals as goal

pub returns : goal.returns
returns c = bit_test 1 c.args.attributes
