-- `is_delayable` meets its contract.
use Rattle.plan.proofs.RuleReads.{bit_test}
use Rattle.checks.proofs.event.is_delayable.Goals as goal

pub returns : goal.returns
returns c = bit_test 2 c.args.attributes
