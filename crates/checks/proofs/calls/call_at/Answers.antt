-- `call_at` meets its contract.
use Rattle.plan.proofs.CallRecords.{none_left, more_left}
use Rattle.checks.proofs.calls.call_at.Goals as goal

pub returns-then-bytes-at : goal.returns-then-bytes-at
returns-then-bytes-at c = none_left _ _ c.if-bytes-at.true

pub returns : goal.returns
returns c = more_left c.args.bytes.now c.args.at _ c.if-bytes-at.false c.if-bytes-at-eq1.false c.call_of.ensures
