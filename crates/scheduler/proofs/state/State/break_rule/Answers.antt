-- `State::break_rule` meets its contract.
use Rattle.scheduler.specs.State.{break_rule}
use borrow.Author.Tests.{lt-ltb, le-ltb}
use Rattle.scheduler.proofs.state.State.break_rule.Goals as goal

pub returns-then-rule-lt16 : goal.returns-then-rule-lt16
unfolding break_rule
returns-then-rule-lt16 c = simp (lt-ltb _ _ c.if-rule-lt16.true)

pub returns-else-rule-lt16 : goal.returns-else-rule-lt16
unfolding break_rule
returns-else-rule-lt16 c = simp (le-ltb _ _ c.if-rule-lt16.false)
