-- `last_call` meets its contract.
use borrow.Author.Tests.{eq-eqb, ne_eqb}
use Rattle.plan.specs.Calls.{first_call}
use Rattle.checks.proofs.calls.last_call.Goals as goal

pub returns-then-kind-eq-FINISH : goal.returns-then-kind-eq-FINISH
unfolding first_call
returns-then-kind-eq-FINISH c = simp (first_call, eq-eqb _ _ c.if-kind-eq-FINISH.true)

pub returns-else-kind-eq-FINISH : goal.returns-else-kind-eq-FINISH
unfolding first_call
returns-else-kind-eq-FINISH c = simp (first_call, ne_eqb _ _ c.if-kind-eq-FINISH.false)
