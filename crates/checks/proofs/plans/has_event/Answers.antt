-- `has_event` meets its contract. The loop: no event below e is of the step.
use native.Mathlib.Omega.{arith}
use Rattle.plan.proofs.Loops.{none_zero, none_next}
use Rattle.plan.proofs.Steps.{step_hit, step_miss, has_some, has_none}
use Rattle.checks.proofs.plans.has_event.Goals as goal

pub loop-e-init : goal.loop-e-init
loop-e-init c = none_zero _

pub returns-then-event_at-step : goal.returns-then-event_at-step
returns-then-event_at-step c = λ p same many.
    has_some c.args.events c.args.count c.args.step c.loop-e.e p same many c.loop-e-test.true
    (step_hit c.args.events c.args.step c.loop-e.e _ c.event_at.ensures c.if-event_at-step.true)

pub loop-e-preserved : goal.loop-e-preserved
loop-e-preserved c =
    none_next _ _ c.loop-e.invariant (step_miss c.args.events c.args.step c.loop-e.e _ c.event_at.ensures c.if-event_at-step.false)

pub returns : goal.returns
returns c = λ p same many.
    has_none c.args.events c.args.count c.args.step c.loop-e.e p same many (omega arith) c.loop-e-test.false c.loop-e.invariant
