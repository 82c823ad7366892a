-- `has_event` meets its contract. The loop: no event below e is of the step.
use mathlib.Core.Bool.{false}
use mathlib.Core.Path.{◌≡◌}
use Rattle.plan.specs.Base.{any_below}
use Rattle.plan.proofs.Steps.{step_in}
use Rattle.checks.proofs.plans.has_event.Given as goal

abbrev pub invariant-loop-e : goal.invariant-loop-e
invariant-loop-e l = any_below l.e (step_in l.events l.step) ≡ false
