-- `State::has_unclosed` meets its contract. The loop: the step of every event below e is closed.
use mathlib.Core.Path.{sym, ◌∙◌}
use Rattle.plan.proofs.Loops.{none_zero, none_next}
use Rattle.scheduler.proofs.CallLoops.{open_here, closed_here, beyond_here, unclosed_some, unclosed_none}
use Rattle.scheduler.proofs.state.State.has_unclosed.Goals as goal
use Rattle.scheduler.proofs.state.State.has_unclosed.Goals.{else-step-lt8-via-then-step-lt8+else-not-is_closed, else-step-lt8-via-else-step-lt8}

pub loop-e-init : goal.loop-e-init
loop-e-init c = none_zero _

pub returns-then-not-is_closed : goal.returns-then-not-is_closed
returns-then-not-is_closed c =
    unclosed_some c.args.self.now c.loop-e.e c.loop-e-test.true
    (open_here c.args.self.now c.loop-e.e _ c.step-step.ensures c.if-step-lt8.true
    (sym c.is_closed.ensures ∙ c.if-not-is_closed.true))

pub loop-e-preserved : goal.loop-e-preserved
loop-e-preserved c =
    none_next _ _ c.loop-e.invariant (elim c.else-step-lt8.branch [
      | else-step-lt8-via-then-step-lt8+else-not-is_closed w ↦ closed_here c.args.self.now c.loop-e.e _ c.step-step.ensures
          (sym w.is_closed.ensures ∙ w.if-not-is_closed.false)
      | else-step-lt8-via-else-step-lt8 w ↦ beyond_here c.args.self.now c.loop-e.e _ c.step-step.ensures w.if-step-lt8.false
    ])

pub returns : goal.returns
returns c = unclosed_none c.args.self.now c.loop-e.e c.loop-e.auto.e-end c.loop-e-test.false c.loop-e.invariant
