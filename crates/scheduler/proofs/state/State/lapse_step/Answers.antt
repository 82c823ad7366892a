-- `State::lapse_step` meets its contract. The loop: what is left of the lapsing from e on is the whole.
use Prim.Native.Nat.{◌+◌, ◌-◌}
use mathlib.Core.Path.{sym, ◌∙◌, ap}
use Rattle.plan.specs.Fates.{is_open}
use Rattle.scheduler.specs.Prelude.{State}
use Rattle.scheduler.specs.Calls.{lapse}
use Rattle.scheduler.proofs.CallLoops.{lapse_zero, lapse_taken, lapse_settled, lapse_other, lapse_end}
use Rattle.scheduler.proofs.state.State.lapse_step.Goals as goal
use Rattle.scheduler.proofs.state.State.lapse_step.Goals.{then-is_open+then-step, else-is_open, else-is_open-via-then-is_open+else-step, else-is_open-via-else-is_open}

pub loop-e-init : goal.loop-e-init
loop-e-init c = lapse_zero _ _ _

pub loop-e-preserved : goal.loop-e-preserved
loop-e-preserved c =
    let s = c.loop-e.self in
    let n = c.args.self.now.plan.event_count in
    let e = c.loop-e.e in
    let k = c.args.step in
    let read = sym (ap is_open c.fate.ensures) ∙ sym c.is_open.ensures in
    (elim c.if-is_open.branch [
      | then-is_open+then-step w ↦ lapse_taken n e s k c.loop-e-test.true
          (read ∙ w.if-is_open.true)
          (sym w.step.ensures ∙ w.if-step.true)
          c.if-is_open.self
          (w.self-is ∙ w.settle_as.ensures)
      | else-is_open w ↦ ap (λ (t : State). lapse (n - (e + 1)) (e + 1) t k) w.self-is
          ∙ (elim w.else-is_open.branch [
            | else-is_open-via-then-is_open+else-step v ↦ lapse_other n e s k c.loop-e-test.true (λ q. v.if-step.false (v.step.ensures ∙ q))
            | else-is_open-via-else-is_open v ↦ lapse_settled n e s k c.loop-e-test.true (read ∙ v.if-is_open.false)
          ])
    ])
    ∙ c.loop-e.invariant

pub returns : goal.returns
returns c = sym (lapse_end _ _ _ _ c.loop-e-test.false) ∙ c.loop-e.invariant
