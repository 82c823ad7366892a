-- `State::has_held` meets its contract. The loop: no event below e is held.
use mathlib.Core.Path.{sym, ◌∙◌, ap}
use Rattle.plan.specs.Fates.{is_held}
use Rattle.plan.proofs.Loops.{none_zero, none_next}
use Rattle.plan.proofs.Tests.{any_some}
use Rattle.scheduler.specs.State.{fate_of}
use Rattle.scheduler.proofs.state.State.has_held.Goals as goal

pub loop-e-init : goal.loop-e-init
loop-e-init c = none_zero _

pub returns-then-is_held : goal.returns-then-is_held
returns-then-is_held c =
    sym (any_some _ (λ e. is_held (fate_of c.args.self.now e)) c.loop-e.e c.loop-e-test.true
    (ap is_held (sym c.fate.ensures) ∙ sym c.is_held.ensures ∙ c.if-is_held.true))

pub loop-e-preserved : goal.loop-e-preserved
loop-e-preserved c =
    none_next _ _ c.loop-e.invariant (ap is_held (sym c.fate.ensures) ∙ sym c.is_held.ensures ∙ c.if-is_held.false)
