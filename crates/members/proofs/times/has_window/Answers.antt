-- `has_window` meets its contract. The loop: whether one of the windows that were passed is a window.
use native.Mathlib.Nat.{le_antisymm}
use mathlib.Core.Path.{sym, ◌∙◌, ap}
use Rattle.plan.specs.Base.{any_below}
use Rattle.plan.proofs.Loops.{none_zero}
use Rattle.members.proofs.Clocking.{windowed_in, any_more}
use Rattle.members.proofs.times.has_window.Goals as goal

pub loop-window-init : goal.loop-window-init
loop-window-init c = sym (none_zero _)

pub loop-window-preserved : goal.loop-window-preserved
loop-window-preserved c = any_more c.args.windows c.loop-window.any c.loop-window.window-index c.loop-window.invariant c.loop-window-test.true

pub returns : goal.returns
returns c =
    c.loop-window.invariant
    ∙ ap (λ n. any_below n (windowed_in c.args.windows)) (le_antisymm c.loop-window.auto.window-index-end c.loop-window-test.false)
