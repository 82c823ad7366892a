-- `has_window` meets its contract. The loop: whether one of the windows that were passed is a window.
use mathlib.Core.Path.{◌≡◌}
use Rattle.plan.specs.Base.{any_below}
use Rattle.members.proofs.Clocking.{windowed_in}
use Rattle.members.proofs.times.has_window.Given as goal

abbrev pub invariant-loop-window : goal.invariant-loop-window
invariant-loop-window l = l.any ≡ any_below l.window-index (windowed_in l.window-items)
