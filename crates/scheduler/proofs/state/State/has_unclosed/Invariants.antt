-- `State::has_unclosed` meets its contract. The loop: the step of every event below e is closed.
use mathlib.Core.Bool.{false}
use mathlib.Core.Path.{◌≡◌}
use Rattle.plan.specs.Base.{any_below}
use Rattle.scheduler.proofs.CallLoops.{open_step}
use Rattle.scheduler.proofs.state.State.has_unclosed.Given as goal

abbrev pub invariant-loop-e : goal.invariant-loop-e
invariant-loop-e l = any_below l.e (open_step l.self) ≡ false
