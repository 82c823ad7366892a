-- `State::has_held` meets its contract. The loop: no event below e is held.
use mathlib.Core.Bool.{false}
use mathlib.Core.Path.{◌≡◌}
use Rattle.plan.specs.Base.{any_below}
use Rattle.plan.specs.Fates.{is_held}
use Rattle.scheduler.specs.State.{fate_of}
use Rattle.scheduler.proofs.state.State.has_held.Given as goal

abbrev pub invariant-loop-e : goal.invariant-loop-e
invariant-loop-e l = any_below l.e (λ x. is_held (fate_of l.self x)) ≡ false
