-- `State::lapse_step` meets its contract. The loop: what is left of the lapsing from e on is the whole.
use Prim.Native.Nat.{◌-◌}
use mathlib.Core.Path.{◌≡◌}
use Rattle.scheduler.specs.Calls.{lapse}
use Rattle.scheduler.proofs.state.State.lapse_step.Given as goal

abbrev pub invariant-loop-e : goal.invariant-loop-e
invariant-loop-e l = lapse (l.e-end - l.e) l.e l.self l.step ≡ lapse l.e-end 0 l.initial.self l.step
