-- `State::settle` meets its contract. The loop: the turns that are left settle the whole, and the times stay the state's.
use Prim.Native.Nat.{◌-◌}
use mathlib.Core.Path.{◌≡◌}
use Rattle.scheduler.specs.Calls.{settle_up_to}
use Rattle.scheduler.specs.Internal.Timing.{Timing}
use Rattle.scheduler.proofs.state.State.settle.Given as goal

abbrev pub invariant-loop-turn : goal.invariant-loop-turn
invariant-loop-turn l = (settle_up_to 16 l.initial.self ≡ settle_up_to (16 - l._turn) l.self) × Timing l.self l.times
