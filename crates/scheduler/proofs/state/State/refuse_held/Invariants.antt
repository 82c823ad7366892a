-- `State::refuse_held` meets its contract. The loop: the refusals that are left wind up the whole.
use Prim.Native.Nat.{◌-◌}
use mathlib.Core.Path.{◌≡◌}
use Rattle.scheduler.specs.Calls.{refuse_held}
use Rattle.scheduler.proofs.state.State.refuse_held.Given as goal

abbrev pub invariant-loop-turn : goal.invariant-loop-turn
invariant-loop-turn l = refuse_held 16 l.initial.self ≡ refuse_held (16 - l._turn) l.self
