-- `are_windows_sound` meets its contract. The loop's invariant: every place passed is right.
use Prim.Native.Nat.{ℕ, ◌<◌}
use mathlib.Core.Bool.{true}
use mathlib.Core.Path.{◌≡◌}
use Rattle.coherence.proofs.WindowTests.{right_at}
use Rattle.coherence.proofs.passes.are_windows_sound.Given as goal

abbrev pub invariant-loop-e : goal.invariant-loop-e
invariant-loop-e l = (k : ℕ) → k < l.e → right_at l.fn.plan.event_count l.fn.plan.events l.fn.plan.windows k ≡ true
