-- `are_events_coherent` meets its contract. The loop's invariant: every event passed has passed the tests.
use Prim.Native.Nat.{ℕ, ◌<◌}
use mathlib.Core.Bool.{true}
use mathlib.Core.Path.{◌≡◌}
use Rattle.coherence.proofs.CoherentTests.{passes_at}
use Rattle.coherence.proofs.passes.are_events_coherent.Given as goal

abbrev pub invariant-loop-i : goal.invariant-loop-i
invariant-loop-i l = (k : ℕ) → k < l.i → passes_at l.plan.events l.standings l.closed l.listed k ≡ true
