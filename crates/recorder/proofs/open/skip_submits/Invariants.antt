-- The loop of `skip_submits`: how far it has come, and that the journal is under way there as before.
use Prim.Native.Nat.{ℕ, ◌-◌, ◌≤◌}
use lib.ListN.{length}
use Rattle.recorder.specs.Types.{State}
use Rattle.recorder.specs.Internal.Underway.{Underway}
use Rattle.recorder.proofs.open.skip_submits.Given as goal

abbrev pub invariant-loop-at : goal.invariant-loop-at
invariant-loop-at l = (l.from ≤ l.at) × (l.at ≤ length l.bytes) × ((s : State) (b : ℕ) → Underway s l.bytes b l.state l.from → Underway s l.bytes b l.state l.at)

abbrev pub decreases-loop-at : goal.decreases-loop-at
decreases-loop-at l = length l.bytes - l.at
