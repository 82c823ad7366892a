-- The loop of `skip_submits`: how far it has come, and that the run is under way there as before.
use Prim.Native.Nat.{◌≤◌, ◌-◌}
use lib.ListN.{length}
use Rattle.std.proofs.Common.{List, ℕ}
use Rattle.plan.specs.Calls.{Decoded}
use Rattle.lists.specs.Types.{State, CallRead}
use Rattle.lists.specs.Internal.Underway.{Underway, IsCodec}
use Rattle.lists.proofs.list.skip_submits.Given as goal

abbrev pub invariant-loop-at : goal.invariant-loop-at
invariant-loop-at l = (l.from ≤ l.at)
    × (l.at ≤ length l.calls)
    × (l.refused ≤ l.at)
    × ((first : List ℕ → CallRead) (decoding : List ℕ → Decoded) (s : State) → IsCodec first decoding
    → Underway decoding s l.calls l.state l.from l.before → Underway decoding s l.calls l.state l.at l.refused)

abbrev pub decreases-loop-at : goal.decreases-loop-at
decreases-loop-at l = length l.calls - l.at
