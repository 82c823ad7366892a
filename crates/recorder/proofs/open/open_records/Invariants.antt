-- `open_records` meets its contract. The loop's invariant is `Underway`.
use Prim.Native.Nat.{◌-◌}
use lib.ListN.{length}
use Rattle.recorder.specs.Internal.Underway.{Underway}
use Rattle.recorder.proofs.open.open_records.Given as goal

abbrev pub invariant-loop-made : goal.invariant-loop-made
invariant-loop-made l = Underway l.initial.state l.bytes l.from l.state l.at

abbrev pub decreases-loop-made : goal.decreases-loop-made
decreases-loop-made l = length l.bytes - l.at
