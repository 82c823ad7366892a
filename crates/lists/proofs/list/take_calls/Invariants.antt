-- `take_calls` meets its contract. The loop's invariant is `Underway` of Running.antt.
use Prim.Native.Nat.{◌-◌}
use lib.ListN.{length}
use Rattle.lists.specs.Internal.Underway.{Underway}
use Rattle.lists.proofs.list.take_calls.Given as goal

abbrev pub invariant-loop-made : goal.invariant-loop-made
invariant-loop-made g l = Underway g.C.Codec.decoding l.initial.next l.calls l.next l.at l.refused

abbrev pub decreases-loop-made : goal.decreases-loop-made
decreases-loop-made g l = length l.calls - l.at
