-- `Times::of` meets its contract. The loop: each set has the events below e that pass its test.
use Rattle.members.proofs.Clocking.{Clocked}
use Rattle.members.proofs.times.Times.of.Given as goal

abbrev pub invariant-loop-e : goal.invariant-loop-e
invariant-loop-e l = Clocked l.windows l.minute l.timely l.late l.e
