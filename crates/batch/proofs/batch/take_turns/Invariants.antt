-- `take_turns`: the entries before the index have their answers, and the rest comes to the whole batch.
use Rattle.batch.proofs.BatchLoop.{Underway}
use Rattle.batch.proofs.batch.take_turns.Given as goal

abbrev pub invariant-loop-entry : goal.invariant-loop-entry
invariant-loop-entry l = Underway l.fn.state l.fn.entries l.entry-index l.next l.entries
