-- `skip_finishes` meets its contract. The loop: every byte passed is a finish.
use Rattle.plan.specs.Calls.{Finishes}
use Rattle.checks.proofs.calls.skip_finishes.Given as goal

abbrev pub invariant-loop-at : goal.invariant-loop-at
invariant-loop-at l = Finishes l.bytes l.from l.at
