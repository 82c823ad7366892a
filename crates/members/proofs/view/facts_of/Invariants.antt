-- `facts_of` meets its contract. The loop: each set has the events below e that pass its test.
use Rattle.members.proofs.Views.{Viewed}
use Rattle.members.proofs.view.facts_of.Given as goal

abbrev pub invariant-loop-e : goal.invariant-loop-e
invariant-loop-e l = Viewed l.events l.standings l.facts.held l.facts.comes l.facts.gone l.facts.waits l.facts.forcible l.facts.refusable l.e
