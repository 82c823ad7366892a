-- `add_events`' loop: the events so far are added, and the rest of the table's added after them make the whole.
use Rattle.std.proofs.Common.{◌≡◌, ◌+◌, drop}
use Rattle.plan.specs.Plans.{event_count}
use Rattle.plan.specs.Records.{table1, add_events}
use Rattle.sheet.proofs.declare.add_events.Given as goal

abbrev pub invariant-loop-attributes : goal.invariant-loop-attributes
invariant-loop-attributes l =
    (event_count l.plan ≡ event_count l.initial.plan + l.attributes-index)
    × (add_events l.plan l.step (drop l.attributes-index table1) ≡ add_events l.initial.plan l.step table1)
