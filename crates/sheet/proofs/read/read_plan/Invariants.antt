-- `read_plan`'s loop: what is left from the reader's place on comes to what the sheet comes to.
use Rattle.std.proofs.Common.{◌-◌, length}
use Rattle.sheet.proofs.Reading.{Left}
use Rattle.sheet.proofs.read.read_plan.Given as goal

abbrev pub invariant-loop-kind : goal.invariant-loop-kind
invariant-loop-kind l = Left l.sheet l.reader l.plan

abbrev pub decreases-loop-kind : goal.decreases-loop-kind
decreases-loop-kind l = length l.sheet - l.reader.at
