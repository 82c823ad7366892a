-- `put_history` meets its contract. The loop's invariant: the lines before this one are put.
use Rattle.std.proofs.Common.{◌≡◌, ◌++◌, take}
use Rattle.scheduler.specs.Runner.{history_lines}
use Rattle.report.proofs.text.put_history.Given as goal

abbrev pub invariant-loop-entry : goal.invariant-loop-entry
invariant-loop-entry l = l.page ≡ l.initial.page ++ history_lines (take l.entry-index l.entries)
