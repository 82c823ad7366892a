-- `put_all` meets its contract. The loop's invariant: the records before this one are put.
use Rattle.std.proofs.Common.{◌≡◌, ◌++◌, take}
use Rattle.writer.specs.Internal.Records.{records}
use Rattle.writer.proofs.records.put_all.Given as goal

abbrev pub invariant-loop-place : goal.invariant-loop-place
invariant-loop-place g l = l.page ≡ l.initial.page ++ records g.T.Declared.bytes 0 (take l.place l.declared)
