-- `put_words` meets its contract.
use Rattle.std.proofs.Common.{◌≡◌, length}
use Rattle.std.specs.Fn.{FnReturnsAt}
use Rattle.image.specs.Internal.Writes.{IsWordRowPut}
use Rattle.image.proofs.write.put_words.Given as goal

abbrev pub invariant-loop-i : goal.invariant-loop-i
invariant-loop-i g l = record {
  long : length l.image ≡ 384;
  put : IsWordRowPut (FnReturnsAt g.F.Fn l.word) l.at l.row l.i l.initial.image l.image;
}
