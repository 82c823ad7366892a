-- `test_coherent` meets its contract.
use Rattle.std.proofs.Common.{sym, ◌∙◌}
use Rattle.writer.proofs.Replies.{test_fails, test_passes}
use Rattle.writer.proofs.write.test_coherent.Goals as goal

pub returns-then-is_coherent : goal.returns-then-is_coherent
returns-then-is_coherent c = sym (test_passes c.args.state (sym c.is_coherent.ensures ∙ c.if-is_coherent.true))

pub returns-else-is_coherent : goal.returns-else-is_coherent
returns-else-is_coherent c = sym (test_fails c.args.state (sym c.is_coherent.ensures ∙ c.if-is_coherent.false))
