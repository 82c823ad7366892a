-- A rule's `put` meets its contract.
use Rattle.std.proofs.Common.{◌∙◌}
use Rattle.pages.proofs.Texts.{text_put}
use Rattle.writer.proofs.records.RuleLineDeclared.put.Goals as goal

pub returns-in-Order : goal.returns-in-Order
returns-in-Order c = rw c.in-Order.is (c.put.ensures ∙ text_put _ _ (rw c.in-Order.is at c.requires))

pub returns-in-Need : goal.returns-in-Need
returns-in-Need c = rw c.in-Need.is (c.put-in-Need.ensures ∙ text_put _ _ (rw c.in-Need.is at c.requires))

pub returns-in-Conditional : goal.returns-in-Conditional
returns-in-Conditional c =
    rw c.in-Conditional.is (c.put-in-Conditional.ensures ∙ text_put _ _ (rw c.in-Conditional.is at c.requires))
