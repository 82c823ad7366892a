-- `put_fate` meets its contract.
use Rattle.std.proofs.Common.{◌∙◌}
use Rattle.pages.proofs.Texts.{text_put}
use Rattle.report.proofs.text.put_fate.Goals as goal

pub returns-in-Open : goal.returns-in-Open
returns-in-Open c = rw c.in-Open.is (c.put.ensures ∙ text_put _ _ (rw c.in-Open.is at c.requires))

pub returns-in-Held : goal.returns-in-Held
returns-in-Held c = rw c.in-Held.is (c.put-in-Held.ensures ∙ text_put _ _ (rw c.in-Held.is at c.requires))

pub returns-in-Done : goal.returns-in-Done
returns-in-Done c = rw c.in-Done.is (c.put-in-Done.ensures ∙ text_put _ _ (rw c.in-Done.is at c.requires))

pub returns-in-Refused : goal.returns-in-Refused
returns-in-Refused c = rw c.in-Refused.is (c.put-in-Refused.ensures ∙ text_put _ _ (rw c.in-Refused.is at c.requires))

pub returns-in-Lapsed : goal.returns-in-Lapsed
returns-in-Lapsed c = rw c.in-Lapsed.is (c.put-in-Lapsed.ensures ∙ text_put _ _ (rw c.in-Lapsed.is at c.requires))

pub returns-in-Forced : goal.returns-in-Forced
returns-in-Forced c = rw c.in-Forced.is (c.put-in-Forced.ensures ∙ text_put _ _ (rw c.in-Forced.is at c.requires))
