-- `View::is_reckoned` meets its contract.
use Rattle.members.proofs.RuleSets.{reckoned_read}
use Rattle.members.proofs.view.View.is_reckoned.Goals as goal

pub returns : goal.returns
returns c = λ p f shows. reckoned_read p f _ shows _ _ _ _ c.is_in.ensures (c.is_pending.ensures p f shows)
