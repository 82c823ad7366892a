-- An event's `put` meets its contract.
use Rattle.std.proofs.Common.{◌∙◌}
use Rattle.pages.proofs.Texts.{text_put}
use Rattle.writer.proofs.records.EventDeclared.put.Goals as goal

pub returns : goal.returns
returns c = c.put.ensures ∙ text_put _ _ c.requires
