-- `put_line` meets its contract.
use Rattle.std.proofs.Common.{[], ◌∷◌, ◌++◌, refl}
use Rattle.scheduler.specs.Runner.{decimal}
use Rattle.pages.proofs.Texts.{put_last}
use Rattle.report.proofs.page.put_line.Goals as goal

pub returns : goal.returns
returns c =
    let counted = c.args.word.now ++ decimal c.args.x in
    put_last _ _ counted (10 ∷ []) refl c.requires _ c.put_count.ensures _ c.push.ensures
