-- `put_count` meets its contract.
use Rattle.std.proofs.Common.{refl}
use Rattle.scheduler.specs.Runner.{decimal}
use Rattle.pages.proofs.Texts.{put_first, room_then, put_both}
use Rattle.report.proofs.page.put_count.Goals as goal

pub put_decimal-requires : goal.put_decimal-requires
put_decimal-requires c =
    let digits = decimal c.args.x in
    let word = put_first _ _ c.args.word.now digits refl c.requires _ c.put.ensures in
    room_then _ _ c.args.word.now digits refl c.requires _ word

pub returns : goal.returns
returns c =
    let digits = decimal c.args.x in
    let word = put_first _ _ c.args.word.now digits refl c.requires _ c.put.ensures in
    put_both _ _ c.args.word.now digits refl c.requires _ word _ c.put_decimal.ensures
