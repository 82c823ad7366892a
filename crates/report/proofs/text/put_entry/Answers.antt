-- `put_entry` meets its contract.
use Rattle.scheduler.specs.Runner.{decimal}
use Rattle.pages.proofs.Texts.{put_both}
use Rattle.report.specs.Internal.Texts.{fate_end}
use Rattle.report.proofs.Splits.{entry_split}
use Rattle.report.proofs.text.put_entry.Goals as goal

pub returns : goal.returns
returns c =
    put_both
    _ _
    (decimal c.args.entry.event)
    (fate_end c.args.entry.fate)
    (entry_split c.args.entry)
    c.requires _
    c.put_decimal.ensures _
    c.put_fate.ensures
