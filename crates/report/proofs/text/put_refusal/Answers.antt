-- `put_refusal` meets its contract.
use Rattle.std.proofs.Common.{◌++◌}
use Rattle.scheduler.specs.Runner.{decimal, line}
use Rattle.pages.proofs.Texts.{room_first, room_then, put_both}
use Rattle.report.proofs.Splits.{refused_lead, at_lead, refusal_is}
use Rattle.report.proofs.text.put_refusal.Goals as goal

pub put_count-requires : goal.put_count-requires
put_count-requires c =
    room_first
    _ _
    (refused_lead ++ decimal c.sheet_fault_number.result)
    (line (at_lead ++ decimal c.args.refusal.at))
    (refusal_is c.args.refusal c.sheet_fault_number.result c.sheet_fault_number.ensures)
    c.requires

pub put_line-requires : goal.put_line-requires
put_line-requires c =
    room_then
    _ _
    (refused_lead ++ decimal c.sheet_fault_number.result)
    (line (at_lead ++ decimal c.args.refusal.at))
    (refusal_is c.args.refusal c.sheet_fault_number.result c.sheet_fault_number.ensures)
    c.requires _
    c.put_count.ensures

pub returns : goal.returns
returns c =
    put_both
    _ _
    (refused_lead ++ decimal c.sheet_fault_number.result)
    (line (at_lead ++ decimal c.args.refusal.at))
    (refusal_is c.args.refusal c.sheet_fault_number.result c.sheet_fault_number.ensures)
    c.requires _
    c.put_count.ensures _
    c.put_line.ensures
