-- `put_head` meets its contract.
use Rattle.std.proofs.Common.{◌++◌}
use Rattle.scheduler.specs.Runner.{decimal, line}
use Rattle.pages.proofs.Texts.{room_first, room_then, put_both}
use Rattle.report.proofs.Splits.{events_lead, rules_lead, head_split}
use Rattle.report.proofs.text.put_head.Goals as goal

pub put_count-requires : goal.put_count-requires
put_count-requires c =
    room_first
    _ _
    (events_lead ++ decimal c.args.events)
    (line (rules_lead ++ decimal c.args.rules))
    (head_split c.args.events c.args.rules)
    c.requires

pub put_line-requires : goal.put_line-requires
put_line-requires c =
    room_then
    _ _
    (events_lead ++ decimal c.args.events)
    (line (rules_lead ++ decimal c.args.rules))
    (head_split c.args.events c.args.rules)
    c.requires _
    c.put_count.ensures

pub returns : goal.returns
returns c =
    put_both
    _ _
    (events_lead ++ decimal c.args.events)
    (line (rules_lead ++ decimal c.args.rules))
    (head_split c.args.events c.args.rules)
    c.requires _
    c.put_count.ensures _
    c.put_line.ensures
