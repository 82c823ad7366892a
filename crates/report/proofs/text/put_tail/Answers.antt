-- `put_tail` meets its contract.
use Rattle.std.proofs.Common.{◌++◌}
use Rattle.scheduler.specs.Runner.{decimal, line}
use Rattle.pages.proofs.Texts.{room_first, room_second, room_third, put_three}
use Rattle.report.proofs.Splits.{held_lead, broken_lead, calls_lead, tail_split}
use Rattle.report.proofs.text.put_tail.Goals as goal

pub put_line-requires : goal.put_line-requires
put_line-requires c =
    room_first
    _ _
    (line (held_lead ++ decimal c.args.held))
    (line (broken_lead ++ decimal c.args.broken) ++ line (calls_lead ++ decimal c.args.refused))
    (tail_split c.args.held c.args.broken c.args.refused)
    c.requires

pub put_line-requires-2 : goal.put_line-requires-2
put_line-requires-2 c =
    room_second
    _ _
    (line (held_lead ++ decimal c.args.held))
    (line (broken_lead ++ decimal c.args.broken))
    (line (calls_lead ++ decimal c.args.refused))
    (tail_split c.args.held c.args.broken c.args.refused)
    c.requires _
    c.put_line.ensures

pub put_line-requires-3 : goal.put_line-requires-3
put_line-requires-3 c =
    room_third
    _ _
    (line (held_lead ++ decimal c.args.held))
    (line (broken_lead ++ decimal c.args.broken))
    (line (calls_lead ++ decimal c.args.refused))
    (tail_split c.args.held c.args.broken c.args.refused)
    c.requires _
    c.put_line.ensures _
    c.put_line-2.ensures

pub returns : goal.returns
returns c =
    put_three
    _ _
    (line (held_lead ++ decimal c.args.held))
    (line (broken_lead ++ decimal c.args.broken))
    (line (calls_lead ++ decimal c.args.refused))
    (tail_split c.args.held c.args.broken c.args.refused)
    c.requires _
    c.put_line.ensures _
    c.put_line-2.ensures _
    c.put_line-3.ensures
