-- `put_state` meets its contract.
use Rattle.std.proofs.Common.{◌++◌, take, refl, rules}
use Rattle.plan.specs.Plans.{event_count, rule_count}
use Rattle.scheduler.specs.State.{lines}
use Rattle.scheduler.specs.Runner.{held_count, broken_count, history_lines}
use Rattle.report.specs.Internal.Texts.{head, tail}
use Rattle.pages.proofs.Texts.{room_first, room_second, room_third, put_three}
use Rattle.report.proofs.Splits.{state_split, state_found}
use Rattle.report.proofs.text.put_state.Goals as goal

pub put_head-requires : goal.put_head-requires
put_head-requires c =
    let s = c.args.state in
    room_first
    _ _
    (head (event_count s.plan) (rule_count s.plan))
    (history_lines (lines s) ++ tail (held_count s) (broken_count s) c.args.refused)
    (state_split s c.args.refused)
    c.requires

pub put_history-requires : goal.put_history-requires
put_history-requires c =
    let s = c.args.state in
    room_second
    _ _
    (head (event_count s.plan) (rule_count s.plan))
    (history_lines (take c.lines_in-lines.result s.history))
    (tail (held_count s) (broken_count s) c.args.refused)
    (state_found s c.args.refused _ _ _ c.lines_in-lines.ensures (search rules) refl refl)
    c.requires _
    c.put_head.ensures

pub put_tail-requires : goal.put_tail-requires
put_tail-requires c =
    let s = c.args.state in
    let few = c.lines_in-lines.ensures in
    let held = c.held_count-held.ensures in
    let broken = c.broken_count-broken.ensures in
    room_third
    _ _
    (head (event_count s.plan) (rule_count s.plan))
    (history_lines (take c.lines_in-lines.result s.history))
    (tail c.held_count-held.result c.broken_count-broken.result c.args.refused)
    (state_found s c.args.refused _ _ _ few (search rules) held broken)
    c.requires _
    c.put_head.ensures _
    c.put_history.ensures

pub returns : goal.returns
returns c =
    let s = c.args.state in
    let few = c.lines_in-lines.ensures in
    let held = c.held_count-held.ensures in
    let broken = c.broken_count-broken.ensures in
    put_three
    _ _
    (head (event_count s.plan) (rule_count s.plan))
    (history_lines (take c.lines_in-lines.result s.history))
    (tail c.held_count-held.result c.broken_count-broken.result c.args.refused)
    (state_found s c.args.refused _ _ _ few (search rules) held broken)
    c.requires _
    c.put_head.ensures _
    c.put_history.ensures _
    c.put_tail.ensures
