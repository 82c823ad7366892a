-- `put_history` meets its contract. The loop's invariant: the lines before this one are put.
use Rattle.std.proofs.Common.{List, ℕ, ◌++◌, ◌+◌, get_or, take, drop, append-nil, append_assoc, sym, ap, ◌∙◌}
use Rattle.plan.specs.Histories.{blank_entry}
use Rattle.scheduler.specs.Runner.{history_lines}
use Rattle.pages.proofs.Texts.{room_second}
use Rattle.report.specs.Internal.Texts.{entry_line}
use Rattle.report.proofs.Splits.{lines_none, lines_next, lines_split}
use Rattle.report.proofs.text.put_history.Goals as goal

pub loop-entry-init : goal.loop-entry-init
loop-entry-init c = sym (ap (λ (l : List ℕ). c.args.page.now ++ l) lines_none ∙ append-nil _)

pub put_entry-requires : goal.put_entry-requires
put_entry-requires c =
    let i = c.loop-entry.entry-index in
    room_second
    _ _
    (history_lines (take i c.args.entries.now))
    (entry_line (get_or c.args.entries.now i blank_entry))
    (history_lines (drop (i + 1) c.args.entries.now))
    (lines_split c.args.entries.now i c.loop-entry-test.true)
    c.requires _
    c.loop-entry.invariant

pub loop-entry-preserved : goal.loop-entry-preserved
loop-entry-preserved c =
    let i = c.loop-entry.entry-index in
    let entries = c.args.entries.now in
    let line = entry_line (get_or entries i blank_entry) in
    c.put_entry.ensures
    ∙ ap (λ (l : List ℕ). l ++ line) c.loop-entry.invariant
    ∙ append_assoc c.args.page.now (history_lines (take i entries)) line
    ∙ ap (λ (l : List ℕ). c.args.page.now ++ l) (sym (lines_next entries i c.loop-entry-test.true))
