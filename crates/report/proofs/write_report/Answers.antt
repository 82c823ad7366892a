-- `write_report` meets its contract: the page has room for the report, and its text is copied.
use Rattle.std.proofs.Common.{List, ℕ, ◌++◌, length, ap, ◌∙◌, arith}
use Rattle.scheduler.specs.Runner.{report}
use Rattle.report.proofs.Bounds.{short}
use Rattle.report.proofs.write_report.Goals as goal

pub put_report-requires : goal.put_report-requires
put_report-requires c = rw c.new-page.ensures (short c.args.outcome c.well_formed.0)

pub returns-clause-short : goal.returns-clause-short
returns-clause-short c =
    let o = c.args.outcome in
    let text = c.text-text.ensures ∙ c.put_report.ensures ∙ ap (λ (l : List ℕ). l ++ report o) c.new-page.ensures in
    omega (arith, ap length text, short o c.well_formed.0)
