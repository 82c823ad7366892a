-- What is printed is the report: `write_report` leaves it at the start of the buffer, which has room for it.
use Rattle.std.proofs.Common.{◌≤◌, ◌≡◌, ◌∙◌, ap, ℕ, List, length, arith}
use Rattle.std.proofs.Math.Seq.{take-append_seam}
use Rattle.std.specs.Prelude.{take, drop}
use borrow.Author.Tests.{le-leb}
use Rattle.pages.specs.Filled.{filled}
use Rattle.scheduler.specs.Runner.{report}
use Rattle.files.proofs.print_run.Goals as goal

-- a buffer with room for a text begins with it, once it is written
take_filled : (t out : List ℕ) → length t ≤ length out → take (length t) (filled t out) ≡ t
unfolding filled
take_filled t out h = rw (le-leb (length t) (length out) h, filled) (take-append_seam t (drop (length t) out))

pub print_report-requires : goal.print_report-requires
print_report-requires g c =
    let w = c.write_report-n in
    let text = report c.run-outcome.result in
    ap (λ n. take n w.new.out) w.ensures.length
    ∙ ap (take (length text)) w.ensures.bytes
    ∙ take_filled text _ (omega (arith, w.ensures.length, w.ensures.short, w.auto.out))
    ∙ ap report c.run-outcome.ensures.result
