-- `read_plan` meets its contract. A turn of the loop ends the reading, or declares the record and moves past it.
use Rattle.std.proofs.Common.{rules}
use Rattle.std.proofs.lemmas.Result.{err_from_is_err_and}
use Rattle.sheet.proofs.Reading.{begins, stops, sound, ends_whole, ends_early, less, again}
use Rattle.sheet.proofs.read.read_plan.Goals as goal

pub loop-kind-init : goal.loop-kind-init
loop-kind-init c = rw (c.new-reader.ensures, c.empty_plan-plan.ensures) (begins c.args.sheet)

pub returns-in_err-kind : goal.returns-in_err-kind
returns-in_err-kind c =
    let p = err_from_is_err_and c.from_residual.result c.from_residual.ensures.1 in
    rw (p.1, p.2) (stops c.loop-kind.invariant _ c.in_err-kind.ensures.faulty)

pub declare-requires-clause-events : goal.declare-requires-clause-events
declare-requires-clause-events c = (sound c.loop-kind.invariant c.in_ok-kind.ensures.fine).events

pub declare-requires-clause-rules : goal.declare-requires-clause-rules
declare-requires-clause-rules c = (sound c.loop-kind.invariant c.in_ok-kind.ensures.fine).rules

pub loop-kind-smaller : goal.loop-kind-smaller
loop-kind-smaller c = less c.loop-kind.invariant c.in_ok-kind.ensures.fine c.move_past.ensures

pub loop-kind-preserved : goal.loop-kind-preserved
loop-kind-preserved c =
    again c.loop-kind.invariant c.in_ok-kind.ensures.fine c.move_past.ensures c.declare.ensures (search rules)

pub returns-then-reader-sheet : goal.returns-then-reader-sheet
returns-then-reader-sheet c = ends_early c.loop-kind.invariant c.in_ok-kind.ensures.fine (search rules) c.if-reader-sheet.true

pub returns : goal.returns
returns c = ends_whole c.loop-kind.invariant c.in_ok-kind.ensures.fine (search rules) c.if-reader-sheet.false
