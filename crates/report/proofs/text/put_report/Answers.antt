-- `put_report` meets its contract.
use Rattle.report.proofs.Splits.{report_admitted, report_refused}
use Rattle.report.proofs.text.put_report.Goals as goal

pub put_state-requires : goal.put_state-requires
put_state-requires c = rw (report_admitted c.args.outcome c.in-Ok.is) at c.requires

pub put_refusal-requires : goal.put_refusal-requires
put_refusal-requires c = rw (report_refused c.args.outcome _ c.in-Err.is) at c.requires

pub returns-in-Ok : goal.returns-in-Ok
returns-in-Ok c = rw (report_admitted c.args.outcome c.in-Ok.is) c.put_state.ensures

pub returns-in-Err : goal.returns-in-Err
returns-in-Err c = rw (report_refused c.args.outcome _ c.in-Err.is) c.put_refusal.ensures
