-- `read_sheet` meets its contract.
use Rattle.std.proofs.Common.{◌∙◌, ap}
use Rattle.sheet.specs.Internal.Progress.{reading_of}
use Rattle.sheet.proofs.Reading.{reading_lem}
use Rattle.sheet.proofs.read.read_sheet.Goals as goal

pub returns-in-Ok : goal.returns-in-Ok
returns-in-Ok c = rw c.first_state.ensures (ap reading_of c.in-Ok.ensures ∙ reading_lem c.args.sheet.now)

pub returns-in-Err : goal.returns-in-Err
returns-in-Err c = rw (c.first_state-in-Err.ensures, c.empty_plan.ensures) (ap reading_of c.in-Err.ensures ∙ reading_lem c.args.sheet.now)
