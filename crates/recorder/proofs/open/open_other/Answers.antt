-- `open_other` meets its contract.
use Rattle.recorder.proofs.OpenSteps.{sheet_alone, sheet_followed, sheet_bad}
use Rattle.recorder.proofs.open.open_other.Goals as goal

pub returns-in-Ok : goal.returns-in-Ok
returns-in-Ok c = sheet_alone _ _ c.read_sheet-reading.ensures c.in-Ok.is

pub open_behind-requires : goal.open_behind-requires
open_behind-requires c = sheet_followed _ _ c.read_sheet-reading.ensures _ c.in-Err.is c.in-Extra.is

pub returns-in_default : goal.returns-in_default
returns-in_default c = sheet_bad _ _ c.read_sheet-reading.ensures _ c.in-Err.is c.in_default.not-Extra
