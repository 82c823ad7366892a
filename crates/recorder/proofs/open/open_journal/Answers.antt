-- `open_journal` meets its contract.
use Rattle.recorder.proofs.OpenSteps.{first_bytes, starts, opens_rest}
use Rattle.recorder.proofs.Promises.{journal_holds}
use Rattle.recorder.proofs.open.open_journal.Goals as goal

pub open_records-requires : goal.open_records-requires
open_records-requires c =
    let pre = first_bytes _ _ _ c.sheet_end-end.ensures c.read_sheet-reading.ensures c.in-Ok.is in
    record { hangs = starts _ _ pre _ c.read_sheet-reading.ensures; inside = c.sheet_end-end.ensures }

pub returns-in-Ok : goal.returns-in-Ok
returns-in-Ok c =
    let pre = first_bytes _ _ _ c.sheet_end-end.ensures c.read_sheet-reading.ensures c.in-Ok.is in
    let opened = opens_rest _ _ pre _ c.read_sheet-reading.ensures _ c.open_records.ensures in
    record { result = opened; holds = journal_holds _ _ opened }

pub returns-in-Err : goal.returns-in-Err
returns-in-Err c = record { result = c.open_other.ensures; holds = journal_holds _ _ c.open_other.ensures }
