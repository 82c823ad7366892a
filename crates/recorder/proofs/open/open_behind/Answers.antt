-- `open_behind` meets its contract.
use mathlib.Core.Path.{sym}
use lib.Seq.{length-take-le}
use Rattle.recorder.proofs.OpenSteps.{end_fits, starts, opens_rest}
use Rattle.recorder.proofs.open.open_behind.Goals as goal

pub slice_bounds-read_sheet-end : goal.slice_bounds-read_sheet-end
slice_bounds-read_sheet-end c = sym (length-take-le _ _ (end_fits _ _ c.requires))

pub open_records-requires : goal.open_records-requires
open_records-requires c = record {
  hangs = starts _ _ c.requires _ c.read_sheet.ensures;
  inside = end_fits _ _ c.requires;
}

pub returns : goal.returns
returns c = opens_rest _ _ c.requires _ c.read_sheet.ensures _ c.open_records.ensures
