-- Reading a sheet.
use Rattle.scheduler.specs.Prelude.{ℕ, List, State, SheetFault, Ok, Err, Reading}
use Rattle.plan.specs.Faults.{refusal}
use Rattle.plan.specs.Sheets.{whole, faulty, sheet_plan}
use Rattle.scheduler.specs.State.{first_state, empty_state}

abbrev pub admitted : State → Reading
admitted s = record { verdict = Ok tt; state = s }

abbrev pub not_admitted : SheetFault → ℕ → Reading
not_admitted f at = record { verdict = Err (refusal f at); state = empty_state }

-- a sheet is admitted with its first state, or turned down with the fault, its offset and the empty state (3.4, 4.1)
unfoldable pub read_sheet : List ℕ → Reading
read_sheet b = elim (sheet_plan b) [ whole p at ↦ admitted (first_state p) | faulty f at ↦ not_admitted f at ]
