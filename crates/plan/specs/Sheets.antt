-- Reading the plan of a sheet.
use Rattle.std.specs.Prelude.{◌+◌}
use Rattle.plan.specs.Prelude.{ℕ, zero, suc, true, false, List, none, some, eqb, ltb, get_or, length, Plan, SheetFault, Cut, Extra}
use Rattle.plan.specs.Plans.{empty_plan}
use Rattle.plan.specs.Records.{body_length, record_at, declare, record_fault}

-- a plan and the offset after its record of kind 5, or the first fault and its offset (3.4, 4.1)
pub data PlanReading : Type 0 where
  whole : Plan → ℕ → PlanReading
  faulty : SheetFault → ℕ → PlanReading

-- reads record after record from an offset on, up to kind 5 or the first fault. It reads at most n records; `read_plan`
-- allows enough (3.3, 4.1)
unfoldable pub read_from : ℕ → List ℕ → ℕ → Plan → PlanReading
read_from zero b at p = faulty Cut at
read_from (suc n) b at p = elim (record_fault p (length b) at (record_at b at)) [
  | some f ↦ faulty f at
  | none ↦ elim (eqb (get_or b at 0) 5) [
    | true ↦ whole p (at + 1)
    | false ↦ read_from n b (at + 1 + body_length (get_or b at 0)) (declare p (record_at b at))
  ]
]

unfoldable pub read_plan : List ℕ → PlanReading
read_plan b = read_from (length b + 1) b 0 empty_plan

-- nothing may follow a plan in its sheet: a byte after kind 5 is a fault, at the offset of that byte (4.2)
unfoldable pub ending : List ℕ → PlanReading → PlanReading
ending b (whole p at) = elim (ltb at (length b)) [ true ↦ faulty Extra at | false ↦ whole p at ]
ending b (faulty f at) = faulty f at

unfoldable pub sheet_plan : List ℕ → PlanReading
sheet_plan b = ending b (read_plan b)
