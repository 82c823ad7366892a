-- What the functions below `read_sheet` answer, over the definitions of `plan` and `scheduler`.
use Rattle.std.specs.Prelude.{ℕ, ◌≡◌, ◌+◌, Bool, List, length, not, ◌&&◌, ◌||◌, [], ◌∷◌, eqb, ltb, Option, None as none, Some as some, Result, Ok, Err}
use Rattle.plan.specs.Plans.{event_count, rule_count}
use Rattle.plan.specs.Rules.{bad_step, bad_attributes, bad_window, named, enforceable}
use Rattle.plan.specs.Faults.{first_fault, refusal}
use Rattle.plan.specs.Records.{new_events, new_rules, is_rule, rule_of, record_at, record_fault}
use Rattle.plan.specs.Sheets.{PlanReading, whole, faulty}
use Rattle.scheduler.specs.State.{first_state, empty_state}
use Rattle.sheet.specs.Types.{Rule, Plan, Record, SheetFault, BadStep, BadAttributes, BadNames, Unenforceable, BadWindow, Refusal, Reading, Kind}
use Rattle.sheet.specs.Internal.Records.{number_of}

-- row 3
abbrev pub is_full : Plan → ℕ → Bool
is_full p k = ltb 16 (event_count p + new_events k) || ltb 16 (rule_count p + new_rules k)

-- the rows from 4 on, and those of a record of kind 6, of kind 1, of a rule and of a window
abbrev pub body_fault : Plan → Record → Option SheetFault
body_fault p r =
    first_fault (
    ((eqb r.kind 1 || eqb r.kind 6) && bad_step r.x, BadStep)
    ∷ (eqb r.kind 1 && bad_attributes r.y, BadAttributes)
    ∷ (is_rule r.kind && not (named (event_count p) (rule_of r)), BadNames)
    ∷ (is_rule r.kind && not (enforceable p (rule_of r)), Unenforceable)
    ∷ (eqb r.kind 7 && bad_window p r.x r.from r.until, BadWindow)
    ∷ [])

abbrev pub step_fault : ℕ → Option SheetFault
step_fault k = first_fault ((bad_step k, BadStep) ∷ [])

abbrev pub event_fault : ℕ → ℕ → Option SheetFault
event_fault k a = first_fault ((bad_step k, BadStep) ∷ (bad_attributes a, BadAttributes) ∷ [])

abbrev pub rule_fault : Plan → Rule → Option SheetFault
rule_fault p r =
    first_fault ((not (named (event_count p) r), BadNames) ∷ (not (enforceable p r), Unenforceable) ∷ [])

abbrev pub window_fault : Plan → Record → Option SheetFault
window_fault p r = first_fault ((bad_window p r.x r.from r.until, BadWindow) ∷ [])

-- a check's answer: the first fault, or none
abbrev pub check_of : Option SheetFault → Result Unit SheetFault
check_of none = Ok tt
check_of (some f) = Err f

-- what a sheet declares, or why it is turned down
abbrev pub plan_of : PlanReading → Result Plan Refusal
plan_of (whole p at) = Ok p
plan_of (faulty f at) = Err (refusal f at)

-- the record at an offset has no fault, and is of this kind; or it turns the sheet down
pub record IsFine (p : Plan) (b : List ℕ) (at : ℕ) (k : Kind) (r : Record) : Type 0 where
  pub read : r ≡ record_at b at
  pub kind : number_of k ≡ r.kind
  pub fine : record_fault p (length b) at r ≡ none

pub record IsFaulty (p : Plan) (b : List ℕ) (at : ℕ) (e : Refusal) : Type 0 where
  pub place : e.at ≡ at
  pub fault : record_fault p (length b) at (record_at b at) ≡ some e.fault

-- an admitted sheet gives its first state, a sheet turned down the empty state
abbrev pub reading_of : Result Plan Refusal → Reading
reading_of (Ok p) = record { verdict = Ok tt; state = first_state p }
reading_of (Err e) = record { verdict = Err e; state = empty_state }
