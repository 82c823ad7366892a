-- Rows of what the readers answer, by computation.
use mathlib.Core.List.{[], ◌∷◌, map}
use mathlib.Core.Path.{◌≡◌, refl}
use Rattle.std.specs.Prelude.{true, false, Some, None}
use Rattle.plan.specs.declared.fate.Fate.TheVariants.{Open, Done, Lapsed}
use Rattle.plan.specs.declared.rule.Rule.TheVariants.{Need}
use Rattle.plan.specs.declared.plan.Plan.{Plan}
use Rattle.plan.specs.Plans.{empty_plan}
use Rattle.plan.specs.Records.{add_event, add_rule}
use Rattle.scheduler.specs.declared.state.State.{State}
use Rattle.scheduler.specs.State.{first_state, settle_as, shut, break_rule}
use Rattle.readers.specs.Readers.{fate_read, event_read, rule_read, line_read, closed_read, broken_read}

-- the plan of cases D and E, and the state after E
abbrev plan_d : Plan
plan_d = add_rule (add_event (add_event empty_plan 0 1) 1 1) (Need 0 1)

abbrev after_e : State
after_e = break_rule (settle_as Done (settle_as Lapsed (shut (first_state plan_d) 1) 1) 0) 0

-- a plan whose count of events is past its limit
abbrev too_many : Plan
too_many = record { events = empty_plan.events; event_count = 17; rules = empty_plan.rules; rule_count = 0; windows = empty_plan.windows }

-- declared numbers, and undeclared ones; and an event past the limit of a count that is past it
pub readings :
    (map (fate_read after_e) (0 ∷ 1 ∷ 2 ∷ []) ≡ Some Done ∷ Some Lapsed ∷ None ∷ [])
    × (map (event_read after_e) (1 ∷ 2 ∷ []) ≡ Some (record { step = 1; attributes = 1 }) ∷ None ∷ [])
    × (map (rule_read after_e) (0 ∷ 1 ∷ []) ≡ Some (Need 0 1) ∷ None ∷ [])
    × (map (line_read after_e) (0 ∷ 2 ∷ []) ≡ Some (record { event = 1; fate = Lapsed }) ∷ None ∷ [])
    × (map (closed_read after_e) (0 ∷ 1 ∷ 7 ∷ 8 ∷ []) ≡ Some false ∷ Some true ∷ Some false ∷ None ∷ [])
    × (map (broken_read after_e) (0 ∷ 1 ∷ []) ≡ Some true ∷ None ∷ [])
    × (map (fate_read (first_state too_many)) (15 ∷ 16 ∷ []) ≡ Some Open ∷ None ∷ [])
unfolding add_event add_rule shut settle_as break_rule fate_read event_read rule_read line_read closed_read broken_read
readings = (refl, refl, refl, refl, refl, refl, refl)
