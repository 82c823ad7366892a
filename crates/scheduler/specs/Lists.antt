-- A list of calls.
use Rattle.std.specs.Prelude.{◌+◌, ◌∷◌}
use Rattle.scheduler.specs.Prelude.{ℕ, List, [], State, Call}
use Rattle.plan.specs.Base.{one_if}
use Rattle.plan.specs.Faults.{is_turned_down}
use Rattle.scheduler.specs.Answers.{call}

-- a scheduler is any function that makes a state out of a state and a call (9.1)
abbrev pub Scheduler : Type 0
Scheduler = State → Call → State

-- the scheduler of the specification (9.1)
abbrev pub scheduler : Scheduler
scheduler s c = (call s c).state

-- the state after a list: each call is made on what the one before it left, also if that one was turned down (11.2)
unfoldable pub after : Scheduler → State → List Call → State
after step s [] = s
after step s (c ∷ cs) = after step (step s c) cs

-- how many calls of a list are turned down (13.4)
unfoldable pub turned_down : State → List Call → ℕ
turned_down s [] = 0
turned_down s (c ∷ cs) = one_if (is_turned_down (call s c).answer) + turned_down (call s c).state cs
