-- What the readers of a state answer. An event, a rule or a line is declared if its number is below its count and below
-- 16, a step if it is at most 7. An undeclared number is answered with None, which is not "open".
use Rattle.std.specs.Prelude.{ℕ, Bool, ◌&&◌, Option, Some, None, if◌then◌else◌, ltb}
use Rattle.plan.specs.Base.{read_at}
use Rattle.plan.specs.Plans.{event_count, rule_count, event_at, rule_at}
use Rattle.plan.specs.Histories.{blank_entry}
use Rattle.scheduler.specs.State.{line_count, fate_of, closed_at, broken_at}
use Rattle.scheduler.specs.declared.state.State.{State}
use Rattle.plan.specs.declared.event.Event.{Event}
use Rattle.plan.specs.declared.fate.Fate.{Fate}
use Rattle.plan.specs.declared.history.Entry.{Entry}
use Rattle.plan.specs.declared.rule.Rule.{Rule}

-- i is below the count n and below 16 (5.8)
abbrev pub declared_below : ℕ → ℕ → Bool
declared_below n i = ltb i n && ltb i 16

-- an event's fate (5.8)
unfoldable pub fate_read : State → ℕ → Option Fate
fate_read s e = if declared_below (event_count s.plan) e then Some (fate_of s e) else None

-- an event's step and attributes (5.8)
unfoldable pub event_read : State → ℕ → Option Event
event_read s e = if declared_below (event_count s.plan) e then Some (event_at s.plan e) else None

-- a rule (5.8)
unfoldable pub rule_read : State → ℕ → Option Rule
rule_read s i = if declared_below (rule_count s.plan) i then Some (rule_at s.plan i) else None

-- a line of the history (5.8)
unfoldable pub line_read : State → ℕ → Option Entry
line_read s n = if declared_below (line_count s) n then Some (read_at 16 s.history n blank_entry) else None

-- whether a step is closed (5.8)
unfoldable pub closed_read : State → ℕ → Option Bool
closed_read s k = if ltb k 8 then Some (closed_at s k) else None

-- whether a rule is recorded as broken (5.8)
unfoldable pub broken_read : State → ℕ → Option Bool
broken_read s i = if declared_below (rule_count s.plan) i then Some (broken_at s i) else None
