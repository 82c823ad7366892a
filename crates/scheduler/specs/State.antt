-- A state: how it is read, and the five ways to write it.
use Rattle.std.specs.Prelude.{◌+◌, ◌≡◌}
use Rattle.scheduler.specs.Prelude.{ℕ, Bool, true, false, cond, List, ltb, length, take, replicate, Fate, Held, Plan, Entry, State}
use Rattle.scheduler.specs.declared.state.Course.{Course}
use Rattle.plan.specs.Base.{read_at, store_at}
use Rattle.plan.specs.Fates.{Fates, fates_of, blank_standing}
use Rattle.plan.specs.Plans.{empty_plan, allowed_at, over_at}
use Rattle.plan.specs.Histories.{blank_entry}

-- the first state of a plan: every event is open, no step is closed, no rule is recorded as broken, the history is
-- empty and the minute is 0 (5.5)
abbrev pub first_state : Plan → State
first_state p = record {
  plan = p;
  standings = replicate 16 blank_standing;
  broken = replicate 16 false;
  closed = replicate 8 false;
  history = replicate 16 blank_entry;
  history_len = 0;
  minute = 0;
}

-- the first state of a plan without events and rules (5.6)
abbrev pub empty_state : State
empty_state = first_state empty_plan

-- the event's fate (5.4)
abbrev pub fate_of : State → Fates
fate_of s e = fates_of s.standings e

-- the rule is recorded as broken (5.4)
abbrev pub broken_at : State → ℕ → Bool
broken_at s i = read_at 16 s.broken i false

-- the step is closed (5.4)
abbrev pub closed_at : State → ℕ → Bool
closed_at s k = read_at 8 s.closed k false

-- the event may be done or forced now: it has no window, or the minute lies in it (2.11)
abbrev pub in_time : State → ℕ → Bool
in_time s e = allowed_at s.plan s.minute e

-- the event's window is over (2.11)
abbrev pub too_late : State → ℕ → Bool
too_late s e = over_at s.plan s.minute e

-- how many lines the history has (5.3)
abbrev pub line_count : State → ℕ
line_count s = s.history_len

-- the history, oldest line first (5.3)
abbrev pub lines : State → List Entry
lines s = take (line_count s) s.history

-- the first of the five ways to write a state: an event becomes held (5.7)
unfoldable pub hold : State → ℕ → State
hold s e = record {
  plan = s.plan;
  standings = store_at 16 s.standings e (record { fate = Held });
  broken = s.broken;
  closed = s.closed;
  history = s.history;
  history_len = line_count s;
  minute = s.minute;
}

-- an event is settled: its fate is written and its line is added to the history (5.7). The line count stops at 16. That
-- stop is never reached: `len_then` in theory/HistoryInvariant says that settling an unsettled event adds exactly one
-- line
unfoldable pub settle_as : Fate → State → ℕ → State
settle_as x s e = record {
  plan = s.plan;
  standings = store_at 16 s.standings e (record { fate = x });
  broken = s.broken;
  closed = s.closed;
  history = store_at 16 s.history (line_count s) (record { event = e; fate = x });
  history_len = cond (ltb (line_count s) 16) (line_count s + 1) (line_count s);
  minute = s.minute;
}

-- a step is closed (5.7)
unfoldable pub shut : State → ℕ → State
shut s k = record {
  plan = s.plan;
  standings = s.standings;
  broken = s.broken;
  closed = store_at 8 s.closed k true;
  history = s.history;
  history_len = line_count s;
  minute = s.minute;
}

-- a rule is recorded as broken (5.7)
unfoldable pub break_rule : State → ℕ → State
break_rule s i = record {
  plan = s.plan;
  standings = s.standings;
  broken = store_at 16 s.broken i true;
  closed = s.closed;
  history = s.history;
  history_len = line_count s;
  minute = s.minute;
}

-- the minute is moved (5.7)
unfoldable pub set_minute : State → ℕ → State
set_minute s m = record {
  plan = s.plan;
  standings = s.standings;
  broken = s.broken;
  closed = s.closed;
  history = s.history;
  history_len = line_count s;
  minute = m;
}

-- the part of a state that calls change: all but its plan (5.7)
abbrev pub course_of : State → Course
course_of s = record {
  standings = s.standings;
  broken = s.broken;
  closed = s.closed;
  history = s.history;
  history_len = line_count s;
  minute = s.minute;
}

-- the same plan, with another such part (5.7)
abbrev pub with_course : State → Course → State
with_course s c = record {
  plan = s.plan;
  standings = c.standings;
  broken = c.broken;
  closed = c.closed;
  history = c.history;
  history_len = c.history_len;
  minute = c.minute;
}

-- every array has its length, as in every state that code can hold (5.4)
pub record Sized (s : State) : Type 0 where
  pub standings_len : length s.standings ≡ 16
  pub broken_len : length s.broken ≡ 16
  pub closed_len : length s.closed ≡ 8
  pub history_len : length s.history ≡ 16
