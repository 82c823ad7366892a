-- An entry's turn and a kept state, as the code has them.
use Rattle.std.specs.Prelude.{ℕ, cond, List}
use Rattle.std.specs.declared.option.Option.TheVariants.{None as none, Some as some}
use Rattle.batch.specs.Types.{State, BatchEntry}
use Rattle.plan.specs.Plans.{rule_count}
use Rattle.scheduler.specs.State.{line_count}
use Rattle.scheduler.specs.Answers.{take_call}
use Rattle.image.specs.Layout.{state_in, is_image}
use Rattle.batch.specs.Batch.{asked_by, carrying, carries}

-- the state after an entry's turn, number 12 tested
unfoldable pub turn : State → BatchEntry → State
turn s e = elim (asked_by e) [ some c ↦ (take_call s c).state | none ↦ s ]

-- the entry after it
unfoldable pub turned : State → BatchEntry → BatchEntry
turned s e = elim (asked_by e) [ some c ↦ carries e (take_call s c).answer | none ↦ carrying e 2 0 ]

-- a state that fails number 12, by its number of events
abbrev pub overfull : State → State
overfull s = record {
  plan = record {
    events = s.plan.events;
    event_count = 17;
    rules = s.plan.rules;
    rule_count = rule_count s.plan;
    windows = s.plan.windows;
  };
  standings = s.standings;
  broken = s.broken;
  closed = s.closed;
  history = s.history;
  history_len = line_count s;
  minute = s.minute;
}

-- the state that bytes say; one that fails number 12 where they are no image
unfoldable pub kept_state : List ℕ → State
kept_state b = cond (is_image b) (state_in b) (overfull (state_in b))
