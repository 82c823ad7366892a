-- When a state is coherent. On a state that is not, every call is turned down with number 12.
use Rattle.std.specs.Prelude.{◌&&◌, ◌||◌}
use Rattle.scheduler.specs.Prelude.{ℕ, Bool, not, leb, State}
use Rattle.plan.specs.Base.{all_below}
use Rattle.plan.specs.Fates.{is_open, is_held}
use Rattle.plan.specs.Plans.{event_count, rule_count, step_of, rule_at, delayable}
use Rattle.plan.specs.Rules.{sound_event, sound_rule, sound_windows, owes}
use Rattle.plan.specs.Histories.{holds, declared_only, listed_as}
use Rattle.scheduler.specs.State.{fate_of, broken_at, closed_at, line_count, lines}

-- what coherence asks of an event (10.4)
unfoldable pub coherent_event : State → ℕ → Bool
coherent_event s e =
    sound_event s.plan e
    && listed_as (lines s) e (fate_of s e)
    && not (is_held (fate_of s e) && not (delayable s.plan e))
    && not (is_open (fate_of s e) && closed_at s (step_of s.plan e))

-- what coherence asks of a rule: it is sound; and unless it is recorded as broken, it does not owe and holds of the
-- history (10.4)
unfoldable pub coherent_rule : State → ℕ → Bool
coherent_rule s i =
    sound_rule s.plan i
    && (broken_at s i
    || (not (owes s.plan (fate_of s) (rule_at s.plan i)) && holds (lines s) (rule_at s.plan i)))

-- the state is coherent: number 12 does not apply. The counts are within their limits. A sheet could declare the
-- events, rules and windows. The history lists each settled event once, and nothing else. No event is held that cannot
-- wait. No event of a closed step is open. Each rule that stands does not owe, and holds of the history (10.4, 10.5)
unfoldable pub coherent : State → Bool
coherent s =
    leb (event_count s.plan) 16
    && leb (rule_count s.plan) 16
    && leb (line_count s) 16
    && declared_only (lines s) (event_count s.plan)
    && all_below (event_count s.plan) (coherent_event s)
    && all_below (rule_count s.plan) (coherent_rule s)
    && sound_windows s.plan
