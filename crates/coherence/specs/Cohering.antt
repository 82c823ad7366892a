-- Number 12 of the parts of a state: a plan, the fates of its events, which rules are recorded as broken and which steps
-- are closed, and a history with its length.
use Rattle.std.specs.Prelude.{◌&&◌, ◌||◌}
use Rattle.coherence.specs.Prelude.{ℕ, Bool, false, not, List, eqb, ltb, leb, Rule, Order, Need, Conditional, Window, Plan, Entry}
use Rattle.plan.specs.Base.{all_below, read_at}
use Rattle.plan.specs.Fates.{Fates, is_open, is_held, is_settled}
use Rattle.plan.specs.Plans.{event_count, rule_count, step_of, rule_at, holds_bit, forcible, delayable}
use Rattle.plan.specs.Rules.{sound_event, sound_rule, sound_windows, unstoppable, owes}
use Rattle.plan.specs.Histories.{done_in, holds, declared_only, listed_as}

-- a sheet could declare the event, the history lists it as its fate asks for, it may wait if it is held, and its step is
-- not closed if it is open (10.4)
unfoldable pub event_coheres : Plan → Fates → List Bool → List Entry → ℕ → Bool
event_coheres p f closed h e =
    sound_event p e
    && listed_as h e (f e)
    && not (is_held (f e) && not (delayable p e))
    && not (is_open (f e) && read_at 8 closed (step_of p e) false)

abbrev pub events_cohere : Plan → Fates → List Bool → List Entry → Bool
events_cohere p f closed h = all_below (event_count p) (event_coheres p f closed h)

-- a sheet could declare the rule, and it is recorded as broken, or owes nothing and holds (10.4, 10.5)
unfoldable pub rule_coheres : Plan → Fates → List Bool → List Entry → ℕ → Bool
rule_coheres p f broken h i =
    sound_rule p i
    && (read_at 16 broken i false
    || (not (owes p f (rule_at p i)) && holds h (rule_at p i)))

abbrev pub rules_cohere : Plan → Fates → List Bool → List Entry → Bool
rules_cohere p f broken h = all_below (rule_count p) (rule_coheres p f broken h)

-- a conditional owes because of a trigger that nothing can stop: the other one is done, and c is neither forcible nor
-- settled (6.10)
unfoldable pub awaits : Plan → Fates → List Entry → Rule → Bool
awaits p f h (Order a b) = false
awaits p f h (Need a b) = false
awaits p f h (Conditional a b c) =
    ((done_in h a && unstoppable p f b) || (done_in h b && unstoppable p f a))
    && not (forcible p c)
    && not (is_settled (f c))

-- no window, or one of a declared event with these attributes that a sheet could give it (10.4)
unfoldable pub right_as : Bool → ℕ → Window → Bool
right_as declared a w =
    (eqb w.from 0 && eqb w.until 0)
    || (declared && holds_bit 4 a && ltb w.from w.until)

-- number 12 does not apply to these parts (10.4, 10.5)
unfoldable pub coheres : Plan → Fates → List Bool → List Bool → List Entry → ℕ → Bool
coheres p f broken closed h len =
    leb (event_count p) 16
    && leb (rule_count p) 16
    && leb len 16
    && declared_only h (event_count p)
    && events_cohere p f closed h
    && rules_cohere p f broken h
    && sound_windows p
