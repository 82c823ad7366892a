-- Rules: which of them a sheet may declare, and what they forbid and owe, by the plan and the fates of its events.
use Rattle.std.specs.Prelude.{◌&&◌, ◌||◌}
use Rattle.plan.specs.Prelude.{ℕ, Bool, false, not, eqb, ltb, leb, Rule, Order, Need, Conditional, Plan}
use Rattle.plan.specs.Base.{all_below}
use Rattle.plan.specs.Fates.{Fates, is_open, is_held, is_done, is_gone, is_settled}
use Rattle.plan.specs.Plans.{event_count, step_of, attributes_of, from_of, until_of, has_window, rule_at, holds_bit, forcible, rejectable, delayable}

-- no step has this number (2.2, 4.2)
abbrev pub bad_step : ℕ → Bool
bad_step k = ltb 7 k

-- no event may have these attributes: the sum is above 7, or the event would be delayable and not rejectable (2.4, 4.2)
abbrev pub bad_attributes : ℕ → Bool
bad_attributes a = ltb 7 a || (holds_bit 4 a && not (holds_bit 2 a))

-- the rule names declared events only, those below n, and none twice (2.6)
unfoldable pub named : ℕ → Rule → Bool
named n (Order a b) = ltb a n && ltb b n && not (eqb a b)
named n (Need a b) = ltb a n && ltb b n && not (eqb a b)
named n (Conditional a b c) =
    ltb a n && ltb b n && ltb c n
    && not (eqb a b) && not (eqb a c) && not (eqb b c)

-- the attributes allow a way to keep the rule: an order by letting b wait or refusing a, a need by refusing a or
-- forcing b, a conditional by refusing a trigger or forcing c (2.8)
unfoldable pub enforceable : Plan → Rule → Bool
enforceable p (Order a b) = delayable p b || rejectable p a
enforceable p (Need a b) = rejectable p a || forcible p b
enforceable p (Conditional a b c) = rejectable p a || rejectable p b || forcible p c

-- a sheet could declare the event (10.4)
unfoldable pub sound_event : Plan → ℕ → Bool
sound_event p e = not (bad_step (step_of p e)) && not (bad_attributes (attributes_of p e))

-- a sheet could declare the rule (10.4)
unfoldable pub sound_rule : Plan → ℕ → Bool
sound_rule p i = named (event_count p) (rule_at p i) && enforceable p (rule_at p i)

-- a sheet may not give e this window: e is not declared, not delayable or has a window already, or `until` is not above
-- `from` (2.10, 4.2)
unfoldable pub bad_window : Plan → ℕ → ℕ → ℕ → Bool
bad_window p e from until = leb (event_count p) e || not (delayable p e) || has_window p e || leb until from

-- e's place holds no window, or one that a sheet could give e (10.4)
unfoldable pub sound_window : Plan → ℕ → Bool
sound_window p e =
    (eqb (from_of p e) 0 && eqb (until_of p e) 0)
    || (ltb e (event_count p) && delayable p e && ltb (from_of p e) (until_of p e))

-- this is so of each of the 16 places (10.4)
unfoldable pub sound_windows : Plan → Bool
sound_windows p = all_below 16 (sound_window p)

-- nothing can stop t: it is open, and neither rejectable nor delayable (6.9)
unfoldable pub unstoppable : Plan → Fates → ℕ → Bool
unstoppable p f t = is_open (f t) && not (rejectable p t) && not (delayable p t)

-- to a conditional with this c the trigger t counts as done: it is done; or it is open and unstoppable, and c is not
-- forcible (6.9). Shown right by the rows `stopping`; `plain` in theory/Waiting says that nothing else counts
unfoldable pub reckoned : Plan → Fates → ℕ → ℕ → Bool
reckoned p f c t = is_done (f t) || (unstoppable p f t && not (forcible p c))

-- one of a and b is done, and the other counts as done (6.7, 6.10). Shown right by the rows `owing` and `awaiting`, and
-- by `plain`: where neither trigger is unstoppable, both have to be done
unfoldable pub triggered : Plan → Fates → ℕ → ℕ → ℕ → Bool
triggered p f c a b = (is_done (f a) && reckoned p f c b) || (is_done (f b) && reckoned p f c a)

-- the rule forbids e for good: an order its a, if b is done; a need its a, if b has been refused or has lapsed; a
-- conditional one trigger, if the other counts as done and c has been refused or has lapsed (6.2, 6.6, 6.11)
unfoldable pub bars : Plan → Fates → Rule → ℕ → Bool
bars p f (Order a b) e = eqb e a && is_done (f b)
bars p f (Need a b) e = eqb e a && is_gone (f b)
bars p f (Conditional a b c) e =
    is_gone (f c)
    && ((eqb e a && reckoned p f c b) || (eqb e b && reckoned p f c a))

-- the rule makes e wait for now: e is the b of an order and delayable, and a is not settled (6.2, 6.5)
unfoldable pub makes_wait : Plan → Fates → Rule → ℕ → Bool
makes_wait p f (Order a b) e = eqb e b && delayable p b && not (is_settled (f a))
makes_wait p f (Need a b) e = false
makes_wait p f (Conditional a b c) e = false

-- the rule forbids e, for good or for now (6.4)
unfoldable pub forbids : Plan → Fates → Rule → ℕ → Bool
forbids p f r e = bars p f r e || makes_wait p f r e

-- the rule owes an event that is not settled: a need its b, if a is done; a conditional its c, if `triggered` says so
-- (6.3, 6.7, 6.10)
unfoldable pub owes : Plan → Fates → Rule → Bool
owes p f (Order a b) = false
owes p f (Need a b) = is_done (f a) && not (is_settled (f b))
owes p f (Conditional a b c) = triggered p f c a b && not (is_settled (f c))

-- e is ready: it is held, or it is open and forcible (7.2)
unfoldable pub ready : Plan → Fates → ℕ → Bool
ready p f e = is_held (f e) || (is_open (f e) && forcible p e)
