-- The guarantee (demand 3), for any scheduler. It is read off the plan, the calls and the history after each call. It
-- cites the rules and `Viable`, but not the search in Orders.antt and not the calls in Calls.antt.
use Rattle.std.specs.Prelude.{◌≤◌, ◌<◌, ◌&&◌, ◌||◌, ◌∷◌, ◌++◌, ◌≡◌}
use Rattle.scheduler.specs.Prelude.{ℕ, Bool, true, false, not, List, [], eqb, ltb, leb, length, get_or, drop}
use Rattle.scheduler.specs.Prelude.{Fate, Open, Held, Rule, Order, Need, Conditional, Plan, Entry, State, Call, Submit, Close, Finish, Advance}
use Rattle.plan.specs.Base.{all_below, those_below, among, tabulate}
use Rattle.plan.specs.Fates.{is_open, is_done, is_settled}
use Rattle.plan.specs.Plans.{event_count, rule_count, rule_at, forcible, rejectable, has_event}
use Rattle.plan.specs.Histories.{blank_entry, fates_in, holds}
use Rattle.scheduler.specs.State.{lines, hold}
use Rattle.scheduler.specs.Rules.{strains}
use Rattle.scheduler.specs.Orders.{Viable, has_viable}
use Rattle.scheduler.specs.Coherent.{coherent}
use Rattle.scheduler.specs.Sheet.{read_sheet, admitted}
use Rattle.scheduler.specs.Lists.{Scheduler, after}

-- a story: each call of a list, with the history after it (11.3)
abbrev pub Story : Type 0
Story = List (Call × List Entry)

-- the story of a list of calls that a scheduler makes from s on (11.3)
unfoldable pub seen : Scheduler → State → List Call → Story
seen step s [] = []
seen step s (c ∷ cs) = (c, lines (step s c)) ∷ seen step (step s c) cs

-- what a story shows so far (11.3)
pub record Observed : Type 0 where
  pub calls : List Call  -- the accepted calls, the latest first
  pub recorded : List ℕ  -- rules recorded as broken
  pub history : List Entry  -- the history after the last call

abbrev pub nothing_yet : Observed
nothing_yet = record { calls = []; recorded = []; history = [] }

-- the call submits (hands in) e (11.6)
abbrev pub submits : ℕ → Call → Bool
submits e (Submit d) = eqb e d
submits e (Close k) = false
submits e Finish = false
submits e (Advance m) = false

-- the call closes step k (11.5)
abbrev pub closes : ℕ → Call → Bool
closes k (Submit e) = false
closes k (Close j) = eqb k j
closes k Finish = false
closes k (Advance m) = false

-- the call finishes (winds up) (11.11)
abbrev pub is_finish : Call → Bool
is_finish (Submit e) = false
is_finish (Close k) = false
is_finish Finish = true
is_finish (Advance m) = false

-- some call passes the test
unfoldable pub any_call : (Call → Bool) → List Call → Bool
any_call t [] = false
any_call t (c ∷ cs) = t c || any_call t cs

-- an accepted call submitted e (11.6)
abbrev pub was_submitted : Observed → ℕ → Bool
was_submitted o e = any_call (submits e) o.calls

-- an accepted call closed step k (11.5)
abbrev pub was_closed : Observed → ℕ → Bool
was_closed o k = any_call (closes k) o.calls

-- a finish was accepted (11.11)
abbrev pub was_finished : Observed → Bool
was_finished o = any_call is_finish o.calls

-- the minute that the latest advance among the calls names; 0 if there is none. The latest call stands first (11.6)
unfoldable pub minute_after : List Call → ℕ
minute_after [] = 0
minute_after (Submit e ∷ cs) = minute_after cs
minute_after (Close k ∷ cs) = minute_after cs
minute_after (Finish ∷ cs) = minute_after cs
minute_after (Advance m ∷ cs) = m

abbrev pub waits_as : Bool → Fate
waits_as true = Held
waits_as false = Open

-- e's fate, as the history and the accepted calls show it: that of its line; without a line, held if e was submitted,
-- else open (11.6). A line that said open or held would not settle its event; `coherent_end` says that no history has
-- one
unfoldable pub observed_fate : Observed → ℕ → Fate
observed_fate o e = elim (fates_in o.history e) [ x ∷ xs ↦ x | [] ↦ waits_as (was_submitted o e) ]

-- the state that has just what was observed (11.9)
unfoldable pub state_of : Plan → Observed → State
state_of p o = record {
  plan = p;
  standings = tabulate 16 0 (λ e. record { fate = observed_fate o e });
  broken = tabulate 16 0 (λ i. among i o.recorded);
  closed = tabulate 8 0 (λ k. was_closed o k);
  history = tabulate 16 0 (λ n. get_or o.history n blank_entry);
  history_len = length o.history;
  minute = minute_after o.calls;
}

-- no test of the table applies to the call; number 12 is left out, since it never applies in a list (11.4)
unfoldable pub accepted : Plan → Observed → Call → Bool
accepted p o (Submit e) = ltb e (event_count p)
accepted p o (Close k) = has_event p k && not (was_closed o k)
accepted p o Finish = all_below 8 (λ k. not (has_event p k) || was_closed o k)
accepted p o (Advance m) = leb (minute_after o.calls) m

-- the first of the lines says that e is done (11.7)
unfoldable pub starts_done : List Entry → ℕ → Bool
starts_done [] e = false
starts_done (l ∷ ls) e = eqb l.event e && is_done l.fate

-- a submit of e, with history h after it, did e alone: e was open, it had no viable order, and the first new line says
-- that e is done (11.7). Shown right by `shown` of demand 3: the calls record exactly what is read off so. Without the
-- test for an order the scheduler of `not_orderless_alone` (theory/WorthlessClauses) would pass
unfoldable pub done_alone : Plan → Observed → ℕ → List Entry → Bool
done_alone p o e h =
    is_open (observed_fate o e)
    && starts_done (drop (length o.history) h) e
    && not (has_viable (hold (state_of p o) e) e)

-- the rules that a submit of e records as broken: if it did e alone, those that this breaks, else none (11.8). Shown
-- right by `shown` of demand 3, and by case E, where a rule is recorded
unfoldable pub newly_recorded : Plan → Observed → ℕ → List Entry → List ℕ
newly_recorded p o e h = elim (done_alone p o e h) [
  | true ↦ those_below (rule_count p) (strains (hold (state_of p o) e) e)
  | false ↦ []
]

abbrev pub recorded_by : Plan → Observed → Call → List Entry → List ℕ
recorded_by p o (Submit e) h = newly_recorded p o e h
recorded_by p o (Close k) h = []
recorded_by p o Finish h = []
recorded_by p o (Advance m) h = []

-- what is observed after an accepted call, with history h after it (11.3)
abbrev pub shows : Plan → Observed → Call → List Entry → Observed
shows p o c h = record { calls = c ∷ o.calls; recorded = recorded_by p o c h ++ o.recorded; history = h }

-- what is observed after a call that is turned down: its history alone is new (11.3)
abbrev pub only_history : Observed → List Entry → Observed
only_history o h = record { calls = o.calls; recorded = o.recorded; history = h }

unfoldable pub observe : Plan → Observed → Call → List Entry → Observed
observe p o c h = elim (accepted p o c) [ true ↦ shows p o c h | false ↦ only_history o h ]

unfoldable pub observe_all : Plan → Observed → Story → Observed
observe_all p o [] = o
observe_all p o (x ∷ xs) = observe_all p (observe p o x.0 x.1) xs

-- the rule is recorded as broken, or does not hold of the history (11.9)
unfoldable pub broken : Plan → Observed → ℕ → Bool
broken p o i = among i o.recorded || not (holds o.history (rule_at p i))

-- a protected rule, which must never be broken: an order, a rule whose triggers are all rejectable, or a conditional
-- whose c is not forcible (11.10)
unfoldable pub unbreakable : Plan → Rule → Bool
unbreakable p (Order a b) = true
unbreakable p (Need a b) = rejectable p a
unbreakable p (Conditional a b c) = (rejectable p a && rejectable p b) || not (forcible p c)

-- what must be true of what was observed and of the state after the list (11.11)
pub record Holds (p : Plan) (o : Observed) (end : State) : Type 0 where
  -- no event has more than one line in the history
  pub once : (e : ℕ) → length (fates_in o.history e) ≤ 1
  -- no protected rule is broken: no order, no rule whose triggers are all rejectable, no conditional whose c is not
  -- forcible
  pub kept : (i : ℕ) → i < rule_count p → unbreakable p (rule_at p i) ≡ true → broken p o i ≡ false
  -- a rule that is not recorded holds of the history
  pub holding : (i : ℕ) → i < rule_count p → among i o.recorded ≡ false → holds o.history (rule_at p i) ≡ true
  -- no held event has a viable order
  pub waiting : (e : ℕ) (q : List ℕ) → observed_fate o e ≡ Held → Viable (state_of p o) e q → ⊥
  -- after an accepted finish every event is settled
  pub settled : was_finished o ≡ true → (e : ℕ) → e < event_count p → is_settled (observed_fate o e) ≡ true
  -- the state after the list has what was observed, in every field
  pub shown : end ≡ state_of p o
  -- that state is coherent: number 12 does not apply to it
  pub coherent_end : coherent end ≡ true

-- h begins with g (11.11)
abbrev pub Extends : List Entry → List Entry → Type 0
Extends g h = (new : List Entry) × (h ≡ g ++ new)

-- each history of a story begins with the one before it (11.11)
abbrev pub Grows : List Entry → Story → Type 0
Grows h [] = Unit {0}
Grows h (x ∷ xs) = Extends h x.1 × Grows x.1 xs

-- the guarantee for one list: one claim about the whole story and the state after it (11.11, 11.12)
pub record Demand3 (p : Plan) (story : Story) (end : State) : Type 0 where
  pub claim : Holds p (observe_all p nothing_yet story) end
  pub grows : Grows [] story

-- the guarantee for every admitted sheet and every list (11.11)
abbrev pub Keeps : Scheduler → Type 0
Keeps step = (bytes : List ℕ) (s : State) (cs : List Call)
    → read_sheet bytes ≡ admitted s
    → Demand3 s.plan (seen step s cs) (after step s cs)
