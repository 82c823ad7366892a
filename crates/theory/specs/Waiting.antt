-- A conditional can make one of its triggers wait for its c: which rules do, what they keep meanwhile, when the wait
-- ends, and what a rule says if there is no wait.
use Rattle.std.specs.Prelude.{ℕ, ◌<◌, Bool, true, false, not, ◌&&◌, ◌||◌, List, ◌⊎◌, ◌≡◌, eqb}
use Rattle.plan.specs.declared.fate.Fate.TheVariants.{Open}
use Rattle.plan.specs.declared.rule.Rule.{Rule}
use Rattle.plan.specs.declared.rule.Rule.TheVariants.{Order, Need, Conditional}
use Rattle.plan.specs.declared.plan.Plan.{Plan}
use Rattle.plan.specs.declared.calls.Call.{Call}
use Rattle.scheduler.specs.declared.state.State.{State}
use Rattle.plan.specs.Fates.{Fates, is_done, is_gone, is_settled}
use Rattle.plan.specs.Plans.{rule_count, rule_at, forcible, rejectable, delayable}
use Rattle.plan.specs.Rules.{unstoppable, bars, owes}
use Rattle.scheduler.specs.State.{fate_of, Sized}
use Rattle.scheduler.specs.Coherent.{coherent}
use Rattle.scheduler.specs.Sheet.{read_sheet, admitted}
use Rattle.scheduler.specs.Lists.{Scheduler, after}
use Rattle.scheduler.specs.Demand.{seen, nothing_yet, observe_all, broken}

-- a conditional of the plan: one of its triggers, t, is neither rejectable nor delayable, o is the other one, and c is
-- not forcible (6.9)
pub record Awaits (p : Plan) (o t c : ℕ) : Type 0 where
  pub place : ℕ
  pub within : place < rule_count p
  pub is : (rule_at p place ≡ Conditional o t c) ⊎ (rule_at p place ≡ Conditional t o c)
  pub unrefusable : rejectable p t ≡ false
  pub undelayable : delayable p t ≡ false
  pub unforcible : forcible p c ≡ false

-- for each such conditional: if o is done while t is open, c is done (11.20)
abbrev pub Provided : Plan → State → Type 0
Provided p s = (o t c : ℕ)
    → Awaits p o t c
    → fate_of s t ≡ Open
    → is_done (fate_of s o) ≡ true
    → is_done (fate_of s c) ≡ true

-- this is so after every list on every admitted sheet (11.20)
abbrev pub Provides : Scheduler → Type 0
Provides step = (bytes : List ℕ) (s : State) (cs : List Call)
    → read_sheet bytes ≡ admitted s
    → Provided s.plan (after step s cs)

-- the guarantee (demand 3) for conditionals: a broken one has a forcible c and a trigger that is not rejectable (11.10)
abbrev pub BreaksOnly : Scheduler → Type 0
BreaksOnly step = (bytes : List ℕ) (s : State) (cs : List Call) (i a b c : ℕ)
    → read_sheet bytes ≡ admitted s
    → i < rule_count s.plan
    → rule_at s.plan i ≡ Conditional a b c
    → broken s.plan (observe_all s.plan nothing_yet (seen step s cs)) i ≡ true
    → (forcible s.plan c ≡ true) × ((rejectable s.plan a && rejectable s.plan b) ≡ false)

-- what a rule forbids for good, by the events that are done, refused or lapsed and nothing else (6.12)
unfoldable pub plain_bars : Fates → Rule → ℕ → Bool
plain_bars f (Order a b) e = eqb e a && is_done (f b)
plain_bars f (Need a b) e = eqb e a && is_gone (f b)
plain_bars f (Conditional a b c) e =
    is_gone (f c)
    && ((eqb e a && is_done (f b)) || (eqb e b && is_done (f a)))

-- when a rule owes, by the same events (6.12)
unfoldable pub plain_owes : Fates → Rule → Bool
plain_owes f (Order a b) = false
plain_owes f (Need a b) = is_done (f a) && not (is_settled (f b))
plain_owes f (Conditional a b c) = is_done (f a) && is_done (f b) && not (is_settled (f c))

-- the rule forbids for good and owes exactly that (6.12)
pub record Plain (p : Plan) (f : Fates) (r : Rule) : Type 0 where
  pub same_bars : (e : ℕ) → bars p f r e ≡ plain_bars f r e
  pub same_owes : owes p f r ≡ plain_owes f r

-- no trigger waits for c: the rule is an order or a need, its c is forcible, or neither of its triggers is unstoppable
-- (6.12)
pub data Unwaiting (p : Plan) (f : Fates) : Rule → Type 0 where
  of_order : {a b : ℕ} → Unwaiting p f (Order a b)
  of_need : {a b : ℕ} → Unwaiting p f (Need a b)
  forcible_c : {a b c : ℕ} → forcible p c ≡ true → Unwaiting p f (Conditional a b c)
  stoppable : {a b c : ℕ} → unstoppable p f a ≡ false → unstoppable p f b ≡ false → Unwaiting p f (Conditional a b c)

-- the wait ends: if t is settled in a coherent state, the rule is plain after any list of calls on that state (11.21)
abbrev pub WaitEnds : Scheduler → Type 0
WaitEnds step = (s : State) (cs : List Call) (o t c : ℕ)
    → Sized s
    → coherent s ≡ true
    → (w : Awaits s.plan o t c)
    → is_settled (fate_of s t) ≡ true
    → Plain s.plan (fate_of (after step s cs)) (rule_at s.plan w.place)
