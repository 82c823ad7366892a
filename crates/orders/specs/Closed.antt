-- Closed sets of events: a set is closed if it has every event that a standing rule asks for.
use Rattle.std.specs.Prelude.{◌≤◌, ◌<◌, ◌&&◌, ◌||◌, ◌⊎◌, ◌≡◌}
use Rattle.orders.specs.Prelude.{ℕ, Bool, true, false, Rule, Order, Need, Conditional, Plan}
use Rattle.plan.specs.Base.{count_below}
use Rattle.plan.specs.Fates.{Fates, is_done, is_settled}
use Rattle.plan.specs.Plans.{rule_count, rule_at, delayable}
use Rattle.plan.specs.Rules.{reckoned}

-- a set of events, as a test
abbrev pub Events : Type 0
Events = ℕ → Bool

-- r is a rule of the plan, and it stands
pub record Stands (p : Plan) (l : ℕ → Bool) (r : Rule) : Type 0 where
  pub place : ℕ
  pub within : place < rule_count p
  pub unbroken : l place ≡ true
  pub is : rule_at p place ≡ r

-- a is in the set, or done
abbrev pub Has : Fates → Events → ℕ → Type 0
Has f m a = (m a ≡ true) ⊎ (is_done (f a) ≡ true)

-- b is in the set, or counts as done to a conditional with this c (6.9)
abbrev pub Reckons : Plan → Fates → Events → ℕ → ℕ → Type 0
Reckons p f m c b = (m b ≡ true) ⊎ (reckoned p f c b ≡ true)

-- the event that a rule asks for
abbrev pub target : Rule → ℕ
target (Order a b) = a
target (Need a b) = b
target (Conditional a b c) = c

-- the rule asks for its target if the events of m are to be done: an order for its a, if b would wait for it; a need
-- for its b; a conditional for its c (7.10)
pub data Wants (p : Plan) (f : Fates) (m : Events) : Rule → Type 0 where
  first : {a b : ℕ} → m b ≡ true → delayable p b ≡ true → is_settled (f a) ≡ false → Wants p f m (Order a b)
  one : {a b : ℕ} → Has f m a → is_settled (f b) ≡ false → Wants p f m (Need a b)
  both : {a b c : ℕ} → Has f m a → Reckons p f m c b → is_settled (f c) ≡ false → Wants p f m (Conditional a b c)
  turned : {a b c : ℕ} → Has f m b → Reckons p f m c a → is_settled (f c) ≡ false → Wants p f m (Conditional a b c)

-- the set is closed: it has the target of every standing rule that asks for it (7.10)
abbrev pub Closed : Plan → (ℕ → Bool) → Fates → Events → Type 0
Closed p l f m = (r : Rule) → Stands p l r → Wants p f m r → m (target r) ≡ true

-- `Wants` as a test, except for whether the target is settled
unfoldable pub asks : Plan → Fates → Events → Rule → Bool
asks p f m (Order a b) = m b && delayable p b
asks p f m (Need a b) = m a || is_done (f a)
asks p f m (Conditional a b c) =
    ((m a || is_done (f a)) && (m b || reckoned p f c b))
    || ((m b || is_done (f b)) && (m a || reckoned p f c a))

-- m is closed, contains e, and has at most six events, which all pass the test `able`
pub record Fit (p : Plan) (l : ℕ → Bool) (f : Fates) (able : Events) (e : ℕ) (m : Events) : Type 0 where
  pub contains : m e ≡ true
  pub closed : Closed p l f m
  pub ables : (x : ℕ) → m x ≡ true → able x ≡ true
  pub few : count_below 16 m ≤ 6

-- m is the least such set: each of them contains it
pub record Least (p : Plan) (l : ℕ → Bool) (f : Fates) (able : Events) (e : ℕ) (m : Events) : Type 0 where
  pub fit : Fit p l f able e m
  pub least : (n : Events) → Fit p l f able e n → (x : ℕ) → m x ≡ true → n x ≡ true
