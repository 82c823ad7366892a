-- Orders over a plan, the rules that stand and the fates: what stops an event, what is owed, and runs.
use Rattle.std.specs.Prelude.{◌<◌, ◌∷◌, ◌≡◌}
use Rattle.orders.specs.Prelude.{ℕ, Bool, true, false, cond, List, [], eqb, Rule, Order, Need, Conditional, Plan}
use Rattle.plan.specs.Fates.{Fates, is_open, is_done, is_gone, is_settled, done_as}
use Rattle.plan.specs.Plans.{event_count, delayable}
use Rattle.plan.specs.Rules.{ready, reckoned}
use Rattle.orders.specs.Closed.{Stands}

-- the fates with c done, by force if it is open
abbrev pub doing : Fates → ℕ → Fates
doing f c x = cond (eqb x c) (done_as (is_open (f c))) (f x)

-- the grounds on which a rule is against doing x for good
pub data Bars (p : Plan) (f : Fates) (x : ℕ) : Rule → Type 0 where
  late : {a b : ℕ} → x ≡ a → is_done (f b) ≡ true → Bars p f x (Order a b)
  lost : {a b : ℕ} → x ≡ a → is_gone (f b) ≡ true → Bars p f x (Need a b)
  second : {a b c : ℕ} → x ≡ a → reckoned p f c b ≡ true → is_gone (f c) ≡ true → Bars p f x (Conditional a b c)
  other : {a b c : ℕ} → x ≡ b → reckoned p f c a ≡ true → is_gone (f c) ≡ true → Bars p f x (Conditional a b c)

-- and the one on which it makes x wait
pub data Waits (p : Plan) (f : Fates) (x : ℕ) : Rule → Type 0 where
  waits : {a b : ℕ} → x ≡ b → delayable p b ≡ true → is_settled (f a) ≡ false → Waits p f x (Order a b)

-- the grounds on which it owes
pub data Owed (p : Plan) (f : Fates) : Rule → Type 0 where
  needed : {a b : ℕ} → is_done (f a) ≡ true → is_settled (f b) ≡ false → Owed p f (Need a b)
  called : {a b c : ℕ}
      → is_done (f a) ≡ true
      → reckoned p f c b ≡ true
      → is_settled (f c) ≡ false
      → Owed p f (Conditional a b c)
  recalled : {a b c : ℕ}
      → is_done (f b) ≡ true
      → reckoned p f c a ≡ true
      → is_settled (f c) ≡ false
      → Owed p f (Conditional a b c)

-- no rule that stands is against x, or makes it wait
pub record May (p : Plan) (l : ℕ → Bool) (f : Fates) (x : ℕ) : Type 0 where
  pub declared : x < event_count p
  pub at_hand : ready p f x ≡ true
  pub unbarred : (r : Rule) → Stands p l r → Bars p f x r → ⊥
  pub unwaiting : (r : Rule) → Stands p l r → Waits p f x r → ⊥

-- each event may be done in its turn, and at the end no rule owes
abbrev pub Run : Plan → (ℕ → Bool) → Fates → List ℕ → Type 0
Run p l f [] = (r : Rule) → Stands p l r → Owed p f r → ⊥
Run p l f (c ∷ o) = May p l f c × Run p l (doing f c) o
