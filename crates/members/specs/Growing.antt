-- How the least closed set is found: members that lie in every closed set that would do, more until they are closed.
use Rattle.std.specs.Prelude.{◌+◌, ◌≤◌, ◌<◌, ◌&&◌, ◌||◌, ◌⊎◌, ◌≡◌}
use Rattle.members.specs.Prelude.{ℕ, Bool, true, false, not, Option, none, some, eqb, Rule, Plan, Members}
use Rattle.plan.specs.Base.{count_below}
use Rattle.plan.specs.Fates.{Fates, is_settled}
use Rattle.orders.specs.Closed.{Events, Closed, Fit, Least, asks, target}
use Rattle.members.specs.Sets.{in_set}

-- the rule asks for an event that is not a member yet
unfoldable pub lacks : Plan → Fates → Events → Rule → Bool
lacks p f m r = asks p f m r && not (is_settled (f (target r))) && not (m (target r))

-- the members with one event more
pub record Grows (able : Events) (m : Members) (t : ℕ) (n : Members) : Type 0 where
  pub fine : able t ≡ true
  pub room : m.count < 6
  pub counts : n.count ≡ m.count + 1
  pub has : (x : ℕ) → in_set n.set x ≡ (eqb x t || in_set m.set x)

-- the members after a rule: they stay where it asks for nothing new; there are none where the event is not able, or
-- would be the seventh; else it is one more
abbrev pub Added : Plan → Fates → Events → Members → Rule → Option Members → Type 0
Added p f able m r none = (lacks p f (in_set m.set) r ≡ true) × ((able (target r) ≡ false) ⊎ (6 ≤ m.count))
Added p f able m r (some n) =
    ((lacks p f (in_set m.set) r ≡ false) × (n ≡ m))
    ⊎ ((lacks p f (in_set m.set) r ≡ true) × Grows able m (target r) n)

-- the members are able, at most six, counted, with e among them, and lie in every set that would do
pub record Sure (p : Plan) (l : ℕ → Bool) (f : Fates) (able : Events) (e : ℕ) (m : Members) : Type 0 where
  pub contains : in_set m.set e ≡ true
  pub ables : (x : ℕ) → in_set m.set x ≡ true → able x ≡ true
  pub counted : m.count ≡ count_below 16 (in_set m.set)
  pub few : m.count ≤ 6
  pub least : (n : Events) → Fit p l f able e n → (x : ℕ) → in_set m.set x ≡ true → n x ≡ true

-- no set would do
abbrev pub NoFit : Plan → (ℕ → Bool) → Fates → Events → ℕ → Type 0
NoFit p l f able e = (n : Events) → Fit p l f able e n → ⊥

-- the members after all rules: no fewer, and closed if they are as many as before
pub record Further (p : Plan) (l : ℕ → Bool) (f : Fates) (able : Events) (e : ℕ) (m n : Members) : Type 0 where
  pub sure : Sure p l f able e n
  pub more : m.count ≤ n.count
  pub closed : n.count ≡ m.count → Closed p l f (in_set n.set)

-- the same, or that no set would do
abbrev pub Passed : Plan → (ℕ → Bool) → Fates → Events → ℕ → Members → Option Members → Type 0
Passed p l f able e m none = NoFit p l f able e
Passed p l f able e m (some n) = Further p l f able e m n

-- the least closed set, or that none would do
abbrev pub Closes : Plan → (ℕ → Bool) → Fates → Events → ℕ → Option Members → Type 0
Closes p l f able e none = NoFit p l f able e
Closes p l f able e (some m) = Least p l f able e (in_set m.set)
