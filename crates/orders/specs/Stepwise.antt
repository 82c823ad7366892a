-- The order of a set of events that always takes the lowest event which may come next.
use Rattle.std.specs.Prelude.{◌&&◌, ◌||◌, ◌∷◌}
use Rattle.orders.specs.Prelude.{ℕ, zero, suc, Bool, true, false, not, List, [], Option, none, some, map_option, eqb, Rule, Order, Need, Conditional, Plan}
use Rattle.plan.specs.Base.{any_below, when, lowest}
use Rattle.plan.specs.Fates.{Fates}
use Rattle.plan.specs.Plans.{rule_count, rule_at, delayable}
use Rattle.plan.specs.Rules.{bars}
use Rattle.orders.specs.Closed.{Events}
use Rattle.orders.specs.Runs.{doing}

-- an order rule puts another event of m before x, which it would bar once x is done; or x would wait for itself
unfoldable pub follows : Plan → Events → Rule → ℕ → Bool
follows p m (Order a b) x = eqb x b && (m a && (not (eqb a b) || delayable p b))
follows p m (Need a b) x = false
follows p m (Conditional a b c) x = false

-- x may not come next: a standing rule forbids it for good, or puts another event of m before it (7.11)
unfoldable pub blocked : Plan → (ℕ → Bool) → Fates → Events → ℕ → Bool
blocked p l f m x =
    any_below (rule_count p) (λ i. l i && (bars p f (rule_at p i) x || follows p m (rule_at p i) x))

-- the set without x
abbrev pub less : Events → ℕ → Events
less m x y = m y && not (eqb y x)

-- the set is empty
unfoldable pub nothing : Events → Bool
nothing m = not (any_below 16 m)

-- the lowest event of the set that is not blocked
unfoldable pub next : Plan → (ℕ → Bool) → Fates → Events → Option ℕ
next p l f m = lowest 16 (λ x. m x && not (blocked p l f m x))

-- the events of the set, the lowest that is not blocked first, and so on; none if all that are left are blocked, or if
-- the set has more than k events (7.11)
unfoldable pub stepwise : Plan → (ℕ → Bool) → ℕ → Fates → Events → Option (List ℕ)
stepwise p l zero f m = when (nothing m) (some [])
stepwise p l (suc k) f m = elim (nothing m) [
  | true ↦ some []
  | false ↦ elim (next p l f m) [
    | none ↦ none
    | some x ↦ map_option (λ o. x ∷ o) (stepwise p l k (doing f x) (less m x))
  ]
]
