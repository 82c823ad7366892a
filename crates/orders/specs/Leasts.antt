-- The least closed set of an event, found by passes over the rules.
use Rattle.std.specs.Prelude.{◌&&◌, ◌||◌}
use Rattle.orders.specs.Prelude.{ℕ, zero, suc, Bool, not, eqb, Plan}
use Rattle.plan.specs.Fates.{Fates, is_settled}
use Rattle.plan.specs.Plans.{rule_count, rule_at}
use Rattle.orders.specs.Closed.{Events, target, asks}

-- rule i stands, and asks for a target that is not settled
unfoldable pub calls : Plan → (ℕ → Bool) → Fates → Events → ℕ → Bool
calls p l f m i = l i && (asks p f m (rule_at p i) && not (is_settled (f (target (rule_at p i)))))

-- the set with the target of rule i, if the rule asks for it
unfoldable pub adding : Plan → (ℕ → Bool) → Fates → Events → ℕ → Events
adding p l f m i x = m x || (calls p l f m i && eqb x (target (rule_at p i)))

-- one pass over the first n rules, each on what the one before it gave
unfoldable pub pass : ℕ → Plan → (ℕ → Bool) → Fates → Events → Events
pass zero p l f m = m
pass (suc n) p l f m = adding p l f (pass n p l f m) n

-- k passes over all rules
unfoldable pub passes : ℕ → Plan → (ℕ → Bool) → Fates → Events → Events
passes zero p l f m = m
passes (suc k) p l f m = pass (rule_count p) p l f (passes k p l f m)

-- the least closed set of e. As many passes as there are rules are enough: a pass that changes something adds the
-- target of one more rule (7.10)
unfoldable pub least_set : Plan → (ℕ → Bool) → Fates → ℕ → Events
least_set p l f e = passes (rule_count p) p l f (λ x. eqb x e)
