-- Events at hand that a single rule shows to be hopeless: it asks for one that is not at hand.
use Rattle.std.specs.Prelude.{◌&&◌, ◌≡◌}
use Rattle.members.specs.Prelude.{ℕ, Bool, true, false, not, eqb, Rule, Order, Need, Conditional, Plan}
use Rattle.plan.specs.Fates.{Fates, is_settled}
use Rattle.plan.specs.Plans.{delayable}
use Rattle.orders.specs.Closed.{Events}
use Rattle.members.specs.Growing.{NoFit}

-- the rule asks x for an event that is not settled and not in the set
unfoldable pub lacking : Plan → Fates → Events → Rule → ℕ → Bool
lacking p f able (Order a b) x = eqb x b && (delayable p b && not (is_settled (f a)) && not (able a))
lacking p f able (Need a b) x = eqb x a && (not (is_settled (f b)) && not (able b))
lacking p f able (Conditional a b c) x = false

-- what is left of the events at hand: an event that is not is in no set that would do
pub record Spared (p : Plan) (l : ℕ → Bool) (f : Fates) (able left : Events) : Type 0 where
  pub within : (x : ℕ) → left x ≡ true → able x ≡ true
  pub dropped : (x : ℕ) → able x ≡ true → left x ≡ false → NoFit p l f able x
