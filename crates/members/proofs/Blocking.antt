-- The loop over the rules that collects the blocked events.
use Prim.Native.Nat.{ℕ, ◌+◌, ◌≤◌}
use native.Mathlib.Nat.{le_antisymm}
use mathlib.Core.Bool.{Bool, true, false, ◌&&◌, ◌||◌}
use mathlib.Core.Path.{◌≡◌, sym, ◌∙◌, ap}
use Rattle.plan.specs.Base.{any_below}
use Rattle.plan.specs.Fates.{Fates}
use Rattle.plan.specs.Plans.{rule_count, rule_at}
use Rattle.plan.specs.Rules.{bars}
use Rattle.plan.proofs.Tests.{any_next}
use Rattle.orders.specs.Stepwise.{follows, blocked}
use Rattle.members.specs.Prelude.{Rule, Plan}
use Rattle.members.specs.Sets.{in_set}
use Rattle.members.proofs.Bits.{in_zero}

module _ (p : Plan) (f : Fates) (l : ℕ → Bool) (left : ℕ) (x : ℕ) where
  -- the rule in a place stands and blocks x
  abbrev pub blocks_at : ℕ → Bool
  blocks_at i = l i && (bars p f (rule_at p i) x || follows p (in_set left) (rule_at p i) x)

  pub block_zero : in_set 0 x ≡ any_below 0 blocks_at
  unfolding any_below
  block_zero = in_zero x

  module _ (b i : ℕ) (before : in_set b x ≡ any_below i blocks_at) where
    pub block_skip : l i ≡ false → in_set b x ≡ any_below (i + 1) blocks_at
    block_skip h = before ∙ sym (any_next i blocks_at ∙ rw h)

    pub block_next : (n : ℕ) (r : Rule)
        → l i ≡ true
        → rule_at p i ≡ r
        → in_set n x ≡ ((bars p f r x || follows p (in_set left) r x) || in_set b x)
        → in_set n x ≡ any_below (i + 1) blocks_at
    block_next n r h is e = e ∙ rw before (sym (any_next i blocks_at ∙ rw (h, is)))

    pub block_all : (n : ℕ) → rule_count p ≡ n → i ≤ n → n ≤ i → in_set b x ≡ blocked p l f (in_set left) x
    unfolding blocked
    block_all n count le ge = before ∙ ap (λ (k : ℕ). any_below k blocks_at) (le_antisymm le ge ∙ sym count)
