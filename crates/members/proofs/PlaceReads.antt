-- What code tells of a place of a ground: a rule that stands there, or that it is broken.
use Prim.Native.Nat.{ℕ, ◌≤◌, ◌<◌}
use borrow.Author.Tests.{lt-ltb, le-ltb}
use mathlib.Core.Bool.{Bool, true, false, not, cond}
use mathlib.Core.List.{List}
use mathlib.Core.Path.{◌≡◌, sym, ◌∙◌, ap}
use lib.ListN.{get_or}
use Rattle.plan.specs.declared.rule.Rule.TheVariants.{Order}
use Rattle.plan.specs.Base.{when, read_at}
use Rattle.plan.specs.Plans.{blank_rule, rule_count, rule_at}
use Rattle.plan.proofs.Arrays.{read_past}
use Rattle.plan.proofs.Tests.{when_some, some_none}
use Rattle.orders.specs.Closed.{Stands}
use Rattle.members.specs.Prelude.{none, some, Rule, RuleLine, Plan}
use Rattle.members.specs.Sets.{unbroken}

-- the rule and its mark in a place, and past the places the blank rule, unbroken
module _ (p : Plan) (rules : List RuleLine) (same : p.rules ≡ rules) (i : ℕ) where
  pub rule_read_lem : i < 16 → rule_at p i ≡ (get_or rules i blank_rule).rule
  rule_read_lem lt =
      ap (λ (l : List RuleLine). (read_at 16 l i blank_rule).rule) same
      ∙ ap (λ t. (cond t (get_or rules i blank_rule) blank_rule).rule) (lt-ltb i 16 lt)

  pub rule_past : 16 ≤ i → rule_at p i ≡ Order 0 0
  rule_past ge = ap (λ (v : RuleLine). v.rule) (read_past 16 p.rules i blank_rule ge)

module _ (marks : List Bool) (i : ℕ) where
  pub mark_read : (b : Bool) → i < 16 → not (get_or marks i false) ≡ b → unbroken marks i ≡ b
  mark_read b lt h = rw (lt-ltb i 16 lt) h

  pub mark_past : 16 ≤ i → unbroken marks i ≡ true
  mark_past ge = rw (le-ltb i 16 ge)

-- a rule that stands, or a broken one
module _ (p : Plan) (l : ℕ → Bool) (i : ℕ) where
  pub standing_at : (r : Rule) → some r ≡ when (l i) (some (rule_at p i)) → (l i ≡ true) × (rule_at p i ≡ r)
  standing_at r h = let w = when_some (l i) _ r (sym h) in (w.0, cc w.1)

  pub standing_stands : (r : Rule) → some r ≡ when (l i) (some (rule_at p i)) → i < rule_count p → Stands p l r
  standing_stands r h lt =
      let w = standing_at r h in
      record { place = i; within = lt; unbroken = w.0; is = w.1 }

  pub standing_not : none ≡ when (l i) (some (rule_at p i)) → l i ≡ false
  standing_not h = go (l i) h
    where
      go : (b : Bool) → none ≡ when b (some (rule_at p i)) → b ≡ false
      go true h = absurd (some_none (sym h))
      go false h = cc
