-- Sound plans: what is known of a plan that a sheet declares, or that number 12 lets pass.
use Prim.Native.Nat.{ℕ, ◌≤◌, ◌<◌}
use native.Mathlib.Omega.{arith}
use borrow.Author.Tests.{ltb-false, not-true}
use mathlib.Core.Bool.{true, not}
use mathlib.Core.Path.{◌≡◌}
use Rattle.theory.proofs.Types.{Rule, Order, Need, Conditional, Plan}
use Rattle.plan.specs.Plans.{event_count, rule_count, step_of, attributes_of, rule_at}
use Rattle.plan.specs.Rules.{bad_step, bad_attributes, named, enforceable, sound_event, sound_rule, sound_window}
use Rattle.plan.proofs.Tests.{and_left, and_right}
use Rattle.plan.proofs.RuleReads.{two_named, triple_named}

pub record Sound (p : Plan) : Type 0 where
  pub few_events : event_count p ≤ 16
  pub few_rules : rule_count p ≤ 16
  pub event : (e : ℕ) → e < event_count p → sound_event p e ≡ true
  pub rule : (i : ℕ) → i < rule_count p → sound_rule p i ≡ true
  pub window : (e : ℕ) → e < 16 → sound_window p e ≡ true

-- each of its events has a step below 8
pub step_low : {p : Plan} → Sound p → (e : ℕ) → e < event_count p → step_of p e < 8
unfolding sound_event
step_low {p} sd e l =
    let sound = and_left (not (bad_step (step_of p e))) (not (bad_attributes (attributes_of p e))) (sd.event e l) in
    omega (arith, ltb-false 7 (step_of p e) (not-true (bad_step (step_of p e)) sound))

-- each of its rules names declared events and can be enforced
module _ {p : Plan} (sd : Sound p) (i : ℕ) (l : i < rule_count p) where
  pub rule_named : named (event_count p) (rule_at p i) ≡ true
  unfolding sound_rule
  rule_named = and_left (named (event_count p) (rule_at p i)) (enforceable p (rule_at p i)) (sd.rule i l)

  pub rule_enforced : enforceable p (rule_at p i) ≡ true
  unfolding sound_rule
  rule_enforced = and_right (named (event_count p) (rule_at p i)) (enforceable p (rule_at p i)) (sd.rule i l)

-- a rule can be enforced where the events that it names have the same attributes
pub same_enforced : (p q : Plan) (n : ℕ)
    → ((e : ℕ) → e < n → attributes_of q e ≡ attributes_of p e)
    → (r : Rule)
    → named n r ≡ true
    → enforceable q r ≡ enforceable p r
unfolding enforceable named
same_enforced p q n same (Order a b) h = let t = two_named n a b _ h in rw (same a t.0, same b t.1)
same_enforced p q n same (Need a b) h = let t = two_named n a b _ h in rw (same a t.0, same b t.1)
same_enforced p q n same (Conditional a b c) h =
    let t = triple_named n a b c h in
    rw (same a t.first, same b t.second, same c t.third)
