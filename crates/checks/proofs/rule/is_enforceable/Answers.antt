-- `is_enforceable` meets its contract: the events that it reads are those that the rule names.
use Prim.Native.Nat.{ℕ}
use mathlib.Core.Bool.{Bool}
use mathlib.Core.List.{List}
use mathlib.Core.Path.{◌≡◌, ◌∙◌, ap}
use Rattle.plan.specs.declared.event.Event.{Event}
use Rattle.plan.specs.declared.plan.Plan.{Plan}
use Rattle.plan.specs.Base.{read_at}
use Rattle.plan.specs.Plans.{blank_event, attributes_of, holds_bit}
use Rattle.plan.proofs.RuleReads.{attributes_read, order_enforced, need_enforced, conditional_enforced}
use Rattle.checks.proofs.rule.is_enforceable.Goals as goal
use Rattle.checks.proofs.rule.is_enforceable.Goals.{in-Conditional, in-Order, in-Order-2}

-- bit k of the event e, tested in the event read at n, which is e
bit_read : (p : Plan) (k : ℕ) (events : List Event) (v : Event) (n e : ℕ) (r : Bool)
    → p.events ≡ events
    → v ≡ read_at 16 events n blank_event
    → r ≡ holds_bit k v.attributes
    → n ≡ e
    → r ≡ holds_bit k (attributes_of p e)
bit_read p k events v n e r same read bit named =
    bit ∙ ap (holds_bit k) (attributes_read p events v n same read ∙ ap (attributes_of p) named)

pub returns-in-Order-rule : goal.returns-in-Order-rule
returns-in-Order-rule c = λ p same. elim c.match-rule.branch [
  | in-Order w ↦
      order_enforced p _ w.in-Order.a w.in-Order.b _ _ (cc)
      (bit_read p 4 _ _ _ _ _ same c.event_at-last.ensures c.is_delayable.ensures (cc))
      (bit_read p 2 _ _ _ _ _ same c.event_at-first.ensures c.is_rejectable.ensures (cc))
  | in-Order-2 w ↦ cc
  | in-Conditional w ↦ cc
]

pub returns-in-Need : goal.returns-in-Need
returns-in-Need c = λ p same. elim c.match-rule.branch [
  | in-Order w ↦ cc
  | in-Order-2 w ↦
      need_enforced p _ w.in-Order.a w.in-Order.b _ _ (cc)
      (bit_read p 2 _ _ _ _ _ same c.event_at-first.ensures c.is_rejectable-in-Need.ensures (cc))
      (bit_read p 1 _ _ _ _ _ same c.event_at-last.ensures c.is_forcible.ensures (cc))
  | in-Conditional w ↦ cc
]

pub returns-in-Conditional-rule : goal.returns-in-Conditional-rule
returns-in-Conditional-rule c = λ p same. elim c.match-rule.branch [
  | in-Order w ↦ cc
  | in-Order-2 w ↦ cc
  | in-Conditional w ↦
      let n = w.in-Conditional in
      conditional_enforced p _ n.a n.b n.c _ _ _ n.is
      (bit_read p 2 _ _ _ _ _ same c.event_at-first.ensures c.is_rejectable-in-Conditional-rule.ensures (cc))
      (bit_read p 2 _ _ _ _ _ same c.event_at-second.ensures c.is_rejectable-in-Conditional-rule-2.ensures (cc))
      (bit_read p 1 _ _ _ _ _ same c.event_at-last.ensures c.is_forcible-in-Conditional-rule.ensures (cc))
]
