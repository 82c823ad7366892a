-- A plan with an event or a rule stored in its next place: what the plan's type asks of it, and that it is the plan with
-- the event or the rule added.
use mathlib.Core.Path.{◌≡◌, refl, ◌∙◌, subst}
use Prim.Native.Nat.{ℕ, ◌+◌, ◌<◌, ◌^◌}
use mathlib.Core.List.{List, [], ◌∷◌, map}
use lib.ListN.{length, set, length-map}
use mir.Syntax.{w8}
use mir.Val.{Val, vint, vstruct, vcons, vnil}
use borrow.Author.Tests.{lt-ltb}
use denote.Array.{array_val}
use denote.Laws.{Is}
use Rattle.plan.specs.Plans.{event_count, rule_count}
use Rattle.plan.specs.Records.{add_event, add_rule}
use Rattle.plan.specs.contracts.event.Event as E
use Rattle.plan.proofs.event.Event.TheLaws as E'
use Rattle.plan.specs.contracts.rule.RuleLine as L
use Rattle.plan.proofs.rule.RuleLine.TheLaws as L'
use Rattle.plan.specs.contracts.plan.Plan as P
use Rattle.plan.proofs.plan.Plan.TheLaws as P'
use Rattle.sheet.specs.Types.{Event, Rule, RuleLine, Plan}
use Rattle.sheet.proofs.ArrayStore.{array_set}

abbrev pub IsPlan : Plan → Type 0
IsPlan p = Is P.the_row p (P'.lowered p ∷ [])

abbrev pub IsEvent : Event → Type 0
IsEvent e = Is E.the_row e (E'.lowered e ∷ [])

abbrev pub IsLine : RuleLine → Type 0
IsLine l = Is L.the_row l (L'.lowered l ∷ [])

abbrev pub with_event : Plan → Event → Plan
with_event p e = record {
  events = set p.events (event_count p) e;
  event_count = event_count p + 1;
  rules = p.rules;
  rule_count = rule_count p;
  windows = p.windows;
}

abbrev pub with_rule : Plan → RuleLine → Plan
with_rule p l = record {
  events = p.events;
  event_count = event_count p;
  rules = set p.rules (rule_count p) l;
  rule_count = rule_count p + 1;
  windows = p.windows;
}

-- the machine value of a plan, by its arrays' and its numbers'
abbrev pub plan_val : List Val → ℕ → List Val → ℕ → List Val → Val
plan_val es n ls m ws =
    vstruct (vcons (vint w8 n) (vcons (array_val ws) (vcons (array_val es) (vcons (array_val ls) (vcons (vint w8 m) vnil)))))

module _ (p : Plan) (is : IsPlan p) where
  -- a plan's arrays have 16 places
  pub events_long : length (map E'.lowered p.events) ≡ 16
  events_long = length-map p.events E'.lowered ∙ is.1.1.1.1.0.1.0.1

  pub rules_long : length (map L'.lowered p.rules) ≡ 16
  rules_long = length-map p.rules L'.lowered ∙ is.1.1.1.1.1.0.1.0.1

  module _ (e : Event) (isE : IsEvent e) (fits : event_count p + 1 < 2 ^ 8) where
    made_event : Is P.the_row (with_event p e)
        (plan_val (set is.1.1.1.1.0.0 (event_count p) (E'.lowered e)) (event_count p + 1) is.1.1.1.1.1.0.0 (rule_count p) is.1.1.1.0.0 ∷ [])
    made_event = (
      (vint w8 (event_count p + 1) ∷ [], (array_val is.1.1.1.0.0 ∷ [], (array_val (set is.1.1.1.1.0.0 (event_count p) (E'.lowered e)) ∷ [], (array_val is.1.1.1.1.1.0.0 ∷ [], (vint w8 (rule_count p) ∷ [], tt))))),
      (
        refl,
        (
          (refl, fits),
          ((is.1.1.1.0.0, ((refl, is.1.1.1.0.1.0.1), is.1.1.1.0.1.1)), (array_set E.the_row e (E'.lowered e) isE 16 p.events _ (event_count p) is.1.1.1.1.0, ((is.1.1.1.1.1.0.0, ((refl, is.1.1.1.1.1.0.1.0.1), is.1.1.1.1.1.0.1.1)), ((refl, is.1.1.1.1.1.1.0.1), tt)))),
        ),
      ),
    )

    pub event_stored : IsPlan (with_event p e)
    event_stored = subst (Is P.the_row (with_event p e)) ((P'.lowers).val_is (with_event p e) _ made_event) made_event

  module _ (l : RuleLine) (isL : IsLine l) (fits : rule_count p + 1 < 2 ^ 8) where
    made_rule : Is P.the_row (with_rule p l)
        (plan_val is.1.1.1.1.0.0 (event_count p) (set is.1.1.1.1.1.0.0 (rule_count p) (L'.lowered l)) (rule_count p + 1) is.1.1.1.0.0 ∷ [])
    made_rule = (
      (vint w8 (event_count p) ∷ [], (array_val is.1.1.1.0.0 ∷ [], (array_val is.1.1.1.1.0.0 ∷ [], (array_val (set is.1.1.1.1.1.0.0 (rule_count p) (L'.lowered l)) ∷ [], (vint w8 (rule_count p + 1) ∷ [], tt))))),
      (
        refl,
        (
          (refl, is.1.1.0.1),
          ((is.1.1.1.0.0, ((refl, is.1.1.1.0.1.0.1), is.1.1.1.0.1.1)), ((is.1.1.1.1.0.0, ((refl, is.1.1.1.1.0.1.0.1), is.1.1.1.1.0.1.1)), (array_set L.the_row l (L'.lowered l) isL 16 p.rules _ (rule_count p) is.1.1.1.1.1.0, ((refl, fits), tt)))),
        ),
      ),
    )

    pub rule_stored : IsPlan (with_rule p l)
    rule_stored = subst (Is P.the_row (with_rule p l)) ((P'.lowers).val_is (with_rule p l) _ made_rule) made_rule

-- the plan with the event, and with the rule, added
pub event_added : (p : Plan) (k a : ℕ) → event_count p < 16 → with_event p (record { step = k; attributes = a }) ≡ add_event p k a
unfolding add_event
event_added p k a h = rw (lt-ltb (event_count p) 16 h, add_event)

pub rule_added : (p : Plan) (r : Rule) → rule_count p < 16 → with_rule p (record { rule = r }) ≡ add_rule p r
unfolding add_rule
rule_added p r h = rw (lt-ltb (rule_count p) 16 h, add_rule)
