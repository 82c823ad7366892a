-- `put_plan` meets its contract: each row is written over the bytes before it.
use Rattle.std.proofs.Common.{rules}
use Rattle.plan.specs.Plans.{blank_event, blank_rule, blank_window}
use Rattle.image.specs.Types.{Event, RuleLine, Window}
use Rattle.image.specs.Layout.{rule_kind, rule_a, rule_b, rule_c}
use Rattle.image.proofs.CodeSteps.{put_plan_rows}
use Rattle.image.proofs.RowLoops.{put_long}
use Rattle.image.proofs.write.put_plan.Goals as goal

pub returns : goal.returns
returns c = put_plan_rows _ _ _ _ _ _ _ _ _ _
    (put_long _ _ _ (c.put_row.ensures (λ (v : Event). v.step) blank_event (λ x y k. search rules)) (search rules))
    (put_long _ _ _ (c.put_row-2.ensures (λ (v : Event). v.attributes) blank_event (λ x y k. search rules)) (search rules))
    (put_long _ _ _ (c.put_row-3.ensures (λ (v : RuleLine). rule_kind v.rule) blank_rule (λ x y k. search rules)) (search rules))
    (put_long _ _ _ (c.put_row-4.ensures (λ (v : RuleLine). rule_a v.rule) blank_rule (λ x y k. search rules)) (search rules))
    (put_long _ _ _ (c.put_row-5.ensures (λ (v : RuleLine). rule_b v.rule) blank_rule (λ x y k. search rules)) (search rules))
    (put_long _ _ _ (c.put_row-6.ensures (λ (v : RuleLine). rule_c v.rule) blank_rule (λ x y k. search rules)) (search rules))
    (put_long _ _ _ (c.put_words.ensures (λ (v : Window). v.from) blank_window (λ x y k. search rules)) (search rules))
    (put_long _ _ _ (c.put_words-2.ensures (λ (v : Window). v.until) blank_window (λ x y k. search rules)) (search rules))
