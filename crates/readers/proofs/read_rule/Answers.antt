-- `read_rule` meets its contract.
use Rattle.std.proofs.Common.{◌≡◌, ◌∙◌, ap, option_map, rules}
use Rattle.plan.specs.Plans.{blank_rule}
use Rattle.plan.specs.declared.rule.RuleLine.{RuleLine}
use Rattle.readers.specs.Readers.{rule_read}
use Rattle.readers.proofs.Places.{declared_is, map_cond}
use Rattle.readers.proofs.read_rule.Goals as goal

pub returns : goal.returns
unfolding rule_read
returns c =
    let e : c.map.result ≡ option_map (λ (l : RuleLine). l.rule) c.declared.result = search rules in
    let found = c.declared.ensures ∙ declared_is c.args.state.plan.rules _ _ blank_rule (search rules) in
    e
    ∙ ap (option_map (λ (l : RuleLine). l.rule)) found
    ∙ map_cond (λ (l : RuleLine). l.rule) _ _
