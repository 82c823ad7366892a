-- `read_fate` meets its contract.
use Rattle.std.proofs.Common.{◌≡◌, ◌∙◌, ap, option_map, rules}
use Rattle.plan.specs.Fates.{blank_standing}
use Rattle.plan.specs.declared.fate.Standing.{Standing}
use Rattle.readers.specs.Readers.{fate_read}
use Rattle.readers.proofs.Places.{declared_is, map_cond}
use Rattle.readers.proofs.read_fate.Goals as goal

pub returns : goal.returns
unfolding fate_read
returns c =
    let e : c.map.result ≡ option_map (λ (s : Standing). s.fate) c.declared.result = search rules in
    let found = c.declared.ensures ∙ declared_is c.args.state.standings _ _ blank_standing (search rules) in
    e
    ∙ ap (option_map (λ (s : Standing). s.fate)) found
    ∙ map_cond (λ (s : Standing). s.fate) _ _
