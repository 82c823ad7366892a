-- `held_count` meets its contract.
use Rattle.std.proofs.Common.{◌∙◌, take, refl, rules, tests}
use Rattle.std.proofs.lemmas.Iterator.{YieldsList-from_slice, YieldsList-from_take}
use Rattle.std.proofs.lemmas.Iterator.Consumers.{YieldsList-at, YieldsList-from_filter, count_from_yields_List}
use Rattle.std.proofs.lemmas.List.Sums.{length-filter}
use Rattle.plan.specs.Fates.{blank_standing, is_held}
use Rattle.plan.specs.declared.fate.Standing.{Standing}
use Rattle.readers.proofs.Places.{count_is}
use Rattle.readers.proofs.held_count.Goals as goal

pub returns : goal.returns
returns c =
    let s = c.args.state in
    let places = YieldsList-at c.take.ensures.source (YieldsList-from_slice s.standings cc) in
    let first = YieldsList-from_take s.plan.event_count places (cc) in
    count_from_yields_List c.filter.result _ c.count.ensures.ran
    (YieldsList-from_filter _ (λ (s : Standing). is_held s.fate) (YieldsList-at c.filter.ensures.source first)
    c.filter.ensures.closure (λ x r q k. search (rules, tests)))
    ∙ length-filter (λ (s : Standing). is_held s.fate) (take s.plan.event_count s.standings)
    ∙ count_is (λ (s : Standing). is_held s.fate) s.standings blank_standing (search rules) refl s.plan.event_count
