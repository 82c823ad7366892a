-- `broken_count` meets its contract.
use Rattle.std.proofs.Common.{◌∙◌, Bool, false, take, refl, rules, tests}
use Rattle.std.proofs.lemmas.Iterator.{YieldsList-from_slice, YieldsList-from_take}
use Rattle.std.proofs.lemmas.Iterator.Consumers.{YieldsList-at, YieldsList-from_filter, count_from_yields_List}
use Rattle.std.proofs.lemmas.List.Sums.{length-filter}
use Rattle.readers.proofs.Places.{count_is}
use Rattle.readers.proofs.broken_count.Goals as goal

pub returns : goal.returns
returns c =
    let s = c.args.state in
    let places = YieldsList-at c.take.ensures.source (YieldsList-from_slice s.broken cc) in
    let first = YieldsList-from_take s.plan.rule_count places (cc) in
    count_from_yields_List c.filter.result _ c.count.ensures.ran
    (YieldsList-from_filter _ (λ (b : Bool). b) (YieldsList-at c.filter.ensures.source first)
    c.filter.ensures.closure (λ x r q k. search (rules, tests)))
    ∙ length-filter (λ (b : Bool). b) (take s.plan.rule_count s.broken)
    ∙ count_is (λ (b : Bool). b) s.broken false (search rules) refl s.plan.rule_count
