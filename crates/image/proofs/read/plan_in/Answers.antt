-- `plan_in` meets its contract.
use Rattle.std.proofs.Common.{rules}
use Rattle.plan.specs.Plans.{blank_event, blank_rule}
use Rattle.image.specs.Layout.{event_in, rule_in, plan_in}
use Rattle.image.proofs.Made.{made}
use Rattle.image.proofs.read.plan_in.Goals as goal

pub returns : goal.returns
unfolding plan_in
returns c =
    let b = c.args.image.now in
    let events = made c.from_fn.ensures.items (event_in b) blank_event (λ i y q lt k. search rules) in
    let rules = made c.from_fn-2.ensures.items (rule_in b) blank_rule (λ i y q lt k. search rules) in
    simp (events, rules, c.windows_in.ensures)
