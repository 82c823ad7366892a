-- `advance_at` meets its contract.
use mathlib.Core.Path.{◌∙◌, ap}
use Rattle.plan.specs.Calls.{advance_in}
use Rattle.plan.proofs.AnyCalls.{rest_of, advance_cut, advance_whole}
use Rattle.checks.proofs.calls.advance_at.Goals as goal

pub returns-in_default : goal.returns-in_default
returns-in_default c = advance_cut _ c.in_default.len_below ∙ ap advance_in (rest_of c.args.bytes.now _)

pub returns-in-len4-up : goal.returns-in-len4-up
returns-in-len4-up c =
    advance_whole _ _ c.in-len4-up.len_at_least c.word_of.ensures ∙ ap advance_in (rest_of c.args.bytes.now _)
