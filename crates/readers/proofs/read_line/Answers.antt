-- `read_line` meets its contract.
use Rattle.std.proofs.Common.{◌∙◌, rules}
use Rattle.plan.specs.Histories.{blank_entry}
use Rattle.readers.specs.Readers.{line_read}
use Rattle.readers.proofs.Places.{declared_is}
use Rattle.readers.proofs.read_line.Goals as goal

pub returns : goal.returns
unfolding line_read
returns c = c.declared.ensures ∙ declared_is c.args.state.history _ _ blank_entry (search rules)
