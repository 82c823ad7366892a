-- `read_broken` meets its contract.
use Rattle.std.proofs.Common.{◌∙◌, false, rules}
use Rattle.readers.specs.Readers.{broken_read}
use Rattle.readers.proofs.Places.{declared_is}
use Rattle.readers.proofs.read_broken.Goals as goal

pub returns : goal.returns
unfolding broken_read
returns c = c.declared.ensures ∙ declared_is c.args.state.broken _ _ false (search rules)
