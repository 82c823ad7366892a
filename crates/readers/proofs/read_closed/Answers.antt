-- `read_closed` meets its contract.
use Rattle.std.proofs.Common.{◌∙◌, false, rules}
use Rattle.readers.specs.Readers.{closed_read}
use Rattle.readers.proofs.Places.{place_is}
use Rattle.readers.proofs.read_closed.Goals as goal

pub returns : goal.returns
unfolding closed_read
returns c = c.place.ensures ∙ place_is 8 c.args.state.closed _ false (search rules)
