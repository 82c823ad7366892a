-- `common` meets its contract.
use Rattle.members.proofs.Bits.{in_and}
use Rattle.members.proofs.set.common.Goals as goal

pub returns : goal.returns
returns c = in_and _ _
