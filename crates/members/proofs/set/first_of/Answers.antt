-- `first_of` meets its contract.
use Rattle.members.proofs.Bits.{in_lower, in_all}
use Rattle.members.proofs.set.first_of.Goals as goal

pub returns-then-count-lt16 : goal.returns-then-count-lt16
returns-then-count-lt16 c x = in_lower _ x c.if-count-lt16.true

pub returns-else-count-lt16 : goal.returns-else-count-lt16
returns-else-count-lt16 c x = in_all _ x c.if-count-lt16.false
