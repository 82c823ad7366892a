-- `without` meets its contract.
use Rattle.members.proofs.Bits.{in_less}
use Rattle.members.proofs.set.without.Goals as goal

pub returns : goal.returns
returns c x = in_less _ _ x c.ranges.other.fits
