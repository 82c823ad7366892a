-- `with_if` meets its contract.
use Rattle.members.proofs.Bits.{in_with}
use Rattle.members.proofs.set.with_if.Goals as goal

pub returns-then-is-event : goal.returns-then-is-event
returns-then-is-event c x = in_with _ _ _ x c.if-is-event.true
