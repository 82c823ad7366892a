-- `State::hold` meets its contract.
use Rattle.scheduler.specs.State.{hold}
use borrow.Author.Tests.{lt-ltb, le-ltb}
use Rattle.scheduler.proofs.state.State.hold.Goals as goal

pub returns-then-event-lt16 : goal.returns-then-event-lt16
unfolding hold
returns-then-event-lt16 c = simp (lt-ltb _ _ c.if-event-lt16.true)

pub returns-else-event-lt16 : goal.returns-else-event-lt16
unfolding hold
returns-else-event-lt16 c = simp (le-ltb _ _ c.if-event-lt16.false)
