-- `State::shut` meets its contract.
use Rattle.scheduler.specs.State.{shut}
use borrow.Author.Tests.{lt-ltb, le-ltb}
use Rattle.scheduler.proofs.state.State.shut.Goals as goal

pub returns-then-step-lt8 : goal.returns-then-step-lt8
unfolding shut
returns-then-step-lt8 c = simp (lt-ltb _ _ c.if-step-lt8.true)

pub returns-else-step-lt8 : goal.returns-else-step-lt8
unfolding shut
returns-else-step-lt8 c = simp (le-ltb _ _ c.if-step-lt8.false)
