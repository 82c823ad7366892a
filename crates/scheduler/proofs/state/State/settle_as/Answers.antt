-- `State::settle_as` meets its contract.
use Rattle.scheduler.specs.State.{settle_as}
use borrow.Author.Tests.{lt-ltb, le-ltb}
use Rattle.scheduler.proofs.state.State.settle_as.Goals as goal
use Rattle.scheduler.proofs.state.State.settle_as.Goals.{then-event-lt16, else-event-lt16}

pub returns-then-len-lt16 : goal.returns-then-len-lt16
unfolding settle_as
returns-then-len-lt16 c = elim c.if-event-lt16.branch [
  | then-event-lt16 w ↦ simp (w.self-is, lt-ltb _ _ w.if-event-lt16.true, lt-ltb _ _ c.if-len-lt16.true)
  | else-event-lt16 w ↦ simp (w.self-is, le-ltb _ _ w.if-event-lt16.false, lt-ltb _ _ c.if-len-lt16.true)
]

pub returns-else-len-lt16 : goal.returns-else-len-lt16
unfolding settle_as
returns-else-len-lt16 c = elim c.if-event-lt16.branch [
  | then-event-lt16 w ↦ simp (w.self-is, lt-ltb _ _ w.if-event-lt16.true, le-ltb _ _ c.if-len-lt16.false)
  | else-event-lt16 w ↦ simp (w.self-is, le-ltb _ _ w.if-event-lt16.false, le-ltb _ _ c.if-len-lt16.false)
]
