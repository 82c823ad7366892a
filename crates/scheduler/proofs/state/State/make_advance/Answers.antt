-- `State::make_advance` meets its contract.
use Rattle.scheduler.specs.State.{set_minute}
use Rattle.scheduler.specs.Calls.{advance_to}
use Rattle.scheduler.proofs.state.State.make_advance.Goals as goal

pub returns : goal.returns
unfolding advance_to set_minute
returns c = c.settle.ensures
