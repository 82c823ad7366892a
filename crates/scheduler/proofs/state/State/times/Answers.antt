-- `State::times` meets its contract.
use Rattle.scheduler.proofs.Timings.{timing_of}
use Rattle.scheduler.proofs.state.State.times.Goals as goal

pub returns : goal.returns
returns c = timing_of _ _ c.of.ensures
