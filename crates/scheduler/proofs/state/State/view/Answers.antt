-- `State::view` meets its contract.
use mathlib.Core.Path.{refl}
use Rattle.scheduler.proofs.state.State.view.Goals as goal

pub returns : goal.returns
returns c = c.of.ensures _ refl refl
