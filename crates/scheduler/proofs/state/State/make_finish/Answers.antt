-- `State::make_finish` meets its contract.
use mathlib.Core.Path.{◌∙◌, ap}
use Rattle.scheduler.specs.Calls.{refuse_held, finish}
use Rattle.scheduler.proofs.state.State.make_finish.Goals as goal

pub returns : goal.returns
unfolding finish
returns c = c.refuse_held.ensures ∙ ap (refuse_held 16) c.settle.ensures
