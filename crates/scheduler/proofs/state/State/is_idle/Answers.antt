-- `State::is_idle` meets its contract.
use mathlib.Core.Logic.{inl, inr}
use mathlib.Core.Path.{◌∙◌, ap}
use Rattle.plan.specs.Fates.{is_open}
use Rattle.scheduler.proofs.CallSteps.{submit_idle, close_idle, finish_idle, move_idle}
use Rattle.scheduler.proofs.state.State.is_idle.Goals as goal

pub returns-in-Submit : goal.returns-in-Submit
returns-in-Submit c = submit_idle c.args.self.now _ _ _ c.in-Submit.is (c.is_open.ensures ∙ ap is_open c.fate.ensures)

pub returns-in-Finish : goal.returns-in-Finish
returns-in-Finish c = finish_idle _ _ _ c.in-Finish.is c.has_held.ensures

pub returns-in-Close : goal.returns-in-Close
returns-in-Close c = elim c.in-Close.is [ inl k ↦ close_idle _ _ k.0 k.1 | inr m ↦ move_idle _ _ m.0 m.1 ]
