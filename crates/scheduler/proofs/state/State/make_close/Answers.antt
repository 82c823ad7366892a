-- `State::make_close` meets its contract.
use mathlib.Core.Path.{◌∙◌, ap}
use Rattle.plan.specs.Plans.{event_count}
use Rattle.scheduler.specs.Prelude.{State}
use Rattle.scheduler.specs.Calls.{settle, lapse, close_step}
use Rattle.scheduler.specs.State.{shut}
use Rattle.scheduler.proofs.state.State.make_close.Goals as goal

pub returns : goal.returns
unfolding close_step shut
returns c =
    c.settle.ensures
    ∙ ap settle (c.lapse_step.ensures ∙ ap (λ (s : State). lapse (event_count s.plan) 0 s c.args.step) c.shut.ensures)
