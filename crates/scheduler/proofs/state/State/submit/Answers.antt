-- `State::submit` meets its contract.
use mathlib.Core.Path.{sym, ◌∙◌}
use Rattle.scheduler.proofs.CallSteps.{call_incoherent, take_call_lem}
use Rattle.scheduler.proofs.state.State.submit.Goals as goal

pub returns-then-not-is_coherent : goal.returns-then-not-is_coherent
returns-then-not-is_coherent c = c.turn_down.ensures ∙ call_incoherent _ _ (sym c.is_coherent.ensures ∙ c.if-not-is_coherent.true)

pub returns : goal.returns
returns c = c.take_submit.ensures ∙ take_call_lem _ _ (sym c.is_coherent.ensures ∙ c.if-not-is_coherent.false)
