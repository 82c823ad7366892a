-- `State::finish` meets its contract.
use mathlib.Core.Path.{sym, ◌∙◌}
use Rattle.scheduler.specs.Prelude.{Finish, NotClosed}
use Rattle.scheduler.proofs.CallSteps.{call_incoherent, take_refused, take_accepted, take_call_lem, finish_unclosed, finish_closed, finish_reply}
use Rattle.scheduler.proofs.state.State.finish.Goals as goal

pub returns-then-not-is_coherent : goal.returns-then-not-is_coherent
returns-then-not-is_coherent c = c.turn_down.ensures ∙ call_incoherent _ _ (sym c.is_coherent.ensures ∙ c.if-not-is_coherent.true)

pub returns-then-has_unclosed : goal.returns-then-has_unclosed
returns-then-has_unclosed c =
    c.turn_down-then-has_unclosed.ensures
    ∙ take_refused c.args.self Finish NotClosed (finish_unclosed c.args.self (sym c.has_unclosed.ensures ∙ c.if-has_unclosed.true))
    ∙ take_call_lem c.args.self Finish (sym c.is_coherent.ensures ∙ c.if-not-is_coherent.false)

pub returns : goal.returns
returns c =
    take_accepted c.args.self Finish _
    (finish_closed c.args.self (sym c.has_unclosed.ensures ∙ c.if-has_unclosed.false))
    (finish_reply c.args.self _ c.make_finish.ensures)
    ∙ take_call_lem c.args.self Finish (sym c.is_coherent.ensures ∙ c.if-not-is_coherent.false)
