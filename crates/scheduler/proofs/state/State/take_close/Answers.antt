-- `State::take_close` meets its contract.
use mathlib.Core.Path.{refl, sym, ◌∙◌}
use Rattle.scheduler.specs.Prelude.{Close, Unknown, AlreadyClosed}
use Rattle.scheduler.proofs.CallSteps.{take_refused, take_accepted, close_unknown, close_again, close_known, close_reply}
use Rattle.scheduler.proofs.state.State.take_close.Goals as goal

pub returns-then-not-has_event : goal.returns-then-not-has_event
returns-then-not-has_event c =
    c.turn_down.ensures
    ∙ take_refused c.args.self (Close c.args.step) Unknown
    (close_unknown c.args.self c.args.step (sym (c.has_event.ensures c.args.self.plan refl refl) ∙ c.if-not-has_event.true))

pub returns-then-is_closed : goal.returns-then-is_closed
returns-then-is_closed c =
    c.turn_down-then-is_closed.ensures
    ∙ take_refused c.args.self (Close c.args.step) AlreadyClosed
    (close_again c.args.self c.args.step
    (sym (c.has_event.ensures c.args.self.plan refl refl) ∙ c.if-not-has_event.false)
    (sym c.is_closed.ensures ∙ c.if-is_closed.true))

pub returns : goal.returns
returns c =
    take_accepted c.args.self (Close c.args.step) _
    (close_known c.args.self c.args.step
    (sym (c.has_event.ensures c.args.self.plan refl refl) ∙ c.if-not-has_event.false)
    (sym c.is_closed.ensures ∙ c.if-is_closed.false))
    (close_reply c.args.self c.args.step _ c.make_close.ensures)
