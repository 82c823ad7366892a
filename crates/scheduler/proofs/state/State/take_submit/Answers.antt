-- `State::take_submit` meets its contract.
use mathlib.Core.Path.{sym, ◌∙◌, ap}
use Rattle.plan.specs.Fates.{is_open}
use Rattle.scheduler.specs.Prelude.{Submit, Unknown}
use Rattle.scheduler.proofs.Branches.{submit_same}
use Rattle.scheduler.proofs.CallSteps.{take_refused, take_accepted, submit_unknown, submit_known, submit_reply}
use Rattle.scheduler.proofs.state.State.take_submit.Goals as goal

pub returns-then-self-event : goal.returns-then-self-event
returns-then-self-event c =
    c.turn_down.ensures
    ∙ take_refused c.args.self (Submit c.args.event) Unknown (submit_unknown c.args.self c.args.event c.if-self-event.true)

-- the event is not open: nothing changes
pub returns-then-not-is_open : goal.returns-then-not-is_open
returns-then-not-is_open c =
    let settled = sym (ap is_open c.fate-fate.ensures) ∙ sym c.is_open.ensures ∙ c.if-not-is_open.true in
    take_accepted c.args.self (Submit c.args.event) _
    (submit_known c.args.self c.args.event c.if-self-event.false)
    (submit_reply c.args.self c.args.event _ _ (sym (submit_same c.args.self c.args.event settled)) c.fate-fate.ensures)

pub returns : goal.returns
returns c =
    take_accepted c.args.self (Submit c.args.event) _
    (submit_known c.args.self c.args.event c.if-self-event.false)
    (submit_reply c.args.self c.args.event _ _ c.make_submit.ensures c.fate.ensures)
