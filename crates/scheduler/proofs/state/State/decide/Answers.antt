-- `State::decide` meets its contract.
use mathlib.Core.Path.{sym, ◌∙◌}
use Rattle.scheduler.proofs.CallSteps.{decide_found, decide_refused, decide_done}
use Rattle.scheduler.proofs.state.State.decide.Goals as goal

pub returns-in-Some : goal.returns-in-Some
returns-in-Some c = c.do_order.ensures ∙ decide_found c.args.self.now c.args.event _ c.in-Some.ensures

pub returns-then-can_refuse : goal.returns-then-can_refuse
returns-then-can_refuse c =
    c.settle_as.ensures ∙ decide_refused c.args.self.now c.args.event c.in_default.ensures (sym c.can_refuse.ensures ∙ c.if-can_refuse.true)

pub returns-else-can_refuse : goal.returns-else-can_refuse
returns-else-can_refuse c =
    c.do_alone.ensures ∙ decide_done c.args.self.now c.args.event c.in_default.ensures (sym c.can_refuse.ensures ∙ c.if-can_refuse.false)
