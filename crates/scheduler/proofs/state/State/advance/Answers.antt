-- `State::advance` meets its contract.
use mathlib.Core.Path.{sym, ◌∙◌}
use Rattle.scheduler.specs.Prelude.{Advance, Backward}
use Rattle.scheduler.proofs.CallSteps.{call_incoherent, take_refused, take_accepted, take_call_lem, move_early, move_taken, move_reply}
use Rattle.scheduler.proofs.state.State.advance.Goals as goal

pub returns-then-not-is_coherent : goal.returns-then-not-is_coherent
returns-then-not-is_coherent c = c.turn_down.ensures ∙ call_incoherent _ _ (sym c.is_coherent.ensures ∙ c.if-not-is_coherent.true)

pub returns-then-minute-self : goal.returns-then-minute-self
returns-then-minute-self c =
    c.turn_down-then-minute-self.ensures
    ∙ take_refused c.args.self (Advance c.args.minute) Backward (move_early c.args.self c.args.minute c.if-minute-self.true)
    ∙ take_call_lem c.args.self (Advance c.args.minute) (sym c.is_coherent.ensures ∙ c.if-not-is_coherent.false)

pub returns : goal.returns
returns c =
    take_accepted c.args.self (Advance c.args.minute) _
    (move_taken c.args.self c.args.minute c.if-minute-self.false)
    (move_reply c.args.self c.args.minute _ c.make_advance.ensures)
    ∙ take_call_lem c.args.self (Advance c.args.minute) (sym c.is_coherent.ensures ∙ c.if-not-is_coherent.false)
