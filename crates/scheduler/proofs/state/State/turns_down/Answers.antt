-- `State::turns_down` meets its contract.
use mathlib.Core.Bool.{Bool, not, ◌||◌}
use mathlib.Core.Path.{refl, sym, ◌∙◌, ap}
use Rattle.scheduler.specs.State.{closed_at}
use Rattle.scheduler.specs.Answers.{turns_down}
use Rattle.scheduler.proofs.CallSteps.{submit_turns, close_turns, finish_turns, move_turns}
use Rattle.scheduler.proofs.state.State.turns_down.Goals as goal

pub returns-in-Submit : goal.returns-in-Submit
returns-in-Submit c = submit_turns _ _ ∙ ap (turns_down _) (sym c.in-Submit.is)

pub returns-then-not-has_event : goal.returns-then-not-has_event
returns-then-not-has_event c =
    let not-any = c.if-not-has_event.true in
    ap not not-any
    ∙ ap (λ (b : Bool). not b || closed_at c.args.self.now c.in-Close.step) (sym not-any ∙ c.has_event.ensures c.args.self.now.plan refl refl)
    ∙ close_turns c.args.self.now _
    ∙ ap (turns_down c.args.self.now) (sym c.in-Close.is)

pub returns-else-not-has_event : goal.returns-else-not-has_event
returns-else-not-has_event c =
    c.is_closed.ensures
    ∙ ap (λ (b : Bool). not b || closed_at c.args.self.now c.in-Close.step) (sym c.if-not-has_event.false ∙ c.has_event.ensures c.args.self.now.plan refl refl)
    ∙ close_turns c.args.self.now _
    ∙ ap (turns_down c.args.self.now) (sym c.in-Close.is)

pub returns-in-Finish : goal.returns-in-Finish
returns-in-Finish c = c.has_unclosed.ensures ∙ finish_turns _ ∙ ap (turns_down _) (sym c.in-Finish.is)

pub returns-in-Advance : goal.returns-in-Advance
returns-in-Advance c = move_turns _ _ ∙ ap (turns_down _) (sym c.in-Advance.is)
