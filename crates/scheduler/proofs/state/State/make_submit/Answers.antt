-- `State::make_submit` meets its contract.
use mathlib.Core.Path.{sym, ◌∙◌, ap}
use Rattle.plan.specs.Fates.{is_open}
use Rattle.plan.specs.Plans.{delayable}
use Rattle.scheduler.specs.Prelude.{Plan, State}
use Rattle.scheduler.specs.Calls.{settle, decide}
use Rattle.scheduler.proofs.Laws.{plan_hold}
use Rattle.scheduler.proofs.Branches.{submit_same, submit_delayed, submit_decided}
use Rattle.scheduler.proofs.state.State.make_submit.Goals as goal
use Rattle.scheduler.proofs.state.State.make_submit.Goals.{then-not-can_wait, else-not-can_wait}

pub returns-then-not-is_open : goal.returns-then-not-is_open
returns-then-not-is_open c =
    sym (submit_same c.args.self.now c.args.event (sym (ap is_open c.fate.ensures) ∙ sym c.is_open.ensures ∙ c.if-not-is_open.true))

pub returns : goal.returns
returns c =
    let s = c.args.self.now in
    let e = c.args.event in
    let fresh = sym (ap is_open c.fate.ensures) ∙ sym c.is_open.ensures ∙ c.if-not-is_open.false in
    let same = ap (λ (t : State). t.plan) c.hold.ensures ∙ plan_hold s e in
    let waits = sym (ap (λ (p : Plan). delayable p e) same) ∙ sym c.can_wait.ensures in
    c.settle.ensures
    ∙ (elim c.if-not-can_wait.branch [
      | then-not-can_wait w ↦
          ap settle (w.self-is ∙ w.decide.ensures ∙ ap (λ (t : State). decide t e) c.hold.ensures)
          ∙ sym (submit_decided s e fresh (waits ∙ w.if-not-can_wait.true))
      | else-not-can_wait w ↦
          ap settle (w.self-is ∙ c.hold.ensures) ∙ sym (submit_delayed s e fresh (waits ∙ w.if-not-can_wait.false))
    ])
