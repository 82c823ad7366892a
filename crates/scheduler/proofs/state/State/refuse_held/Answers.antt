-- `State::refuse_held` meets its contract. The loop: the refusals that are left wind up the whole.
use native.Mathlib.Omega.{arith}
use Prim.Native.Nat.{ℕ, ◌+◌, ◌-◌}
use mathlib.Core.Path.{◌≡◌, sym, ◌∙◌, ap}
use Rattle.scheduler.specs.Calls.{settle, refuse_held}
use Rattle.scheduler.proofs.SettleLoops.{refuse_rest, refuse_more, refuse_end}
use Rattle.scheduler.proofs.state.State.refuse_held.Goals as goal

pub returns-in_default : goal.returns-in_default
returns-in_default c =
    sym (c.loop-turn.invariant
    ∙ refuse_rest c.loop-turn.self c.view.result c.view.ensures _ (omega (arith, c.loop-turn-test.true)) (sym c.in_default.ensures))

pub loop-turn-preserved : goal.loop-turn-preserved
loop-turn-preserved c =
    let left = 16 - c.loop-turn._turn in
    let less : left - 1 ≡ 16 - (c.loop-turn._turn + 1) = omega arith in
    c.loop-turn.invariant
    ∙ refuse_more c.loop-turn.self c.view.result c.view.ensures left (omega (arith, c.loop-turn-test.true)) _ (sym c.in-Some.ensures)
    ∙ ap (refuse_held (left - 1)) (sym (c.settle.ensures ∙ ap settle c.settle_as.ensures))
    ∙ ap (λ (n : ℕ). refuse_held n c.settle.new.self) less

pub returns : goal.returns
returns c = sym (c.loop-turn.invariant ∙ refuse_end _ c.loop-turn.self (omega (arith, c.loop-turn-test.false)))
