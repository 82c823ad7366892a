-- `State::settle` meets its contract. The loop: the turns that are left settle the whole, and the times stay the state's.
use native.Mathlib.Omega.{arith}
use Prim.Native.Nat.{ℕ, ◌+◌, ◌-◌}
use mathlib.Core.Path.{◌≡◌, refl, sym, ◌∙◌, ap}
use Rattle.std.specs.declared.option.Option.{Option}
use Rattle.std.specs.declared.option.Option.TheVariants.{Some as some}
use Rattle.scheduler.specs.Prelude.{State}
use Rattle.scheduler.specs.Calls.{settle_once, settle_up_to, settle}
use Rattle.scheduler.proofs.Timings.{timing_once}
use Rattle.scheduler.proofs.SettleLoops.{none_turned, turn_refuses, turn_does, turn_rests, up_rest, up_next, up_end, settle_unheld}
use Rattle.scheduler.proofs.state.State.settle.Goals as goal
use Rattle.scheduler.proofs.state.State.settle.Goals.{in-Some, in_default+in-Some-find_held}

pub returns-then-not-has_held : goal.returns-then-not-has_held
returns-then-not-has_held c = sym (settle_unheld c.args.self.now (sym c.has_held.ensures ∙ c.if-not-has_held.true))

pub loop-turn-init : goal.loop-turn-init
loop-turn-init c = (refl, c.times-times.ensures)

-- nothing is held any more
pub returns-then-ground-eq0 : goal.returns-then-ground-eq0
unfolding settle
returns-then-ground-eq0 c =
    let s = c.loop-turn.self in
    let rests = none_turned s c.ground-ground.result.view c.ground-ground.ensures.shows c.if-ground-eq0.true in
    sym (c.loop-turn.invariant.0 ∙ up_rest s _ rests)

-- no turn is possible
pub returns-in_default-find_held : goal.returns-in_default-find_held
unfolding settle
returns-in_default-find_held c =
    let s = c.loop-turn.self in
    let unrefused = sym (c.in_default.ensures s c.ground-ground.ensures c.loop-turn.invariant.1) in
    sym (c.loop-turn.invariant.0 ∙ up_rest s _ (turn_rests s unrefused c.in_default-find_held.ensures))

-- a turn is made
pub loop-turn-preserved : goal.loop-turn-preserved
loop-turn-preserved c =
    let s = c.loop-turn.self in
    let t = c.match-find_barred.self in
    let left = 16 - c.loop-turn._turn in
    let less : left - 1 ≡ 16 - (c.loop-turn._turn + 1) = omega arith in
    let made : settle_once s ≡ some t = elim c.match-find_barred.branch [
      | in-Some w ↦
          turn_refuses s _ (sym (w.in-Some.ensures s c.ground-ground.ensures c.loop-turn.invariant.1))
          ∙ ap {B = Option State} some (sym (w.self-is ∙ w.settle_as.ensures))
      | in_default+in-Some-find_held w ↦
          turn_does s (sym (w.in_default.ensures s c.ground-ground.ensures c.loop-turn.invariant.1)) _ w.in-Some-find_held.ensures
          ∙ ap {B = Option State} some (sym (w.self-is ∙ w.do_order.ensures))
    ] in (
      c.loop-turn.invariant.0 ∙ up_next s left (omega (arith, c.loop-turn-test.true)) t made ∙ ap (λ (n : ℕ). settle_up_to n t) less,
      timing_once s t _ made c.loop-turn.invariant.1,
    )

pub returns : goal.returns
unfolding settle
returns c = sym (c.loop-turn.invariant.0 ∙ up_end _ c.loop-turn.self (omega (arith, c.loop-turn-test.false)))
