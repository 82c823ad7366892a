-- `skip_idle` meets its contract. The loop: every record passed leaves the state as it is, so the run is under way as
-- before.
use Rattle.std.proofs.Common.{◌≡◌, ◌≤◌, ◌<◌, ◌+◌, ◌-◌, length, add-zero, arith, true, false, refl, sym, ◌∙◌}
use Rattle.plan.proofs.Arrays.{read_in}
use Rattle.plan.proofs.Tests.{clash}
use Rattle.scheduler.specs.Answers.{idle}
use Rattle.lists.specs.Types.{Finish}
use Rattle.lists.proofs.Running.{close_at, skip_closed, one_before, pass_finishes}
use Rattle.lists.proofs.list.skip_idle.Goals as goal
use Rattle.lists.proofs.list.skip_idle.Goals.{else-not-unclosed-via-then-not-unclosed+else-not-is_idle, else-not-unclosed-via-else-not-unclosed}

pub loop-at-preserved-then-state-number : goal.loop-at-preserved-then-state-number
loop-at-preserved-then-state-number c =
    let two : c.skip_submits.result.0 + 1 < length c.args.calls.now = omega (arith, c.if-calls-at.false) in
    let here = close_at c.args.calls.now c.skip_submits.result.0 _ refl _ refl two c.in-17.is in
    let shut = read_in 8 c.args.state.now.closed _ false c.if-number-lt8.true ∙ c.if-state-number.true in (
      omega (arith, c.loop-at.invariant.0, c.skip_submits.ensures.ahead),
      omega (arith, two),
      omega (arith, c.skip_submits.ensures.inside.1),
      λ first decoding s k u.
          skip_closed k (c.skip_submits.ensures.same first decoding s k (c.loop-at.invariant.3 first decoding s k u)) _ _ here shut refl,
    )

pub loop-at-preserved-then-unclosed : goal.loop-at-preserved-then-unclosed
loop-at-preserved-then-unclosed c =
    let all = one_before c.args.calls.now c.skip_submits.result.0 _ c.in-18.is c.skip_finishes-past.ensures.finishes in
    let told = sym c.turns_down-unclosed.ensures ∙ c.if-unclosed.true in
    let inside = c.skip_finishes-past.ensures.inside (omega (arith, c.if-calls-at.false)) in (
      omega (arith, c.loop-at.invariant.0, c.skip_submits.ensures.ahead, c.skip_finishes-past.ensures.ahead),
      inside,
      omega (arith, c.skip_submits.ensures.inside.1, c.skip_finishes-past.ensures.ahead),
      λ first decoding s k u.
          pass_finishes k true told (λ e. absurd (clash refl e)) _ _ _ _ _
          (c.skip_submits.ensures.same first decoding s k (c.loop-at.invariant.3 first decoding s k u)) all inside (omega (arith, c.skip_finishes-past.ensures.ahead)) refl,
    )

pub loop-at-preserved : goal.loop-at-preserved
loop-at-preserved c =
    let all = one_before c.args.calls.now c.skip_submits.result.0 _ c.in-18.is c.skip_finishes-past.ensures.finishes in
    let told = sym c.turns_down-unclosed.ensures ∙ c.if-unclosed.false in
    let inside = c.skip_finishes-past.ensures.inside (omega (arith, c.if-calls-at.false)) in
    let still : idle c.args.state.now Finish ≡ true = elim c.else-not-unclosed.branch [
      | else-not-unclosed-via-then-not-unclosed+else-not-is_idle w ↦ sym w.is_idle.ensures ∙ w.if-not-is_idle.false
      | else-not-unclosed-via-else-not-unclosed w ↦ absurd (clash w.if-not-unclosed.false c.if-unclosed.false)
    ] in (
      omega (arith, c.loop-at.invariant.0, c.skip_submits.ensures.ahead, c.skip_finishes-past.ensures.ahead),
      inside,
      omega (arith, c.skip_submits.ensures.inside.1, c.skip_finishes-past.ensures.ahead),
      λ first decoding s k u.
          pass_finishes k false told (λ e. still) (c.skip_finishes-past.result - c.skip_submits.result.0) _ _ _ _
          (c.skip_submits.ensures.same first decoding s k (c.loop-at.invariant.3 first decoding s k u)) all inside (omega (arith, c.skip_finishes-past.ensures.ahead)) (sym (add-zero c.skip_submits.result.1)),
    )
