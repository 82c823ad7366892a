-- `skip_idle` meets its contract. The loop: every record passed leaves the state as it is, so the journal is under way as
-- before.
use Prim.Native.Nat.{◌-◌}
use native.Mathlib.Omega.{arith}
use mathlib.Core.Path.{refl, sym, ◌∙◌}
use Rattle.recorder.proofs.OpenSteps.{one_before, skip_finished}
use Rattle.recorder.proofs.open.skip_idle.Goals as goal

pub loop-at-preserved : goal.loop-at-preserved
loop-at-preserved c =
    let accepted = sym c.turns_down.ensures ∙ c.if-turns_down.false in
    let still = sym c.is_idle.ensures ∙ c.if-not-is_idle.false in
    let rest = one_before c.args.bytes.now c.skip_submits-at.result _ c.if-bytes-at-ne-FINISH.false c.skip_finishes-at.ensures.finishes in
    let within = c.skip_finishes-at.ensures.inside (omega (arith, c.if-bytes-at.false)) in (
      omega (arith, c.loop-at.invariant.0, c.skip_submits-at.ensures.ahead, c.skip_finishes-at.ensures.ahead),
      within,
      λ s b u.
          skip_finished accepted still (c.skip_finishes-at.result - c.skip_submits-at.result) c.skip_submits-at.result _
          (c.skip_submits-at.ensures.same s b (c.loop-at.invariant.2 s b u)) rest within
          (omega (arith, c.skip_finishes-at.ensures.ahead)),
    )
