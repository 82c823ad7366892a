-- `skip_submits` meets its contract. The loop: every record passed leaves the state as it is, so the journal is under
-- way as before.
use native.Mathlib.Omega.{arith}
use mathlib.Core.Path.{refl}
use Rattle.recorder.proofs.OpenSteps.{skip_submitted}
use Rattle.recorder.proofs.open.skip_submits.Goals as goal

pub loop-at-preserved : goal.loop-at-preserved
loop-at-preserved c = (
  omega (arith, c.loop-at.invariant.0),
  omega (arith, c.loop-at-test.true),
  λ s b u.
      skip_submitted (c.loop-at.invariant.2 s b u) c.if-bytes-at-eq-SUBMIT.true c.loop-at-test.true (c.is_past.ensures c.if-is_past.true),
)
