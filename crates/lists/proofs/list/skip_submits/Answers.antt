-- `skip_submits` meets its contract. The loop: every submit passed leaves the state as it is, so the run is under way
-- as before.
use Rattle.std.proofs.Common.{◌+◌, ◌≤◌, length, arith, refl}
use Rattle.scheduler.proofs.CallSteps.{fate_in}
use Rattle.scheduler.proofs.CoherentParts.{coherent_few}
use Rattle.lists.proofs.Running.{submit_at, skip_submitted, skip_unknown}
use Rattle.lists.proofs.list.skip_submits.Goals as goal
use Rattle.lists.proofs.list.skip_submits.Goals.{then-count-number, else-count-number+else-is_open}

pub bounds-state-number : goal.bounds-state-number
bounds-state-number c = omega (arith, c.if-count-number.false, coherent_few c.args.state.now c.requires.0)

pub loop-at-preserved : goal.loop-at-preserved
loop-at-preserved c =
    let here = submit_at c.args.calls.now c.loop-at.at _ refl _ refl c.loop-at-test.true c.if-calls-at-eq-SUBMIT.true in
    let ahead : c.args.from ≤ c.loop-at.at + 2 = omega (arith, c.loop-at.invariant.0) in
    let inside : c.loop-at.at + 2 ≤ length c.args.calls.now = omega (arith, c.loop-at-test.true) in elim c.if-count-number.branch [
      | then-count-number w ↦ (
        ahead,
        inside,
        omega (arith, w.refused-is, c.loop-at.invariant.2),
        λ first decoding s k u.
            skip_unknown k (c.loop-at.invariant.3 first decoding s k u) _ _ here w.if-count-number.true w.refused-is,
      )
      | else-count-number+else-is_open w ↦
          let few = coherent_few c.args.state.now c.requires.0 in
          let opened = fate_in c.args.state.now _ w.is_open.result (omega (arith, w.if-count-number.false, few)) w.is_open.ensures in (
            ahead,
            inside,
            omega (arith, w.refused-is, c.loop-at.invariant.2),
            λ first decoding s k u.
                skip_submitted k (c.loop-at.invariant.3 first decoding s k u) _ _ w.is_open.result here w.if-count-number.false opened w.if-is_open.false w.refused-is,
          )
    ]
