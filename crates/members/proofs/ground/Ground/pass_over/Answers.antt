-- `Ground::pass_over` meets its contract. The loop: the members after the rules below i.
use native.Mathlib.Omega.{arith}
use mathlib.Core.Path.{sym, ◌∙◌}
use Rattle.members.specs.Sets.{unbroken}
use Rattle.members.proofs.PlaceReads.{standing_at, standing_stands, standing_not}
use Rattle.members.proofs.Growing.{pass_broken, pass_next, pass_fails, pass_end}
use Rattle.members.proofs.ground.Ground.pass_over.Goals as goal
use Rattle.members.proofs.ground.Ground.pass_over.Goals.{in-Some+in_ok-next, in_default}

pub returns-in_err-next : goal.returns-in_err-next
returns-in_err-next c = λ p marks f e is sure.
    let old = c.loop-i.invariant p marks f e is sure in
    let told = c.in-Some.ensures p marks f is in
    rw c.from_residual.ensures (pass_fails p (unbroken marks) f c.args.able e _ _ c.loop-i.i old _
    (standing_stands p (unbroken marks) c.loop-i.i _ told (omega (arith, is.counts, c.loop-i-test.true)))
    (standing_at p (unbroken marks) c.loop-i.i _ told).1
    (c.in_err-next.ensures p f is.shows))

pub loop-i-preserved : goal.loop-i-preserved
loop-i-preserved c = λ p marks f e is sure.
    let old = c.loop-i.invariant p marks f e is sure in
    (elim c.match-standing.branch [
      | in-Some+in_ok-next w ↦
          let told = w.in-Some.ensures p marks f is in
          rw w.next-is (pass_next p (unbroken marks) f c.args.able e _ _ c.loop-i.i old _
          (standing_stands p (unbroken marks) c.loop-i.i _ told (omega (arith, is.counts, c.loop-i-test.true)))
          (standing_at p (unbroken marks) c.loop-i.i _ told).1
          _
          (w.in_ok-next.ensures p f is.shows))
      | in_default w ↦ rw w.next-is (pass_broken p (unbroken marks) f c.args.able e _ _ c.loop-i.i old (standing_not p (unbroken marks) c.loop-i.i (sym w.in_default.is ∙ c.standing.ensures p marks f is)))
    ])

pub returns : goal.returns
returns c = λ p marks f e is sure.
    pass_end p _ f _ e _ _ c.loop-i.i (c.loop-i.invariant p marks f e is sure) (omega (arith, is.counts, c.loop-i-test.false))
