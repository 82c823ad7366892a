-- `Ground::spare` meets its contract. The loop: what the rules from i on leave of the events at hand.
use native.Mathlib.Omega.{arith}
use Rattle.members.specs.Sets.{in_set, unbroken}
use Rattle.members.proofs.PlaceReads.{standing_stands}
use Rattle.members.proofs.Sparing.{spared_next}
use Rattle.members.proofs.ground.Ground.spare.Goals as goal

pub loop-i-preserved-in-Some : goal.loop-i-preserved-in-Some
loop-i-preserved-in-Some c = λ p marks f is.
    spared_next p (unbroken marks) f (in_set c.args.hand) (in_set c.loop-i.able) (c.loop-i.invariant p marks f is) _ _
    (standing_stands p (unbroken marks) _ _ (c.in-Some.ensures p marks f is) (omega (arith, is.counts, c.loop-i-test.true)))
    (c.drop_lacking-able.ensures p f is.shows)
