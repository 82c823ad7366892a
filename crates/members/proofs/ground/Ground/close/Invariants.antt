-- `Ground::close` meets its contract. The loop: members that lie in every set that would do, closed where a pass found no more.
use Prim.Native.Nat.{◌-◌}
use mathlib.Core.Bool.{Bool}
use mathlib.Core.List.{List}
use Rattle.plan.specs.Fates.{Fates}
use Rattle.members.specs.Prelude.{Plan}
use Rattle.members.specs.Sets.{unbroken, IsGround}
use Rattle.members.proofs.Growing.{Closing}
use Rattle.members.proofs.ground.Ground.close.Given as goal

abbrev pub invariant-loop-before : goal.invariant-loop-before
invariant-loop-before l = (p : Plan) (marks : List Bool) (f : Fates)
    → IsGround p marks f l.self
    → Closing p (unbroken marks) f l.able l.event l.members l.before

abbrev pub decreases-loop-before : goal.decreases-loop-before
decreases-loop-before l = 255 - l.before
