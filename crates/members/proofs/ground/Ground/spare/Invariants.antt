-- `Ground::spare` meets its contract. The loop: what the rules from i on leave of the events at hand.
use mathlib.Core.Bool.{Bool}
use mathlib.Core.List.{List}
use Rattle.plan.specs.Fates.{Fates}
use Rattle.members.specs.Prelude.{Plan}
use Rattle.members.specs.Sets.{in_set, unbroken, IsGround}
use Rattle.members.specs.Lacking.{Spared}
use Rattle.members.proofs.ground.Ground.spare.Given as goal

abbrev pub invariant-loop-i : goal.invariant-loop-i
invariant-loop-i l = (p : Plan) (marks : List Bool) (f : Fates)
    → IsGround p marks f l.self
    → Spared p (unbroken marks) f (in_set l.initial.able) (in_set l.able)
