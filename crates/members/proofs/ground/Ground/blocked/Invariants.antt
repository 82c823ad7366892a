-- `Ground::blocked` meets its contract. The loop: the set has what the rules below i block.
use Prim.Native.Nat.{ℕ, ◌<◌}
use mathlib.Core.Bool.{Bool}
use mathlib.Core.List.{List}
use mathlib.Core.Path.{◌≡◌}
use Rattle.plan.specs.Base.{any_below}
use Rattle.plan.specs.Fates.{Fates}
use Rattle.members.specs.Prelude.{Plan}
use Rattle.members.specs.Sets.{in_set, unbroken, IsGround}
use Rattle.members.proofs.Blocking.{blocks_at}
use Rattle.members.proofs.ground.Ground.blocked.Given as goal

abbrev pub invariant-loop-i : goal.invariant-loop-i
invariant-loop-i l = (p : Plan) (marks : List Bool) (f : Fates)
    → IsGround p marks f l.self
    → (x : ℕ)
    → x < 16
    → in_set l.blocked x ≡ any_below l.i (blocks_at p f (unbroken marks) l.left x)
