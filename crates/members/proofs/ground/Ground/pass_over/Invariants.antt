-- `Ground::pass_over` meets its contract. The loop: the members after the rules below i.
use Prim.Native.Nat.{ℕ}
use mathlib.Core.Bool.{Bool}
use mathlib.Core.List.{List}
use Rattle.plan.specs.Fates.{Fates}
use Rattle.members.specs.Prelude.{Plan}
use Rattle.members.specs.Sets.{in_set, unbroken, IsGround}
use Rattle.members.specs.Growing.{Sure}
use Rattle.members.proofs.Growing.{Passing}
use Rattle.members.proofs.ground.Ground.pass_over.Given as goal

abbrev pub invariant-loop-i : goal.invariant-loop-i
invariant-loop-i l = (p : Plan) (marks : List Bool) (f : Fates) (e : ℕ)
    → IsGround p marks f l.self
    → Sure p (unbroken marks) f (in_set l.able) e l.initial.next
    → Passing p (unbroken marks) f l.able e l.initial.next l.next l.i
