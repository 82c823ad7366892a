-- The parts of a conjunction of three tests, and of four.
use mathlib.Core.Bool.{Bool, true, ◌&&◌}
use mathlib.Core.Path.{◌≡◌}
use Rattle.plan.proofs.Tests.{and_left, and_right}

pub and_three : (a b c : Bool) → (a && b && c) ≡ true → (a ≡ true) × (b ≡ true) × (c ≡ true)
and_three a b c h = let ab = and_left (a && b) c h in (and_left a b ab, and_right a b ab, and_right (a && b) c h)

pub and_four : (a b c d : Bool) → (a && b && c && d) ≡ true → (a ≡ true) × (b ≡ true) × (c ≡ true) × (d ≡ true)
and_four a b c d h = let q = and_three (a && b) c d h in (and_left a b q.0, and_right a b q.0, q.1, q.2)
