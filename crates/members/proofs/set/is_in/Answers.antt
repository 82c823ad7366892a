-- `is_in` meets its contract: in both branches the test of the bound is known.
use native.Mathlib.Omega.{arith}
use Rattle.std.proofs.lemmas.Bool.Decides.{nat_tests}
use Rattle.std.proofs.lemmas.Nat.Bits.{shr_and_one}
use Rattle.members.specs.Sets.{in_set}
use Rattle.members.proofs.set.is_in.Goals as goal

pub returns-then-event-lt16 : goal.returns-then-event-lt16
unfolding in_set
returns-then-event-lt16 c = grind (arith, nat_tests, shr_and_one)

pub returns-else-event-lt16 : goal.returns-else-event-lt16
unfolding in_set
returns-else-event-lt16 c = grind (arith, nat_tests)
