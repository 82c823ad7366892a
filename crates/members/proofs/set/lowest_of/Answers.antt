-- `lowest_of` meets its contract.
use native.Mathlib.Omega.{arith}
use mathlib.Core.Path.{sym, ◌∙◌, ap}
use Rattle.plan.specs.Base.{lowest}
use Rattle.members.specs.Sets.{in_set}
use Rattle.members.proofs.Lowest.{lowest_empty, lowest_zeros}
use Rattle.members.proofs.set.lowest_of.Goals as goal

pub returns-then-set-eq0 : goal.returns-then-set-eq0
returns-then-set-eq0 c = sym (ap (λ m. lowest 16 (in_set m)) c.if-set-eq0.true ∙ lowest_empty)

pub returns-else-set-eq0 : goal.returns-else-set-eq0
returns-else-set-eq0 c = sym (lowest_zeros c.args.set (omega arith) c.ranges.set.fits)
