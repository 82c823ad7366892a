-- `State::find_held` meets its contract. The loop: what is left of it from e on is the whole answer, and the events that
-- count no more as able have no order.
use Rattle.plan.specs.Plans.{event_count}
use Rattle.members.specs.Sets.{in_set}
use Rattle.scheduler.specs.Internal.Hopeful.{Hopeful}
use Rattle.plan.proofs.Loops.{Rest}
use Rattle.scheduler.proofs.SettleLoops.{doing}
use Rattle.scheduler.proofs.state.State.find_held.Given as goal

abbrev pub invariant-loop-e : goal.invariant-loop-e
invariant-loop-e l = Rest (event_count l.self.plan) (doing l.self) l.e × Hopeful l.self (in_set l.able)
