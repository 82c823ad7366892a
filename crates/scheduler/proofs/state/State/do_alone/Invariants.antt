-- `State::do_alone` meets its contract. The loop: the rules below i that are strained are recorded.
use mathlib.Core.Path.{◌≡◌}
use Rattle.scheduler.specs.Calls.{record_broken}
use Rattle.scheduler.proofs.state.State.do_alone.Given as goal

abbrev pub invariant-loop-i : goal.invariant-loop-i
invariant-loop-i l = record_broken l.i l.fn.self l.event l.initial.self ≡ l.self
