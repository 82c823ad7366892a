-- `State::do_order` meets its contract. The loop: what is left of the order is still to settle.
use mathlib.Core.Path.{◌≡◌}
use lib.ListN.{take, drop}
use Rattle.scheduler.specs.Internal.Marked.{settle_all}
use Rattle.scheduler.proofs.state.State.do_order.Given as goal

abbrev pub invariant-loop-place : goal.invariant-loop-place
invariant-loop-place l =
    let found = l.fn.found in
    settle_all l.initial.self (take found.len found.places) ≡ settle_all l.self (drop l.place-index l.place-items)
