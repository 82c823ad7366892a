-- `State::do_order` meets its contract. The loop: what is left of the order is still to settle.
use Prim.Native.Nat.{◌+◌}
use mathlib.Core.Path.{sym, ◌∙◌, ap}
use lib.ListN.{take, drop}
use Rattle.scheduler.specs.Prelude.{State}
use Rattle.scheduler.specs.Internal.Marked.{settle_all}
use Rattle.scheduler.proofs.SettleLoops.{settle_next, settle_end}
use Rattle.scheduler.proofs.state.State.do_order.Goals as goal

pub loop-place-preserved : goal.loop-place-preserved
loop-place-preserved c =
    let places = take c.min.result c.args.found.places in
    let i = c.loop-place.place-index in
    c.loop-place.invariant
    ∙ settle_next places i c.loop-place.self c.loop-place-test.true
    ∙ ap (λ (s : State). settle_all s (drop (i + 1) places)) (sym (rw c.done_as.ensures at c.settle_as.ensures))

pub returns : goal.returns
returns c = sym (c.loop-place.invariant ∙ settle_end _ _ _ c.loop-place-test.false)
