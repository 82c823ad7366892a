-- `facts_of` meets its contract. The loop: each set has the events below e that pass its test.
use Rattle.members.proofs.Views.{viewed_none, viewed_next}
use Rattle.members.proofs.view.facts_of.Goals as goal

pub loop-e-init : goal.loop-e-init
loop-e-init c = viewed_none _ _

pub loop-e-preserved : goal.loop-e-preserved
loop-e-preserved c = viewed_next _ _ _ _ _ _ _ _ _ c.loop-e.invariant c.loop-e-test.true
    _ _ _ _ _ _
    _ _ _ _ _ _
    c.is_held.ensures
    c.with_if.ensures
    c.is_open.ensures
    c.with_if-in-loop-e.ensures
    c.is_gone.ensures
    c.with_if-in-loop-e-2.ensures
    c.is_delayable.ensures
    c.with_if-in-loop-e-3.ensures
    c.is_forcible.ensures
    c.with_if-in-loop-e-4.ensures
    c.is_rejectable.ensures
    c.with_if-in-loop-e-5.ensures
