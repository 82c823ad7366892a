-- `Times::of` meets its contract. The loop: each set has the events below e that pass its test.
use mathlib.Core.Path.{sym, ◌∙◌}
use Rattle.members.proofs.Clocking.{clocks_without, clocked_none, clocked_next}
use Rattle.members.proofs.times.Times.of.Goals as goal

pub returns-then-not-has_window : goal.returns-then-not-has_window
returns-then-not-has_window c = clocks_without _ _ (sym c.has_window.ensures ∙ c.if-not-has_window.true)

pub loop-e-init : goal.loop-e-init
loop-e-init c = clocked_none _ _

pub loop-e-preserved : goal.loop-e-preserved
loop-e-preserved c = clocked_next _ _ _ _ _ c.loop-e.invariant c.loop-e-test.true
    _ _
    _ _
    c.is_allowed.ensures
    c.with_if-timely.ensures
    c.is_over.ensures
    c.with_if-late.ensures
