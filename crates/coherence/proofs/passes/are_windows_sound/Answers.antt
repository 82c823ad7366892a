-- `are_windows_sound` meets its contract. The loop's invariant: every place passed is right.
use native.Mathlib.Omega.{arith}
use mathlib.Core.Path.{sym, ◌∙◌}
use Rattle.coherence.proofs.WindowTests.{window_wrong, windows_right}
use Rattle.coherence.proofs.passes.are_windows_sound.Goals as goal

pub returns-then-not-is_right : goal.returns-then-not-is_right
returns-then-not-is_right c = sym (window_wrong c.args.plan c.loop-e.e c.loop-e-test.true (sym c.is_right.ensures ∙ c.if-not-is_right.true))

pub returns : goal.returns
returns c = sym (windows_right c.args.plan (λ e lt. c.loop-e.invariant e (omega arith)))
