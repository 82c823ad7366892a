-- `are_events_coherent` meets its contract. The loop's invariant: every event passed has passed the tests.
use native.Mathlib.Omega.{arith}
use borrow.Author.Count.{below_more}
use borrow.Author.Tests.{not-true, not-false}
use mathlib.Core.Path.{sym}
use Rattle.coherence.proofs.CoherentTests.{passes_both, event_unsound, event_wrong, events_pass}
use mathlib.Core.Bool.{not}
use mathlib.Core.Path.{ap}
use Rattle.coherence.proofs.passes.are_events_coherent.Goals as goal

pub returns-then-not-is_sound : goal.returns-then-not-is_sound
returns-then-not-is_sound c = λ h told.
    sym (event_unsound c.args.plan c.args.standings c.args.closed c.args.listed h c.requires told c.loop-i.i c.loop-i-test.true
    (not-true _ (rw c.is_sound.ensures at (ap not c.if-not-is_sound.true))))

pub returns-then-is_settled-listed : goal.returns-then-is_settled-listed
returns-then-is_settled-listed c = λ h told.
    sym (event_wrong c.args.plan c.args.standings c.args.closed c.args.listed h c.requires told c.loop-i.i c.loop-i-test.true
    (rw (c.is_settled.ensures, c.may_be_held.ensures, c.is_open.ensures) at c.if-is_settled-listed.true))

pub loop-i-preserved : goal.loop-i-preserved
loop-i-preserved c =
    below_more _ _ c.loop-i.invariant
    (passes_both c.args.plan.events c.args.standings c.args.closed c.args.listed c.loop-i.i
    (not-false _ (rw c.is_sound.ensures at (ap not c.if-not-is_sound.false)))
    (rw (c.is_settled.ensures, c.may_be_held.ensures, c.is_open.ensures) at c.if-is_settled-listed.false))

pub returns : goal.returns
returns c = λ h told. sym (events_pass c.args.plan c.args.standings c.args.closed c.args.listed h c.requires told (λ k lt. c.loop-i.invariant k (omega arith)))
