-- `are_rules_coherent` meets its contract. The loop's invariant: every rule passed has passed the tests.
use native.Mathlib.Omega.{arith}
use borrow.Author.Tests.{not-true, not-false}
use mathlib.Core.Path.{refl, sym}
use Rattle.plan.specs.Fates.{fates_of}
use Rattle.plan.specs.Plans.{event_count}
use Rattle.plan.specs.Rules.{enforceable}
use Rattle.plan.proofs.Tests.{and_left}
use Rattle.coherence.proofs.CoherentTests.{rule_in, rule_unsound, rule_breaks, rules_pass}
use mathlib.Core.Bool.{not}
use mathlib.Core.Path.{ap}
use Rattle.coherence.proofs.passes.are_rules_coherent.Goals as goal

pub returns-then-not-is_admitted : goal.returns-then-not-is_admitted
returns-then-not-is_admitted c = λ closed h placed pass.
    sym (rule_unsound c.args.plan (fates_of c.args.standings) c.args.broken closed h c.requires.1 pass c.loop-i.i c.loop-i-test.true
    (not-true _ (rw (c.is_admitted.ensures c.args.plan refl) at (ap not c.if-not-is_admitted.true))))

pub does_hold-requires : goal.does_hold-requires
does_hold-requires c = (
  event_count c.args.plan,
  c.requires.0,
  and_left _ (enforceable c.args.plan (rule_in c.args.plan.rules c.loop-i.i))
      (not-false _ (rw (c.is_admitted.ensures c.args.plan refl) at (ap not c.if-not-is_admitted.false))),
)

pub does_await-requires : goal.does_await-requires
does_await-requires c = (
  event_count c.args.plan,
  c.requires.0,
  and_left _ (enforceable c.args.plan (rule_in c.args.plan.rules c.loop-i.i))
      (not-false _ (rw (c.is_admitted.ensures c.args.plan refl) at (ap not c.if-not-is_admitted.false))),
)

pub returns-then-not-broken-i : goal.returns-then-not-broken-i
returns-then-not-broken-i c = λ closed h placed pass.
    sym (rule_breaks c.args.plan (fates_of c.args.standings) c.args.broken closed h c.requires.1 pass
    c.loop-i.i c.loop-i-test.true
    (not-true _ (rw (c.does_hold.ensures h placed, c.does_await.ensures c.args.plan h refl placed) at (ap not c.if-not-broken-i.true))))

pub returns : goal.returns
returns c = λ closed h placed pass.
    sym (rules_pass c.args.plan (fates_of c.args.standings) c.args.broken closed h c.requires.1 pass
    (λ k lt. c.loop-i.invariant h placed k (omega arith)))
