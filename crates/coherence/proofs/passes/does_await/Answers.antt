-- `does_await` meets its contract.
use Rattle.coherence.proofs.CoherentTests.{awaits_not, conditional_awaits}
use Rattle.coherence.proofs.passes.does_await.Goals as goal

pub returns-in_default : goal.returns-in_default
returns-in_default c = λ p h same placed. awaits_not p _ h c.args.rule c.in_default.not-Conditional

pub returns : goal.returns
returns c = λ p h same placed.
    conditional_awaits _ c.args.standings c.args.places _ _ _ _ c.requires c.in-Conditional.is _ _ _ _
    c.is_unstoppable.ensures
    c.is_unstoppable-2.ensures
    c.is_forcible.ensures
    c.is_settled.ensures
    p h same placed
