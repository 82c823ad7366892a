-- `does_hold` meets its contract.
use Rattle.coherence.proofs.CoherentTests.{order_holds, need_holds, conditional_holds}
use Rattle.coherence.proofs.passes.does_hold.Goals as goal

pub returns-in-Order : goal.returns-in-Order
returns-in-Order c = λ h p. order_holds _ _ _ c.requires c.args.places h p c.in-Order.is

pub returns-in-Need : goal.returns-in-Need
returns-in-Need c = λ h p. need_holds _ _ _ c.requires c.args.places h p c.in-Need.is

pub returns-in-Conditional : goal.returns-in-Conditional
returns-in-Conditional c = λ h p. conditional_holds _ _ _ c.requires c.args.places h p _ c.in-Conditional.is
