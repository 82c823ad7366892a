-- `add_blocked` meets its contract.
use Rattle.members.proofs.RuleSets.{order_blocks, need_blocks, conditional_blocks}
use Rattle.members.proofs.blocked.add_blocked.Goals as goal

pub returns-in-Order : goal.returns-in-Order
returns-in-Order c = λ p f shows x lt.
    order_blocks p f _ shows _ _ _ _ _ x lt _ _ _ _ _
    c.in-Order.is
    c.is_in.ensures
    (c.with_if-late.ensures x)
    c.is_in-in-Order.ensures
    c.is_in-in-Order-2.ensures
    (c.with_if.ensures x)

pub returns-in-Need : goal.returns-in-Need
returns-in-Need c = λ p f shows x lt.
    need_blocks p f _ shows _ _ _ _ _ x lt _ _
    c.in-Need.is
    c.is_in-in-Need.ensures
    (c.with_if-in-Need.ensures x)

pub returns-in-Conditional : goal.returns-in-Conditional
returns-in-Conditional c = λ p f shows x lt.
    conditional_blocks p f _ shows _ _ _ _ _ x lt _ _ _ _ _ _
    c.in-Conditional.is
    c.is_in-gone.ensures
    (c.is_reckoned.ensures p f shows)
    (c.with_if-second.ensures x)
    (c.is_reckoned-in-Conditional.ensures p f shows)
    (c.with_if-in-Conditional.ensures x)
