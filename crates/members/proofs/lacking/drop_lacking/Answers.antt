-- `drop_lacking` meets its contract.
use Rattle.members.proofs.Sparing.{order_drops, need_drops, conditional_drops}
use Rattle.members.proofs.lacking.drop_lacking.Goals as goal

pub returns-in-Order : goal.returns-in-Order
returns-in-Order c = λ p f shows x.
    order_drops p f _ shows _ _ _ _ _ _
    c.in-Order.is
    _ _
    c.is_in.ensures
    c.is_in-in-Order.ensures
    c.with_if.ensures
    c.without.ensures
    x

pub returns-in-Need : goal.returns-in-Need
returns-in-Need c = λ p f shows x.
    need_drops p f _ shows _ _ _ _ _ _
    c.in-Need.is
    _
    c.is_in-in-Need.ensures
    c.with_if-in-Need.ensures
    c.without-in-Need.ensures
    x

pub returns-in-Conditional : goal.returns-in-Conditional
returns-in-Conditional c = λ p f shows x. conditional_drops p f _ shows _ _ _ _ _ c.in-Conditional.is x
