-- `View::does_forbid` meets its contract.
use Rattle.members.proofs.RuleSets.{order_forbids, need_forbids, conditional_forbids}
use Rattle.members.proofs.view.View.does_forbid.Goals as goal

pub returns-in-Order : goal.returns-in-Order
returns-in-Order c = λ p f shows.
    order_forbids p f _ shows _ _ _ _ _ _ _ _
    c.in-Order.is
    c.is_in.ensures
    c.is_in-in-Order.ensures
    c.is_in-in-Order-2.ensures
    c.is_in-in-Order-3.ensures

pub returns-in-Need : goal.returns-in-Need
returns-in-Need c = λ p f shows.
    need_forbids p f _ shows _ _ _ _ _
    c.in-Need.is
    c.is_in-in-Need.ensures

pub returns-in-Conditional : goal.returns-in-Conditional
returns-in-Conditional c = λ p f shows.
    conditional_forbids p f _ shows _ _ _ _ _ _ _ _
    c.in-Conditional.is
    c.is_in-in-Conditional.ensures
    (c.is_reckoned.ensures p f shows)
    (c.is_reckoned-in-Conditional.ensures p f shows)
