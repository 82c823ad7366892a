-- `View::does_ask` meets its contract.
use Rattle.members.proofs.RuleSets.{order_asks, need_asks, conditional_asks}
use Rattle.members.proofs.view.View.does_ask.Goals as goal

pub returns-in-Order : goal.returns-in-Order
returns-in-Order c = λ p f shows.
    order_asks p f _ shows _ _ _ _ _ _ c.in-Order.is c.is_in.ensures c.is_in-in-Order.ensures

pub returns-in-Need : goal.returns-in-Need
returns-in-Need c = λ p f shows. need_asks p f _ shows _ _ _ _ _ c.in-Need.is c.is_in-in-Need.ensures

pub returns-in-Conditional : goal.returns-in-Conditional
returns-in-Conditional c = λ p f shows.
    conditional_asks p f _ shows _ _ _ _ _ _ _ _ _
    c.in-Conditional.is
    c.is_in-first.ensures
    c.is_in-second.ensures
    (c.is_pending.ensures p f shows)
    (c.is_pending-in-Conditional.ensures p f shows)
