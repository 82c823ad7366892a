-- `View::does_owe` meets its contract.
use Rattle.members.proofs.RuleSets.{order_owes, need_owes, conditional_owes}
use Rattle.members.proofs.view.View.does_owe.Goals as goal

pub returns-in-Order : goal.returns-in-Order
returns-in-Order c = λ p f shows. order_owes p f _ shows _ _ _ c.in-Order.is

pub returns-in-Need : goal.returns-in-Need
returns-in-Need c = λ p f shows.
    need_owes p f _ shows _ _ _ _ _ _
    c.in-Need.is
    c.is_in.ensures
    c.is_in-in-Need.ensures
    c.is_in-in-Need-2.ensures

pub returns-in-Conditional : goal.returns-in-Conditional
returns-in-Conditional c = λ p f shows.
    conditional_owes p f _ shows _ _ _ _ _ _ _ _ _ _
    c.in-Conditional.is
    c.is_in-in-Conditional.ensures
    (c.is_reckoned.ensures p f shows)
    c.is_in-in-Conditional-2.ensures
    (c.is_reckoned-in-Conditional.ensures p f shows)
    c.is_in-in-Conditional-3.ensures
    c.is_in-in-Conditional-4.ensures
