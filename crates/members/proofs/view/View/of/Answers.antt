-- `View::of` meets its contract.
use mathlib.Core.Path.{refl}
use Rattle.members.proofs.Views.{shows_view}
use Rattle.members.proofs.view.View.of.Goals as goal

pub returns : goal.returns
returns c = shows_view _ _ _ c.facts_of-facts.result c.facts_of-facts.ensures _ _ _ _
    c.first_of-declared.ensures
    c.common.ensures
    c.common-2.ensures
    c.common-3.ensures
    c.without.ensures
    c.without-2.ensures
    refl
    refl
    refl
    refl
