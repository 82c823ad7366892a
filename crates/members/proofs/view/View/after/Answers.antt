-- `View::after` meets its contract.
use mathlib.Core.Path.{refl}
use Rattle.members.proofs.ViewAfter.{shows_after}
use Rattle.members.proofs.view.View.after.Goals as goal

pub returns : goal.returns
returns c p f lt shows = shows_after
    p
    f
    c.args.event
    lt
    c.with_if-one.result
    c.with_if-one.ensures
    c.args.self
    _
    shows
    c.without.ensures
    c.without-2.ensures
    c.with_if.ensures
    c.without-3.ensures
    refl
    refl
    c.with_if-2.ensures
