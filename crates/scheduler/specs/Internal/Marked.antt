-- An order done by what the search told of its events.
use Rattle.std.specs.Prelude.{◌∷◌}
use Rattle.scheduler.specs.Prelude.{List, [], State}
use Rattle.scheduler.specs.declared.order.Place.{Place}
use Rattle.plan.specs.Fates.{done_as}
use Rattle.scheduler.specs.State.{settle_as}

-- the places one after the other: the event of each is forced or done by its mark
unfoldable pub settle_all : State → List Place → State
settle_all s [] = s
settle_all s (p ∷ o) = settle_all (settle_as (done_as p.opened) s p.event) o
