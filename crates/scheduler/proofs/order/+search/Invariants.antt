-- What falls in `search`: the places left.
use Rattle.scheduler.proofs.order.+search.Given as goal

abbrev pub decreases-search : goal.decreases-search
decreases-search l = l.places
