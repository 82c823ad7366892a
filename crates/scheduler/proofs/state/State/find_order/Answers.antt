-- `State::find_order` meets its contract.
use Rattle.scheduler.proofs.Sizes.{sized}
use Rattle.scheduler.proofs.SearchLoops.{hopeful_all}
use Rattle.scheduler.proofs.state.State.find_order.Goals as goal

pub find_within-requires-clause-hopes : goal.find_within-requires-clause-hopes
find_within-requires-clause-hopes c =
    hopeful_all c.args.self c.ground-ground.result.view _ _ (sized c.args.self c.well_formed.0)
    c.ground-ground.ensures.shows c.times.ensures.timely c.common-able.ensures
