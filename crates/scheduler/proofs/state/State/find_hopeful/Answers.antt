-- `State::find_hopeful` meets its contract.
use native.Mathlib.Omega.{arith}
use Rattle.scheduler.specs.State.{fate_of, Sized}
use Rattle.scheduler.proofs.SearchLoops.{hopeful_all, hopeful_spared}
use Rattle.scheduler.proofs.state.State.find_hopeful.Goals as goal

pub returns-then-is_power_of_two : goal.returns-then-is_power_of_two
returns-then-is_power_of_two c =
    let s = c.args.self.now in
    let z : Sized s = record { standings_len = omega arith; broken_len = omega arith; closed_len = omega arith; history_len = omega arith } in
    hopeful_all s c.args.ground.now.view c.args.times.timely _ z
    c.requires.grounds.shows c.requires.timed.timely c.common-able.ensures

pub returns : goal.returns
returns c =
    let s = c.args.self.now in
    let z : Sized s = record { standings_len = omega arith; broken_len = omega arith; closed_len = omega arith; history_len = omega arith } in
    let able = hopeful_all s c.args.ground.now.view c.args.times.timely _ z
    c.requires.grounds.shows c.requires.timed.timely c.common-able.ensures in
    hopeful_spared s _ _ z able (c.spare.ensures s.plan s.broken (fate_of s) c.requires.grounds)
