-- `State::find_within` meets its contract.
use native.Mathlib.Omega.{arith}
use mathlib.Core.Path.{◌∙◌}
use Rattle.scheduler.specs.State.{fate_of, Sized}
use Rattle.scheduler.proofs.SearchLoops.{members_none, members_found}
use Rattle.scheduler.proofs.state.State.find_within.Goals as goal

pub returns-in_err-members : goal.returns-in_err-members
returns-in_err-members c =
    let s = c.args.self.now in
    let z : Sized s = record { standings_len = omega arith; broken_len = omega arith; closed_len = omega arith; history_len = omega arith } in
    c.from_residual.ensures
    ∙ members_none s z c.args.event c.args.able c.requires.hopes
    (c.in_err-members.ensures s.plan s.broken (fate_of s) c.requires.grounds)

pub returns : goal.returns
returns c =
    let s = c.args.self.now in
    let z : Sized s = record { standings_len = omega arith; broken_len = omega arith; closed_len = omega arith; history_len = omega arith } in
    members_found s z c.args.event c.args.able c.requires.hopes c.in_ok-members.members.set
    (c.in_ok-members.ensures s.plan s.broken (fate_of s) c.requires.grounds)
    c.search.result
    c.search.ensures
