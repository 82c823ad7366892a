-- What a search reads of a state.
use Rattle.scheduler.specs.Prelude.{State}
use Rattle.members.specs.declared.ground.Ground.{Ground}
use Rattle.members.specs.Sets.{IsGround}
use Rattle.scheduler.specs.State.{fate_of}

-- the ground is the state's
abbrev pub GroundOf : State → Ground → Type 0
GroundOf s g = IsGround s.plan s.broken (fate_of s) g
