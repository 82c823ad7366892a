-- Demand 2's doing, for any scheduler: a call does all that can be done, and undoes nothing.
use Rattle.std.specs.Prelude.{◌≡◌}
use Rattle.scheduler.specs.Prelude.{ℕ, none, some, Open, State, Call, Submit, CallFault}
use Rattle.scheduler.specs.State.{fate_of, lines, Sized}
use Rattle.scheduler.specs.Calls.{AtRest}
use Rattle.scheduler.specs.Answers.{call_fault}
use Rattle.scheduler.specs.Lists.{Scheduler}
use Rattle.scheduler.specs.Demand.{Extends}

-- the call is accepted, and does not submit (hand in) an event that is not open (12.5)
pub record Acts (s : State) (c : Call) : Type 0 where
  pub taken : call_fault s c ≡ none
  pub fresh : (e : ℕ) → c ≡ Submit e → fate_of s e ≡ Open

pub record Does (step : Scheduler) (s : State) (c : Call) : Type 0 where
  -- after such a call no turn of settling is possible
  pub rests : Acts s c → AtRest (step s c)
  -- after every call the history begins with the one before it
  pub extends : Extends (lines s) (lines (step s c))
  -- a call that is turned down leaves the state as it is
  pub unchanged : (f : CallFault) → call_fault s c ≡ some f → step s c ≡ s

-- for every state that code can hold, and every call. On a state that is not coherent every call is turned down (12.5)
abbrev pub Doing : Scheduler → Type 0
Doing step = (s : State) (c : Call) → Sized s → Does step s c
