-- Demand 2 whole, for any scheduler: exactly what an accepted call gives, call by call. Only one scheduler has this
-- property (`exact_only`). Also: which events may be refused at all.
use Rattle.std.specs.Prelude.{ℕ, ◌<◌, true, false, List, ◌⊎◌, ◌≡◌}
use Rattle.std.specs.declared.option.Option.TheVariants.{None as none, Some as some}
use Rattle.plan.specs.declared.fate.Fate.TheVariants.{Open, Refused, Lapsed}
use Rattle.plan.specs.declared.calls.Call.{Call}
use Rattle.plan.specs.declared.calls.Call.TheVariants.{Submit, Close, Finish, Advance}
use Rattle.plan.specs.declared.answer.CallFault.{CallFault}
use Rattle.scheduler.specs.declared.state.State.{State}
use Rattle.plan.specs.Plans.{event_count, step_of, rejectable, delayable}
use Rattle.scheduler.specs.State.{fate_of, hold, settle_as, shut, set_minute, Sized}
use Rattle.scheduler.specs.Orders.{First, do_all}
use Rattle.scheduler.specs.Calls.{Lowest, Settles, Finishes, do_alone}
use Rattle.scheduler.specs.Coherent.{coherent}
use Rattle.scheduler.specs.Answers.{call_fault}
use Rattle.scheduler.specs.Grounds.{NoViable}
use Rattle.scheduler.specs.Lists.{Scheduler}

-- the event is open and belongs to step k (9.7)
abbrev pub OpenIn : State → ℕ → ℕ → Type 0
OpenIn s k e = (fate_of s e ≡ Open) × (step_of s.plan e ≡ k)

-- the open events of step k lapse, the lowest first, until none is open (9.7)
pub data Lapses (k : ℕ) : State → State → Type 0 where
  none_open : {s : State} → ((e : ℕ) → e < event_count s.plan → OpenIn s k e → ⊥) → Lapses k s s
  lapse_next : {s t : State} (e : ℕ) → Lowest s (OpenIn s k) e → Lapses k (settle_as Lapsed s e) t → Lapses k s t

-- decides e, which is held in s and cannot wait: its chosen order is run; without a viable order, e is refused if it is
-- rejectable, and done alone if it is not (9.4)
pub data Decides (s : State) (e : ℕ) : State → Type 0 where
  by_order : (o : List ℕ) → First s e o → Decides s e (do_all s o)
  by_refusal : NoViable s e → rejectable s.plan e ≡ true → Decides s e (settle_as Refused s e)
  by_itself : NoViable s e → rejectable s.plan e ≡ false → Decides s e (do_alone s e)

-- what an accepted call may make of s (9.2 to 9.4, 9.7 to 9.9)
pub data Makes (s : State) : Call → State → Type 0 where
  answers : (e : ℕ) → (fate_of s e ≡ Open → ⊥) → Makes s (Submit e) s
  waits : {t : State} (e : ℕ)
      → fate_of s e ≡ Open
      → delayable s.plan e ≡ true
      → Settles (hold s e) t
      → Makes s (Submit e) t
  decides : {t u : State} (e : ℕ)
      → fate_of s e ≡ Open
      → delayable s.plan e ≡ false
      → Decides (hold s e) e u
      → Settles u t
      → Makes s (Submit e) t
  closes : {t u : State} (k : ℕ) → Lapses k (shut s k) u → Settles u t → Makes s (Close k) t
  finishes : {t : State} → Finishes s t → Makes s Finish t
  advances : {t : State} (m : ℕ) → Settles (set_minute s m) t → Makes s (Advance m) t

-- a call that is turned down changes nothing, and an accepted call makes what its clause says (12.8)
pub record Exactly (step : Scheduler) (s : State) (c : Call) : Type 0 where
  pub unchanged : (f : CallFault) → call_fault s c ≡ some f → step s c ≡ s
  pub made : call_fault s c ≡ none → Makes s c (step s c)

-- this is so for every state that code can hold and every call (12.8)
abbrev pub Exact : Scheduler → Type 0
Exact step = (s : State) (c : Call) → Sized s → Exactly step s c

-- for every coherent state and every call: an event that is refused after the call was refused before it, or is
-- rejectable (12.9)
abbrev pub RefusesRejectable : Scheduler → Type 0
RefusesRejectable step = (s : State) (c : Call) (e : ℕ)
    → Sized s
    → coherent s ≡ true
    → fate_of (step s c) e ≡ Refused
    → (fate_of s e ≡ Refused) ⊎ (rejectable s.plan e ≡ true)
