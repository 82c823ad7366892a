-- The branches of the calls, one equation each.
use Prim.Native.Nat.{ℕ, suc}
use mathlib.Core.Bool.{true, false, ◌&&◌}
use mathlib.Core.List.{List}
use Rattle.std.specs.declared.option.Option.{Option}
use Rattle.std.specs.declared.option.Option.TheVariants.{None as none, Some as some}
use mathlib.Core.Path.{◌≡◌}
use lib.Dec.{eqb}
use Rattle.scheduler.specs.Prelude.{Lapsed, Refused, State, CallFault, TurnedDown, Call}
use Rattle.plan.specs.Base.{lowest}
use Rattle.plan.specs.Plans.{event_count, step_of, rejectable, delayable}
use Rattle.scheduler.specs.State.{fate_of, hold, settle_as}
use Rattle.plan.specs.Fates.{is_open, is_held}
use Rattle.plan.specs.Faults.{first_fault}
use Rattle.scheduler.specs.Orders.{chosen, do_all}
use Rattle.scheduler.specs.Calls.{settle_once, settle_up_to, settle, do_alone, decide, submit, lapse, refuse_held}
use Rattle.scheduler.specs.Answers.{call_rows, turns_down, call_fault, accept, take_call, call}

-- settling up to a number of turns
pub up_to-none : (n : ℕ) (s : State) → settle_once s ≡ none → settle_up_to (suc n) s ≡ s
unfolding settle_up_to
up_to-none n s h = rw (h, settle_up_to)

pub up_to-some : (n : ℕ) (s t : State) → settle_once s ≡ some t → settle_up_to (suc n) s ≡ settle_up_to n t
unfolding settle_up_to
up_to-some n s t h = rw (h, settle_up_to)

-- deciding an event that isn't delayable
pub decide_order : (s : State) (e : ℕ) (o : List ℕ) → chosen s e ≡ some o → decide s e ≡ do_all s o
unfolding decide
decide_order s e o h = rw (h, decide)

pub decide_refuse : (s : State) (e : ℕ)
    → chosen s e ≡ none
    → rejectable s.plan e ≡ true
    → decide s e ≡ settle_as Refused s e
unfolding decide
decide_refuse s e h r = rw (h, r, decide)

pub decide_alone : (s : State) (e : ℕ) → chosen s e ≡ none → rejectable s.plan e ≡ false → decide s e ≡ do_alone s e
unfolding decide
decide_alone s e h r = rw (h, r, decide)

-- handing in
pub submit_same : (s : State) (e : ℕ) → is_open (fate_of s e) ≡ false → submit s e ≡ s
unfolding submit
submit_same s e h = rw (h, submit)

pub submit_delayed : (s : State) (e : ℕ)
    → is_open (fate_of s e) ≡ true
    → delayable s.plan e ≡ true
    → submit s e ≡ settle (hold s e)
unfolding submit
submit_delayed s e h d = rw (h, d, submit)

pub submit_decided : (s : State) (e : ℕ)
    → is_open (fate_of s e) ≡ true
    → delayable s.plan e ≡ false
    → submit s e ≡ settle (decide (hold s e) e)
unfolding submit
submit_decided s e h d = rw (h, d, submit)

-- lapsing
pub lapse_yes : (n e : ℕ) (s : State) (k : ℕ)
    → (is_open (fate_of s e) && eqb (step_of s.plan e) k) ≡ true
    → lapse (suc n) e s k ≡ lapse n (suc e) (settle_as Lapsed s e) k
unfolding lapse
lapse_yes n e s k h = rw (h, lapse)

pub lapse_no : (n e : ℕ) (s : State) (k : ℕ)
    → (is_open (fate_of s e) && eqb (step_of s.plan e) k) ≡ false
    → lapse (suc n) e s k ≡ lapse n (suc e) s k
unfolding lapse
lapse_no n e s k h = rw (h, lapse)

-- winding up: the lowest held event
abbrev pub lowest_held : State → Option ℕ
lowest_held s = lowest (event_count s.plan) (λ e. is_held (fate_of s e))

pub refuse_none : (n : ℕ) (s : State) → lowest_held s ≡ none → refuse_held (suc n) s ≡ s
unfolding refuse_held
refuse_none n s h = rw (h, refuse_held)

pub refuse_some : (n : ℕ) (s : State) (e : ℕ)
    → lowest_held s ≡ some e
    → refuse_held (suc n) s ≡ refuse_held n (settle (settle_as Refused s e))
unfolding refuse_held
refuse_some n s e h = rw (h, refuse_held)

-- the rows after number 12's: one applies, or none
pub turns_some : (s : State) (c : Call) (f : CallFault) → first_fault (call_rows s c) ≡ some f → turns_down s c ≡ true
unfolding turns_down
turns_some s c f h = rw (h, turns_down)

pub turns_none : (s : State) (c : Call) → first_fault (call_rows s c) ≡ none → turns_down s c ≡ false
unfolding turns_down
turns_none s c h = rw (h, turns_down)

pub take_fault : (s : State) (c : Call) (f : CallFault)
    → first_fault (call_rows s c) ≡ some f
    → take_call s c ≡ record { answer = TurnedDown f; state = s }
unfolding take_call
take_fault s c f h = rw (h, take_call)

pub take_accept : (s : State) (c : Call) → first_fault (call_rows s c) ≡ none → take_call s c ≡ accept s c
unfolding take_call
take_accept s c h = rw (h, take_call)

-- a call turned down, and one that is taken
pub call_fault_lem : (s : State) (c : Call) (f : CallFault)
    → call_fault s c ≡ some f
    → call s c ≡ record { answer = TurnedDown f; state = s }
unfolding call
call_fault_lem s c f h = rw (h, call)

pub call_accept : (s : State) (c : Call) → call_fault s c ≡ none → call s c ≡ accept s c
unfolding call
call_accept s c h = rw (h, call)
