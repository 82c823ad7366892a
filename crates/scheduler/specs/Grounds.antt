-- Demand 2's grounds, for any scheduler: a call is a chain of writes, and each of them has its ground (section 12)
use Rattle.std.specs.Prelude.{◌≤◌, ◌≡◌}
use Rattle.scheduler.specs.Prelude.{ℕ, true, false, List, Open, Held, Refused, Lapsed, State, Call, Submit, Close, Finish, Advance}
use Rattle.plan.specs.Plans.{step_of, rejectable, delayable}
use Rattle.scheduler.specs.State.{fate_of, hold, settle_as, shut, set_minute, Sized}
use Rattle.scheduler.specs.Rules.{barred}
use Rattle.scheduler.specs.Orders.{Viable, First, do_all}
use Rattle.scheduler.specs.Calls.{Lowest, IsHeld, AtRest, do_alone}
use Rattle.scheduler.specs.Lists.{Scheduler}

abbrev pub NoViable : State → ℕ → Type 0
NoViable s e = (o : List ℕ) → Viable s e o → ⊥

-- why call c may refuse e in s. First ground: e is held and barred. Second: c submits (hands in) e, e is held,
-- rejectable and not delayable, and no order is viable for it. Third: c is a finish (wind up), no turn of settling is
-- possible, and e is the lowest held event (12.1)
pub data Ground (c : Call) (s : State) (e : ℕ) : Type 0 where
  by_bar : fate_of s e ≡ Held → barred s e ≡ true → Ground c s e
  by_submission : c ≡ Submit e
      → fate_of s e ≡ Held
      → delayable s.plan e ≡ false
      → rejectable s.plan e ≡ true
      → NoViable s e
      → Ground c s e
  by_finish : c ≡ Finish → Lowest s (IsHeld s) e → AtRest s → Ground c s e

-- the writes of call c, one after another, each with its ground (12.1, 12.2)
pub data Trail (c : Call) : State → State → Type 0 where
  end : {s : State} → Trail c s s
  held : {s t : State} (e : ℕ) → c ≡ Submit e → fate_of s e ≡ Open → Trail c (hold s e) t → Trail c s t
  ordered : {s t : State} (e : ℕ) (o : List ℕ)
      → fate_of s e ≡ Held
      → First s e o
      → Trail c (do_all s o) t
      → Trail c s t
  alone : {s t : State} (e : ℕ)
      → c ≡ Submit e
      → fate_of s e ≡ Held
      → delayable s.plan e ≡ false
      → rejectable s.plan e ≡ false
      → NoViable s e
      → Trail c (do_alone s e) t
      → Trail c s t
  refused : {s t : State} (e : ℕ) → Ground c s e → Trail c (settle_as Refused s e) t → Trail c s t
  shuts : {s t : State} (k : ℕ) → c ≡ Close k → Trail c (shut s k) t → Trail c s t
  lapsed : {s t : State} (e : ℕ)
      → c ≡ Close (step_of s.plan e)
      → fate_of s e ≡ Open
      → Trail c (settle_as Lapsed s e) t
      → Trail c s t
  moves : {s t : State} (m : ℕ) → c ≡ Advance m → s.minute ≤ m → Trail c (set_minute s m) t → Trail c s t

-- every call of the scheduler is such a chain of writes (12.3)
abbrev pub Grounded : Scheduler → Type 0
Grounded step = (s : State) (c : Call) → Sized s → Trail c s (step s c)
