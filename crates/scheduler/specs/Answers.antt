-- A call: when it is turned down, and what it answers.
use Rattle.std.specs.Prelude.{◌&&◌, ◌∷◌}
use Rattle.scheduler.specs.Prelude.{ℕ, Bool, true, false, not, List, [], Option, none, some, ltb, leb, State, Call, Submit, Close, Finish, Advance, CallFault, Unknown, AlreadyClosed, NotClosed, Incoherent, Backward, Is, Made, TurnedDown, Reply}
use Rattle.plan.specs.Base.{any_below}
use Rattle.plan.specs.Fates.{is_open, is_held}
use Rattle.plan.specs.Plans.{event_count, has_event}
use Rattle.plan.specs.Faults.{first_fault}
use Rattle.scheduler.specs.State.{fate_of, closed_at}
use Rattle.scheduler.specs.Calls.{submit, close_step, finish, advance_to}
use Rattle.scheduler.specs.Coherent.{coherent}

-- step k has an event and is not closed (10.2, 10.3)
abbrev pub unclosed_at : State → ℕ → Bool
unclosed_at s k = has_event s.plan k && not (closed_at s k)

-- the tests of each call that come after the coherence test, number 12, in the order of the table (10.2, 10.3)
abbrev pub call_rows : State → Call → List (Bool × CallFault)
call_rows s (Submit e) = (leb (event_count s.plan) e, Unknown) ∷ []
call_rows s (Close k) = (not (has_event s.plan k), Unknown) ∷ (closed_at s k, AlreadyClosed) ∷ []
call_rows s Finish = (any_below 8 (unclosed_at s), NotClosed) ∷ []
call_rows s (Advance m) = (ltb m s.minute, Backward) ∷ []

-- one of these tests applies: on a coherent state the call is turned down (10.2, 10.3)
unfoldable pub turns_down : State → Call → Bool
turns_down s c = elim (first_fault (call_rows s c)) [ some f ↦ true | none ↦ false ]

-- the fault of a call that is turned down, number 12 before the others; none for an accepted call (10.2)
unfoldable pub call_fault : State → Call → Option CallFault
call_fault s c = first_fault ((not (coherent s), Incoherent) ∷ call_rows s c)

-- the answer of an accepted call, and the state after it (9.1, 9.6)
unfoldable pub accept : State → Call → Reply
accept s (Submit e) = let t = submit s e in record { answer = Is (fate_of t e); state = t }
accept s (Close k) = record { answer = Made; state = close_step s k }
accept s Finish = record { answer = Made; state = finish s }
accept s (Advance m) = record { answer = Made; state = advance_to s m }

-- the call, if it is accepted, leaves the state as it is: it submits (hands in) an event that is not open, or it
-- finishes (winds up) while no event is held (9.2, 9.8)
unfoldable pub idle : State → Call → Bool
idle s (Submit e) = not (is_open (fate_of s e))
idle s (Close k) = false
idle s Finish = not (any_below (event_count s.plan) (λ e. is_held (fate_of s e)))
idle s (Advance m) = false

-- a call that is turned down leaves the state as it is (10.1)
abbrev pub turned_down_by : CallFault → State → Reply
turned_down_by f s = record { answer = TurnedDown f; state = s }

-- a call on a coherent state: the first of its tests that applies turns it down; if none does, it is accepted
-- (9.1, 10.2)
unfoldable pub take_call : State → Call → Reply
take_call s c = elim (first_fault (call_rows s c)) [ some f ↦ turned_down_by f s | none ↦ accept s c ]

-- a call on any state: number 12 is tested as well, and first (9.1, 10.2)
unfoldable pub call : State → Call → Reply
call s c = elim (call_fault s c) [ some f ↦ turned_down_by f s | none ↦ accept s c ]
