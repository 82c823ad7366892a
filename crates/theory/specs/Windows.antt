-- Windows of time: events are done within them, their end is for good, an advance (move of the minute) only settles,
-- and without windows the minute decides nothing.
use Rattle.std.specs.Prelude.{ℕ, ◌≤◌, ◌<◌, Bool, true, false, ◌≡◌, length, drop}
use mathlib.Core.List.{List, [], ◌∷◌, ◌++◌, map, Memᴰ}
use Rattle.plan.specs.declared.fate.Fate.TheVariants.{Held, Refused}
use Rattle.plan.specs.declared.plan.Plan.{Plan}
use Rattle.plan.specs.declared.history.Entry.{Entry}
use Rattle.plan.specs.declared.calls.Call.{Call}
use Rattle.plan.specs.declared.calls.Call.TheVariants.{Submit, Close, Finish, Advance}
use Rattle.scheduler.specs.declared.state.State.{State}
use Rattle.plan.specs.Fates.{is_done}
use Rattle.plan.specs.Plans.{event_count, has_window, allowed_at, over_at}
use Rattle.scheduler.specs.State.{fate_of, lines, set_minute, Sized}
use Rattle.scheduler.specs.Orders.{First}
use Rattle.scheduler.specs.Calls.{HeldBarred, Turns, Settles}
use Rattle.scheduler.specs.Coherent.{coherent}
use Rattle.scheduler.specs.Answers.{call}
use Rattle.scheduler.specs.Sheet.{read_sheet, admitted}
use Rattle.scheduler.specs.Lists.{Scheduler, after}
use Rattle.scheduler.specs.Demand.{Story, seen, Observed, nothing_yet, minute_after, observe, observe_all}

-- each line that says done or forced names an event that may be done at minute m (11.22)
abbrev pub InTime : Plan → ℕ → List Entry → Type 0
InTime p m [] = Unit {0}
InTime p m (l ∷ ls) = (is_done l.fate ≡ true → allowed_at p m l.event ≡ true) × InTime p m ls

-- the minute of a call: the new one for an advance, else the state's (11.22)
abbrev pub minute_of : State → Call → ℕ
minute_of s (Submit e) = s.minute
minute_of s (Close k) = s.minute
minute_of s Finish = s.minute
minute_of s (Advance m) = m

-- for every state that code can hold and every call: the lines that the call adds are in time (11.22)
abbrev pub Punctual : Scheduler → Type 0
Punctual step = (s : State) (c : Call) (new : List Entry)
    → Sized s
    → lines (step s c) ≡ lines s ++ new
    → InTime s.plan (minute_of s c) new

-- lines, each with minute m (11.23)
abbrev pub at : ℕ → List Entry → List (ℕ × Entry)
at m ls = map (λ l. (m, l)) ls

-- the lines of a story, each with the minute at which it was added; the accepted calls up to then give the minute
-- (11.23)
unfoldable pub timed_lines : Plan → Observed → Story → List (ℕ × Entry)
timed_lines p o [] = []
timed_lines p o (x ∷ xs) =
    let next = observe p o x.0 x.1 in
    at (minute_after next.calls) (drop (length o.history) x.1) ++ timed_lines p next xs

-- each such line that says done or forced names an event that may be done at its minute (11.23)
abbrev pub AllInTime : Plan → List (ℕ × Entry) → Type 0
AllInTime p [] = Unit {0}
AllInTime p (x ∷ xs) = (is_done x.1.fate ≡ true → allowed_at p x.0 x.1.event ≡ true) × AllInTime p xs

-- no event is done or forced outside its window, and the lines with their minutes are the whole history (11.23)
pub record Within (p : Plan) (story : Story) : Type 0 where
  pub timely : AllInTime p (timed_lines p nothing_yet story)
  pub all : map (λ (x : ℕ × Entry). x.1) (timed_lines p nothing_yet story) ≡ (observe_all p nothing_yet story).history

-- this is so for every admitted sheet and every list (11.23)
abbrev pub KeepsTime : Scheduler → Type 0
KeepsTime step = (bytes : List ℕ) (s : State) (cs : List Call)
    → read_sheet bytes ≡ admitted s
    → Within s.plan (seen step s cs)

-- for every admitted sheet and every list: no held event has a window that is over at the minute of the accepted calls
-- (11.24)
abbrev pub NoneOverdue : Scheduler → Type 0
NoneOverdue step = (bytes : List ℕ) (s : State) (cs : List Call) (e : ℕ)
    → read_sheet bytes ≡ admitted s
    → e < event_count s.plan
    → fate_of (after step s cs) e ≡ Held
    → over_at s.plan (minute_after (observe_all s.plan nothing_yet (seen step s cs)).calls) e ≡ false

-- for every state that code can hold and every call: an event that is not done or forced when its window is over is not
-- done or forced by the call, and its window stays over (11.25)
abbrev pub ForGood : Scheduler → Type 0
ForGood step = (s : State) (c : Call) (e : ℕ)
    → Sized s
    → over_at s.plan s.minute e ≡ true
    → is_done (fate_of s e) ≡ false
    → (is_done (fate_of (step s c) e) ≡ false) × (over_at (step s c).plan (step s c).minute e ≡ true)

-- why settling may add a line in state s: an event that is held and barred is refused; or an event in the chosen order
-- of a held event is done or forced (11.27)
pub data Reason (s : State) : Entry → Type 0 where
  bar : (e : ℕ) → HeldBarred s e → Reason s (record { event = e; fate = Refused })
  order : (e : ℕ) (o : List ℕ) (l : Entry)
      → fate_of s e ≡ Held
      → First s e o
      → Memᴰ l.event o
      → is_done l.fate ≡ true
      → Reason s l

-- each of these lines has its reason in a state that turns of settling reach from s (11.27)
abbrev pub Reasoned : State → List Entry → Type 0
Reasoned s [] = Unit {0}
Reasoned s (l ∷ ls) = ((u : State) × Turns s u × Reason u l) × Reasoned s ls

-- what an advance of s to minute m may give. The minute is m. New lines follow the old ones, and each has its reason at
-- that minute. The state is settled. The plan, the broken rules and the closed steps stay (11.27)
pub record Moved (s : State) (m : ℕ) (t : State) : Type 0 where
  pub new : List Entry
  pub added : lines t ≡ lines s ++ new
  pub reasoned : Reasoned (set_minute s m) new
  pub settled : Settles (set_minute s m) t
  pub minute : t.minute ≡ m
  pub plan : t.plan ≡ s.plan
  pub broken : t.broken ≡ s.broken
  pub closed : t.closed ≡ s.closed

-- this is so for every coherent state and every minute that is not below its own (11.27)
abbrev pub OnlySettles : Scheduler → Type 0
OnlySettles step = (s : State) (m : ℕ)
    → Sized s
    → coherent s ≡ true
    → s.minute ≤ m
    → Moved s m (step s (Advance m))

-- no event has a window (11.26)
abbrev pub NoWindows : Plan → Type 0
NoWindows p = (e : ℕ) → has_window p e ≡ false

-- a list without its advances (11.26)
abbrev pub unmoved : List Call → List Call
unmoved [] = []
unmoved (Submit e ∷ cs) = Submit e ∷ unmoved cs
unmoved (Close k ∷ cs) = Close k ∷ unmoved cs
unmoved (Finish ∷ cs) = Finish ∷ unmoved cs
unmoved (Advance m ∷ cs) = unmoved cs

abbrev pub is_advance : Call → Bool
is_advance (Submit e) = false
is_advance (Close k) = false
is_advance Finish = false
is_advance (Advance m) = true

-- at minute m the call gives the same answer and, but for the minute, the same state (11.26)
pub record Timeless (s : State) (m : ℕ) (c : Call) : Type 0 where
  pub answers : (call (set_minute s m) c).answer ≡ (call s c).answer
  pub states : (call (set_minute s m) c).state ≡ set_minute (call s c).state m

-- for every admitted sheet without windows and every list: without its advances the list ends in the same state, but
-- for the minute (11.26)
abbrev pub MovesNothing : Scheduler → Type 0
MovesNothing step = (bytes : List ℕ) (s : State) (cs : List Call)
    → read_sheet bytes ≡ admitted s
    → NoWindows s.plan
    → set_minute (after step s cs) 0 ≡ after step s (unmoved cs)
