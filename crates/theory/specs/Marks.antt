-- The mark forced: a state without its marks, and which events may be marked.
use Rattle.std.specs.Prelude.{ℕ, ◌<◌, true, List, ◌∷◌, ◌++◌, map, ◌⊎◌, ◌≡◌}
use Rattle.plan.specs.declared.fate.Fate.{Fate}
use Rattle.plan.specs.declared.fate.Fate.TheVariants.{Open, Held, Done, Refused, Lapsed, Forced}
use Rattle.plan.specs.declared.fate.Standing.{Standing}
use Rattle.plan.specs.declared.history.Entry.{Entry}
use Rattle.plan.specs.declared.calls.Call.{Call}
use Rattle.plan.specs.declared.calls.Call.TheVariants.{Submit}
use Rattle.plan.specs.declared.answer.Answer.{Answer}
use Rattle.plan.specs.declared.answer.Answer.TheVariants.{Is, Made, TurnedDown}
use Rattle.scheduler.specs.declared.state.State.{State}
use Rattle.scheduler.specs.declared.reply.Reply.{Reply}
use Rattle.plan.specs.Plans.{event_count, forcible}
use Rattle.plan.specs.Histories.{listed_as}
use Rattle.scheduler.specs.State.{fate_of, line_count, lines, Sized}
use Rattle.scheduler.specs.Orders.{First, do_all}
use Rattle.scheduler.specs.Answers.{call_fault, call}
use Rattle.scheduler.specs.Sheet.{read_sheet, admitted}
use Rattle.scheduler.specs.Lists.{Scheduler, scheduler, after}
use Rattle.scheduler.specs.Demand.{Story, seen, submits, any_call}
use Rattle.scheduler.specs.Grounds.{Trail}

-- reads forced as done (7.13)
abbrev pub forget_fate : Fate → Fate
forget_fate x = elim x [ Open ↦ Open | Held ↦ Held | Done ↦ Done | Refused ↦ Refused | Lapsed ↦ Lapsed | Forced ↦ Done ]

-- the same for a line, an answer, every fate and line of a state, and a reply (7.13)
abbrev pub forget_line : Entry → Entry
forget_line l = record { event = l.event; fate = forget_fate l.fate }

abbrev pub forget_answer : Answer → Answer
forget_answer a = elim a [ Is x ↦ Is (forget_fate x) | Made ↦ Made | TurnedDown f ↦ TurnedDown f ]

unfoldable pub forget : State → State
forget s = record {
  plan = s.plan;
  standings = map (λ (v : Standing). record { fate = forget_fate v.fate }) s.standings;
  broken = s.broken;
  closed = s.closed;
  history = map forget_line s.history;
  history_len = line_count s;
  minute = s.minute;
}

abbrev pub forget_reply : Reply → Reply
forget_reply r = record { answer = forget_answer r.answer; state = forget r.state }

-- the marks of a state are right: for each declared event, forgetting them does not change whether the history lists
-- the event just as its fate asks. They are wrong where a line says done of a forced event, or the other way round
-- (11.18). Shown right by `right_alike` (then marks decide nothing), `coherent_right` (every coherent state has right
-- marks) and `marks_wrong` (a state without right marks, where they do decide), all in proofs/MarkedCalls
abbrev pub MarksRight : State → Type 0
MarksRight s = (e : ℕ)
    → e < event_count s.plan
    → listed_as (lines s) e (fate_of s e) ≡ listed_as (lines (forget s)) e (fate_of (forget s) e)

-- a call on a state and on the same state without marks: both are turned down by the same number, or both are accepted;
-- and their replies differ in marks alone (11.18)
pub record Alike (s : State) (c : Call) : Type 0 where
  pub refusals : call_fault s c ≡ call_fault (forget s) c
  pub replies : forget_reply (call s c) ≡ forget_reply (call (forget s) c)

-- a story without marks (11.19)
abbrev pub forget_story : Story → Story
forget_story story = map (λ (x : Call × List Entry). (x.0, map forget_line x.1)) story

-- the scheduler that forgets the marks after every call (11.19)
abbrev pub unmarked : Scheduler
unmarked s c = forget (scheduler s c)

-- a list on a sheet's first state: its histories and last state differ from that scheduler's in marks alone, and so
-- does every call that may follow (11.19)
pub record ListAlike (s : State) (cs : List Call) : Type 0 where
  pub stories : forget_story (seen scheduler s cs) ≡ seen unmarked s cs
  pub ends : forget (after scheduler s cs) ≡ after unmarked s cs
  pub next : (c : Call) → Alike (after scheduler s cs) c

-- how call c forces e, which is forcible and open before the call: in some state that the call reaches, the chosen
-- order of a held event contains e, and e is open when its turn comes (12.6). Shown right by `forces` (proofs/Forcing)
-- and by what it turns away: `not_forcer` and `not_unmarked` (proofs/Worthless)
pub record ForcedBy (c : Call) (s : State) (e : ℕ) : Type 0 where
  pub fresh : fate_of s e ≡ Open
  pub may : forcible s.plan e ≡ true
  pub at : State
  pub reached : Trail c s at
  pub for : ℕ
  pub waits : fate_of at for ≡ Held
  pub earlier : List ℕ
  pub later : List ℕ
  pub order : First at for (earlier ++ (e ∷ later))
  pub opened : fate_of (do_all at earlier) e ≡ Open

-- for any scheduler. If an event is forced after a call, it was forced before the call, or the call forces it as above.
-- A submit (hand in) does not force the event that it submits. An event that is open before a call and done after it,
-- not forced, was submitted by that call (12.6)
pub record Forces (step : Scheduler) : Type 0 where
  pub only : (s : State) (c : Call) (e : ℕ) → Sized s → fate_of (step s c) e ≡ Forced → (fate_of s e ≡ Forced) ⊎ ForcedBy c s e
  pub others : (s : State) (e : ℕ) → Sized s → fate_of (step s (Submit e)) e ≡ Forced → fate_of s e ≡ Forced
  pub reported : (s : State) (c : Call) (e : ℕ) → Sized s → fate_of s e ≡ Open → fate_of (step s c) e ≡ Done → c ≡ Submit e

-- for every admitted sheet and every list: an event that is done after the list, and not forced, was submitted by a
-- call of the list (12.7)
abbrev pub Reports : Scheduler → Type 0
Reports step = (bytes : List ℕ) (s : State) (cs : List Call) (e : ℕ)
    → read_sheet bytes ≡ admitted s
    → fate_of (after step s cs) e ≡ Done
    → any_call (submits e) cs ≡ true
