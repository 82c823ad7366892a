-- A state written out as a sheet: what it declares, its bytes, and what a writing into a lent buffer gives.
use Rattle.std.specs.Prelude.{ℕ, suc, ◌-◌, ◌≤◌, not, cond, List, [], ◌∷◌, ◌++◌, map, ◌≡◌, ltb, length, replicate}
use Rattle.std.specs.declared.option.Option.{Option}
use Rattle.std.specs.declared.option.Option.TheVariants.{None as none, Some as some}
use Rattle.plan.specs.Base.{tabulate}
use Rattle.plan.specs.Plans.{blank_event, blank_rule, blank_window, event_count, rule_count, event_at, rule_at, window_at, is_window}
use Rattle.plan.specs.Calls.{bytes_of}
use Rattle.plan.specs.Faults.{call_fault_number, first_fault}
use Rattle.scheduler.specs.State.{first_state, fate_of}
use Rattle.scheduler.specs.Coherent.{coherent}
use Rattle.scheduler.specs.Sheet.{admitted, read_sheet}
use Rattle.pages.specs.Filled.{filled}
use Rattle.writer.specs.Types.{Open, Event, Rule, Order, Need, Conditional, RuleLine, Window, Plan, CallFault, Result, Ok, Err, State, WriteFault, Incoherent, NoRoom}

-- the events that a plan declares, in their order (2.10)
abbrev pub events_of : Plan → List Event
events_of p = tabulate (event_count p) 0 (λ e. event_at p e)

-- the rules that a plan declares, in their order (2.10)
abbrev pub rules_of : Plan → List Rule
rules_of p = tabulate (rule_count p) 0 (λ i. rule_at p i)

-- the window of each event (2.10)
abbrev pub windows_of : Plan → List Window
windows_of p = tabulate (event_count p) 0 (λ e. window_at p e)

-- an event is written as a record of kind 1 (3.5)
abbrev pub event_record : Event → List ℕ
event_record v = 1 ∷ v.step ∷ v.attributes ∷ []

-- a rule is written as a record of its own kind (3.5)
abbrev pub rule_record : Rule → List ℕ
rule_record r = elim r [
  | Order a b ↦ 2 ∷ a ∷ b ∷ []
  | Need a b ↦ 3 ∷ a ∷ b ∷ []
  | Conditional a b c ↦ 4 ∷ a ∷ b ∷ c ∷ []
]

-- the records of a list, one after another
unfoldable pub joined : {A : Type 0} → (A → List ℕ) → List A → List ℕ
joined f [] = []
joined f (x ∷ xs) = f x ++ joined f xs

-- a window is written as a record of kind 7, with its event (3.5)
abbrev pub timed_record : ℕ → Window → List ℕ
timed_record e w = (7 ∷ e ∷ []) ++ bytes_of w.from ++ bytes_of w.until

-- an event without a window has no such record (3.5)
unfoldable pub window_record : ℕ → Window → List ℕ
window_record e w = cond (is_window w) (timed_record e w) []

-- the windows of the events from e on, in the order of the events (3.5)
unfoldable pub window_bytes : ℕ → List Window → List ℕ
window_bytes e [] = []
window_bytes e (w ∷ ws) = window_record e w ++ window_bytes (suc e) ws

-- the sheet of a plan: its events, then its rules, then its windows, then the end record (3.5)
unfoldable pub sheet_bytes : Plan → List ℕ
sheet_bytes p = joined event_record (events_of p) ++ joined rule_record (rules_of p) ++ window_bytes 0 (windows_of p) ++ (5 ∷ [])

abbrev pub sheet_length : Plan → ℕ
sheet_length p = length (sheet_bytes p)

-- the length that is given: that of the sheet, or 0 if the state is not coherent (9.17)
abbrev pub length_given : State → ℕ
length_given s = cond (coherent s) (sheet_length s.plan) 0

-- the fault of a call that a writing that is turned down answers with (10.9)
abbrev pub call_fault : WriteFault → CallFault
call_fault f = elim f [ Incoherent ↦ CallFault.Incoherent | NoRoom n ↦ CallFault.NoRoom ]

-- the length that it gives (9.17)
abbrev pub need_of : WriteFault → ℕ
need_of f = elim f [ Incoherent ↦ 0 | NoRoom n ↦ n ]

-- the answer, with the sheet's length if nothing turns the writing down
abbrev pub answer_to : Option WriteFault → ℕ → Result ℕ WriteFault
answer_to f n = elim f [ some x ↦ Err x | none ↦ Ok n ]

-- its number, and the length that is given with it (9.17)
abbrev pub reply_number : Result ℕ WriteFault → ℕ
reply_number r = elim r [ Ok n ↦ 0 | Err f ↦ call_fault_number (call_fault f) ]

abbrev pub reply_length : Result ℕ WriteFault → ℕ
reply_length r = elim r [ Ok n ↦ n | Err f ↦ need_of f ]

-- the answer if only the length is asked for; number 12 alone turns this down (9.17, 10.9)
unfoldable pub length_reply : State → Result ℕ WriteFault
length_reply s = answer_to (first_fault ((not (coherent s), Incoherent) ∷ [])) (sheet_length s.plan)

-- why a writing is turned down: number 12, then number 14 if the lent buffer is shorter than the sheet (10.9)
unfoldable pub write_fault : State → ℕ → Option WriteFault
write_fault s room =
    let size = sheet_length s.plan in
    first_fault ((not (coherent s), Incoherent) ∷ (ltb room size, NoRoom size) ∷ [])

-- the answer of a writing (9.17)
unfoldable pub write_reply : State → ℕ → Result ℕ WriteFault
write_reply s room = answer_to (write_fault s room) (sheet_length s.plan)

-- the lent buffer after a writing: unchanged if it is turned down; else the sheet, and then the buffer's own bytes
-- (9.18)
unfoldable pub buffer_after : State → List ℕ → List ℕ
buffer_after s out = elim (write_fault s (length out)) [ some f ↦ out | none ↦ filled (sheet_bytes s.plan) out ]

-- two plans declare the same events, rules and windows, numbered alike (2.10)
pub record SameDeclared (p q : Plan) : Type 0 where
  pub events : events_of p ≡ events_of q
  pub rules : rules_of p ≡ rules_of q
  pub windows : windows_of p ≡ windows_of q

-- the plan that declares the same and has blanks in the places beyond its counts (2.10)
abbrev pub plain : Plan → Plan
plain p = record {
  events = events_of p ++ replicate (16 - event_count p) blank_event;
  event_count = event_count p;
  rules = map {B = RuleLine} (λ (r : Rule). record { rule = r }) (rules_of p) ++ replicate (16 - rule_count p) blank_rule;
  rule_count = rule_count p;
  windows = windows_of p ++ replicate (16 - event_count p) blank_window;
}

-- what is true of the sheet that a state is written as. It is admitted, with every event open and the same events,
-- rules and windows. It is written again as the same bytes. It has at most 273 bytes (11.16)
pub record ReadBack (s : State) : Type 0 where
  pub reads : read_sheet (sheet_bytes s.plan) ≡ admitted (first_state (plain s.plan))
  pub same : SameDeclared (plain s.plan) s.plan
  pub all_open : (e : ℕ) → fate_of (first_state (plain s.plan)) e ≡ Open
  pub again : sheet_bytes (plain s.plan) ≡ sheet_bytes s.plan
  pub short : sheet_length s.plan ≤ 273
