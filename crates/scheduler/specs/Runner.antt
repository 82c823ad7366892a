-- The run of a file of calls on a sheet, and the report.
use Rattle.std.specs.Prelude.{◌+◌, ◌/◌, ◌%◌, ◌∷◌, ◌++◌}
use Rattle.scheduler.specs.Prelude.{ℕ, zero, suc, true, false, List, [], ltb, Fate, Open, Held, Done, Refused, Lapsed, Forced, Entry, State, Ok, Err, Reading, Outcome}
use Rattle.plan.specs.Base.{one_if, count_below}
use Rattle.plan.specs.Fates.{is_held}
use Rattle.plan.specs.Plans.{event_count, rule_count}
use Rattle.plan.specs.Faults.{sheet_fault_number}
use Rattle.plan.specs.Calls.{Decoded, decode, decode_all}
use Rattle.scheduler.specs.State.{fate_of, broken_at, lines}
use Rattle.scheduler.specs.Sheet.{read_sheet}
use Rattle.scheduler.specs.Lists.{scheduler, after, turned_down}

-- the calls of a file are made on s; a bad record at their end counts as one call turned down (13.3)
abbrev pub ran_on : State → Decoded → Outcome
ran_on s d = record {
  verdict = Ok tt;
  state = after scheduler s d.calls;
  refused = turned_down s d.calls + one_if d.cut;
}

-- for an admitted sheet, the calls are made on its first state. For a sheet that is turned down, the state is the empty
-- one and no call is made (13.3, 13.5)
unfoldable pub run_on : Reading → Decoded → Outcome
run_on r d = elim r.verdict [
  | Ok u ↦ ran_on r.state d
  | Err e ↦ record { verdict = Err e; state = r.state; refused = 0 }
]

-- the run of the runner's two files, a sheet and calls (13.3)
unfoldable pub run_of : List ℕ → List ℕ → Outcome
run_of sheet calls = run_on (read_sheet sheet) (decode calls)

-- the same with calls of every kind, advances included (13.2)
unfoldable pub replay_of : List ℕ → List ℕ → Outcome
replay_of sheet calls = run_on (read_sheet sheet) (decode_all calls)

-- how many events are held (13.4)
abbrev pub held_count : State → ℕ
held_count s = count_below (event_count s.plan) (λ e. is_held (fate_of s e))

-- how many rules are recorded as broken (13.4)
abbrev pub broken_count : State → ℕ
broken_count s = count_below (rule_count s.plan) (λ i. broken_at s i)

-- a number in decimal digits, at most n of them; `decimal` allows enough (13.6)
unfoldable pub digits : ℕ → ℕ → List ℕ
digits zero x = []
digits (suc n) x = elim (ltb x 10) [
  | true ↦ (48 + x) ∷ []
  | false ↦ digits n (x / 10) ++ ((48 + x % 10) ∷ [])
]

unfoldable pub decimal : ℕ → List ℕ
decimal x = digits (x + 1) x

-- the report's words, in ASCII (13.4)
abbrev pub fate_word : Fate → List ℕ
fate_word Open = 111 ∷ 112 ∷ 101 ∷ 110 ∷ []  -- open
fate_word Held = 104 ∷ 101 ∷ 108 ∷ 100 ∷ []  -- held
fate_word Done = 100 ∷ 111 ∷ 110 ∷ 101 ∷ []  -- done
fate_word Refused = 114 ∷ 101 ∷ 102 ∷ 117 ∷ 115 ∷ 101 ∷ 100 ∷ []  -- refused
fate_word Lapsed = 108 ∷ 97 ∷ 112 ∷ 115 ∷ 101 ∷ 100 ∷ []  -- lapsed
fate_word Forced = 102 ∷ 111 ∷ 114 ∷ 99 ∷ 101 ∷ 100 ∷ []  -- forced

abbrev pub events_word : List ℕ
events_word = 101 ∷ 118 ∷ 101 ∷ 110 ∷ 116 ∷ 115 ∷ []  -- events

abbrev pub rules_word : List ℕ
rules_word = 114 ∷ 117 ∷ 108 ∷ 101 ∷ 115 ∷ []  -- rules

abbrev pub broken_word : List ℕ
broken_word = 98 ∷ 114 ∷ 111 ∷ 107 ∷ 101 ∷ 110 ∷ []  -- broken

abbrev pub calls_word : List ℕ
calls_word = 99 ∷ 97 ∷ 108 ∷ 108 ∷ 115 ∷ []  -- calls

abbrev pub at_word : List ℕ
at_word = 97 ∷ 116 ∷ []  -- at

-- two words with a space between them
infixr 60 ◌␣◌
abbrev pub ◌␣◌ : List ℕ → List ℕ → List ℕ
a ␣ b = a ++ (32 ∷ b)

-- a line of text: it ends with a line feed
abbrev pub line : List ℕ → List ℕ
line a = a ++ (10 ∷ [])

-- one line of text for each line of the history: the event and its fate (13.4)
unfoldable pub history_lines : List Entry → List ℕ
history_lines [] = []
history_lines (l ∷ ls) = line (decimal l.event ␣ fate_word l.fate) ++ history_lines ls

-- what the runner prints. For an admitted sheet: the counts of its plan, the history, and three more counts. For a
-- sheet that is turned down: the number and the offset (13.4, 13.5)
unfoldable pub report : Outcome → List ℕ
report r = elim r.verdict [
  | Ok u ↦
      line (events_word ␣ decimal (event_count r.state.plan) ␣ rules_word ␣ decimal (rule_count r.state.plan))
      ++ history_lines (lines r.state)
      ++ line (fate_word Held ␣ decimal (held_count r.state))
      ++ line (broken_word ␣ decimal (broken_count r.state))
      ++ line (fate_word Refused ␣ calls_word ␣ decimal r.refused)
  | Err e ↦ line (fate_word Refused ␣ decimal (sheet_fault_number e.fault) ␣ at_word ␣ decimal e.at)
]
