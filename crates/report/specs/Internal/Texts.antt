-- The texts of a report's parts.
use Rattle.std.specs.Prelude.{ℕ, List, ◌∷◌, ◌++◌}
use Rattle.report.specs.Types.{Fate, Held, Refused, Refusal, Entry, State}
use Rattle.plan.specs.Plans.{event_count, rule_count}
use Rattle.scheduler.specs.State.{lines}
use Rattle.plan.specs.Faults.{sheet_fault_number}
use Rattle.scheduler.specs.Runner.{held_count, broken_count, decimal, fate_word, events_word, rules_word, broken_word, calls_word, at_word, ◌␣◌, line, history_lines}

abbrev pub fate_end : Fate → List ℕ
fate_end x = 32 ∷ line (fate_word x)

abbrev pub entry_line : Entry → List ℕ
entry_line l = line (decimal l.event ␣ fate_word l.fate)

unfoldable pub head : ℕ → ℕ → List ℕ
head events rules = line (events_word ␣ decimal events ␣ rules_word ␣ decimal rules)

unfoldable pub tail : ℕ → ℕ → ℕ → List ℕ
tail held broken refused =
    line (fate_word Held ␣ decimal held)
    ++ line (broken_word ␣ decimal broken)
    ++ line (fate_word Refused ␣ calls_word ␣ decimal refused)

unfoldable pub state_text : State → ℕ → List ℕ
state_text s refused =
    head (event_count s.plan) (rule_count s.plan)
    ++ history_lines (lines s)
    ++ tail (held_count s) (broken_count s) refused

unfoldable pub refusal_line : Refusal → List ℕ
refusal_line e = line (fate_word Refused ␣ decimal (sheet_fault_number e.fault) ␣ at_word ␣ decimal e.at)
