-- How a report's texts split into those that are put one after another.
use Prim.Native.Nat.{ℕ, ◌+◌, ◌≤◌, ◌<◌, min}
use native.Mathlib.Decide.{dec_lt}
use native.Mathlib.Numerals.{add-one}
use native.Mathlib.Omega.{arith}
use mathlib.Core.List.{List, [], ◌∷◌, ◌++◌, append-nil, append_assoc}
use mathlib.Core.Path.{◌≡◌, refl, sym, ◌∙◌, ap, subst}
use lib.ListN.{length, get_or, take, drop, take-append-drop}
use lib.Seq.{take-suc, take_all}
use Rattle.pages.specs.Written.{Put}
use Rattle.pages.proofs.Pages.{After, put_after}
use Rattle.report.specs.Types.{Fate, Held, Refused, Refusal, Outcome, Ok, Err, Entry, State}
use Rattle.plan.specs.Plans.{event_count, rule_count}
use Rattle.scheduler.specs.State.{lines}
use Rattle.plan.specs.Histories.{blank_entry}
use Rattle.plan.specs.Faults.{sheet_fault_number}
use Rattle.scheduler.specs.Runner.{held_count, broken_count, decimal, fate_word, events_word, rules_word, broken_word, calls_word, at_word, ◌␣◌, line, history_lines, report}
use Rattle.report.specs.Internal.Texts.{fate_end, entry_line, head, tail, state_text, refusal_line}

-- a word and a space, before a number
abbrev pub events_lead : List ℕ
events_lead = events_word ++ (32 ∷ [])

abbrev pub rules_lead : List ℕ
rules_lead = (32 ∷ rules_word) ++ (32 ∷ [])

abbrev pub held_lead : List ℕ
held_lead = fate_word Held ++ (32 ∷ [])

abbrev pub broken_lead : List ℕ
broken_lead = broken_word ++ (32 ∷ [])

abbrev pub calls_lead : List ℕ
calls_lead = (fate_word Refused ␣ calls_word) ++ (32 ∷ [])

abbrev pub refused_lead : List ℕ
refused_lead = fate_word Refused ++ (32 ∷ [])

abbrev pub at_lead : List ℕ
at_lead = (32 ∷ at_word) ++ (32 ∷ [])

-- the end of a line is put, of the fate that a test told
pub fate_put : (page : List ℕ) (at : ℕ) (after : List ℕ) (end : ℕ) {x y : Fate}
    → x ≡ y
    → at + length (fate_end x) ≤ 320
    → After page at (fate_end y) after end
    → Put page at (fate_end x) after end
fate_put page at after end {x} {y} e room h =
    let same = ap fate_end e in
    subst (λ (text : List ℕ). Put page at text after end) (sym same)
    (put_after page at (fate_end y) (omega (arith, ap length same)) after end h)

-- a history line, the first line, the last lines, the whole report, and the line of a sheet turned down
pub entry_split : (l : Entry) → entry_line l ≡ decimal l.event ++ fate_end l.fate
entry_split l = append_assoc (decimal l.event) (32 ∷ fate_word l.fate) (10 ∷ [])

pub head_split : (events rules : ℕ)
    → head events rules ≡ (events_lead ++ decimal events) ++ line (rules_lead ++ decimal rules)
unfolding head
head_split events rules =
    ap (λ (l : List ℕ). events_lead ++ l) (append_assoc (decimal events) (rules_lead ++ decimal rules) (10 ∷ []))

refusal_split : (e : Refusal)
    → refusal_line e ≡ (refused_lead ++ decimal (sheet_fault_number e.fault)) ++ line (at_lead ++ decimal e.at)
unfolding refusal_line
refusal_split e =
    let number = decimal (sheet_fault_number e.fault) in
    ap (λ (l : List ℕ). refused_lead ++ l) (append_assoc number (at_lead ++ decimal e.at) (10 ∷ []))

pub refusal_is : (e : Refusal) (n : ℕ)
    → n ≡ sheet_fault_number e.fault
    → refusal_line e ≡ (refused_lead ++ decimal n) ++ line (at_lead ++ decimal e.at)
refusal_is e n same = rw same (refusal_split e)

pub tail_split : (held broken refused : ℕ)
    → tail held broken refused ≡ line (held_lead ++ decimal held) ++ (line (broken_lead ++ decimal broken) ++ line (calls_lead ++ decimal refused))
unfolding tail
tail_split held broken refused =
    append_assoc
    (line (held_lead ++ decimal held))
    (line (broken_lead ++ decimal broken))
    (line (calls_lead ++ decimal refused))

-- the history's lines, in two parts
pub lines_append : (h k : List Entry) → history_lines (h ++ k) ≡ history_lines h ++ history_lines k
unfolding history_lines
lines_append [] k = refl
lines_append (l ∷ h) k = rw (lines_append h k) (sym (append_assoc (entry_line l) (history_lines h) (history_lines k)))

-- no line, and one
pub lines_none : history_lines [] ≡ []
unfolding history_lines
lines_none = refl

pub lines_one : (l : Entry) → history_lines (l ∷ []) ≡ entry_line l
unfolding history_lines
lines_one l = append-nil (entry_line l)

module _ (h : List Entry) where
  -- a length above 16 gives the lines of all 16 places
  pub lines_all : (len : ℕ) → length h ≡ 16 → history_lines (take (min len 16) h) ≡ history_lines (take len h)
  lines_all len whole = elim (dec_lt len 16) [
    | yes lt ↦ let e : min len 16 ≡ len = omega arith in rw e
    | no ge ↦ let e : min len 16 ≡ 16 = omega arith in rw (e, take_all 16 h (omega arith), take_all len h (omega arith))
  ]

  module _ (i : ℕ) (lt : i < length h) where
    -- one line more
    pub lines_next : history_lines (take (i + 1) h) ≡ history_lines (take i h) ++ entry_line (get_or h i blank_entry)
    lines_next =
        let line = get_or h i blank_entry in
        rw (add-one i, take-suc h i blank_entry lt, lines_append (take i h) (line ∷ []), lines_one line)

    -- the lines before it, that line, and those after it
    pub lines_split : history_lines h
        ≡ history_lines (take i h) ++ (entry_line (get_or h i blank_entry) ++ history_lines (drop (i + 1) h))
    lines_split =
        ap history_lines (sym (take-append-drop (i + 1) h))
        ∙ lines_append (take (i + 1) h) (drop (i + 1) h)
        ∙ ap (λ (l : List ℕ). l ++ history_lines (drop (i + 1) h)) lines_next
        ∙ append_assoc (history_lines (take i h)) (entry_line (get_or h i blank_entry)) (history_lines (drop (i + 1) h))

-- the report of an admitted sheet, and the same with the lines and the counts that the code found
module _ (s : State) (refused : ℕ) where
  abbrev top : List ℕ
  top = head (event_count s.plan) (rule_count s.plan)

  pub state_split : state_text s refused
      ≡ top ++ (history_lines (lines s) ++ tail (held_count s) (broken_count s) refused)
  unfolding state_text
  state_split = append_assoc top (history_lines (lines s)) (tail (held_count s) (broken_count s) refused)

  pub state_found : (len held broken : ℕ)
      → len ≡ min s.history_len 16
      → length s.history ≡ 16
      → held ≡ held_count s
      → broken ≡ broken_count s
      → state_text s refused ≡ top ++ (history_lines (take len s.history) ++ tail held broken refused)
  state_found len held broken few whole same_held same_broken =
      let found = ap (λ (n : ℕ). history_lines (take n s.history)) few ∙ lines_all s.history s.history_len whole in
      state_split ∙ sym (λ i. top ++ (found i ++ tail (same_held i) (same_broken i) refused))

-- five texts, the last three as one
regroup : (a b c d e : List ℕ) → a ++ b ++ c ++ d ++ e ≡ a ++ b ++ (c ++ d ++ e)
regroup a b c d e = simp append_assoc

-- a report, by its verdict
pub report_admitted : (o : Outcome) → o.verdict ≡ Ok tt → report o ≡ state_text o.state o.refused
unfolding report state_text head tail
report_admitted o h =
    let s = o.state in
    let top = head (event_count s.plan) (rule_count s.plan) in
    let held = line (held_lead ++ decimal (held_count s)) in
    let broken = line (broken_lead ++ decimal (broken_count s)) in
    rw (h, report) (regroup top (history_lines (lines s)) held broken (line (calls_lead ++ decimal o.refused)))

pub report_refused : (o : Outcome) (e : Refusal) → o.verdict ≡ Err e → report o ≡ refusal_line e
unfolding report refusal_line
report_refused o e h = rw (h, report)
