-- A report is short: `report_within` and `report_short`, for an outcome whose numbers fit their types, and `short`, for
-- one that code holds.
use Prim.Native.Nat.{ℕ, zero, suc, ◌+◌, ◌*◌, ◌/◌, ◌≤◌, ◌<◌}
use native.Mathlib.Omega.{arith}
use native.Mathlib.Decide.{dec_lt}
use mathlib.Core.List.{List, [], ◌∷◌, ◌++◌}
use mathlib.Core.Path.{◌≡◌, refl, sym, ◌∙◌, ap}
use lib.ListN.{length, get_or, take, drop, length-append, take-append-drop}
use mir.Val.{Val}
use denote.Laws.{Is}
use denote.Array.{each}
use denote.Shadow.{shadow}
use denote.Struct.Declared.{row}
use denote.Struct.Field.{Field}
use Rattle.plan.proofs.Tests.{count_le}
use Rattle.report.specs.Types.{SheetFault, Cut, BadKind, Full, BadStep, BadAttributes, BadNames, Unenforceable, Extra, BadWindow, Outcome, Result, Ok, Err, Refusal, Fate, Open, Held, Done, Refused, Lapsed, Forced, Entry}
use Rattle.plan.specs.Plans.{event_count, rule_count}
use Rattle.scheduler.specs.State.{line_count, lines, fate_of, broken_at}
use Rattle.plan.specs.Histories.{blank_entry}
use Rattle.plan.specs.Fates.{is_held}
use Rattle.plan.specs.Faults.{sheet_fault_number}
use Rattle.scheduler.specs.Runner.{held_count, broken_count, decimal, line, history_lines, report}
use Rattle.report.specs.Internal.Texts.{fate_end, entry_line, head, tail, state_text, refusal_line}
use Rattle.report.proofs.Digits.{length_one, length_more}
use Rattle.report.proofs.Splits.{events_lead, rules_lead, held_lead, broken_lead, calls_lead, refused_lead, at_lead, entry_split, head_split, tail_split, state_split, refusal_is, lines_append, report_admitted, report_refused}
use Rattle.scheduler.specs.contracts.reply.Outcome as the-outcome
use Rattle.plan.specs.contracts.history.Entry as the-entry
use Rattle.plan.specs.contracts.answer.Refusal as the-refusal
use Rattle.std.specs.contracts.result.Result as the-result
use denote.Builtin.{unit}

-- an outcome's numbers fit their types
pub record Small (o : Outcome) : Type 0 where
  pub events : event_count o.state.plan < 256
  pub rules : rule_count o.state.plan < 256
  pub entries : (i : ℕ) → (get_or o.state.history i blank_entry).event < 256
  pub places : length o.state.history ≡ 16
  pub refused : o.refused < 18446744073709551616
  pub offset : (e : Refusal) → o.verdict ≡ Err e → e.at < 18446744073709551616

-- what owning the entries of a history tells
entries_small : (h : List Entry) (us : List Val)
    → shadow (each (the-entry.the_row).Denot (the-entry.the_row).own_val h us)
    → (i : ℕ)
    → (get_or h i blank_entry).event < 256
entries_small [] us g i = omega arith
entries_small (e ∷ h) [] g i = absurd g
entries_small (e ∷ h) (u ∷ us) g zero = g.0.1.1.0.1
entries_small (e ∷ h) (u ∷ us) g (suc i) = entries_small h us g.1 i

-- what owning a verdict tells
abbrev verdict : Field
verdict = the-result.the_field unit the-refusal.the_row

offset_small : (v : Result Unit Refusal) (w : List Val)
    → shadow (verdict.row.own_val (verdict.into v) w)
    → (e : Refusal)
    → v ≡ Err e
    → e.at < 18446744073709551616
offset_small (Ok u) w g e h = absurd (cc)
offset_small (Err k) w g e h =
    let same : k ≡ e = cc in
    omega (arith, g.1.1.1.1.0.1.1.1.0.1, ap (λ (r : Refusal). r.at) same)

-- what owning an outcome tells
pub small : (o : Outcome) {vs : List Val} → Is (row the-outcome.the_type) o vs → Small o
small o g = let s = g.1.1.1.0 in record {
  events = s.1.1.0.1.1.0.1;
  rules = s.1.1.0.1.1.1.1.1.1.0.1;
  entries = entries_small o.state.history s.1.1.1.1.1.1.0.0 s.1.1.1.1.1.1.0.1.1;
  places = s.1.1.1.1.1.1.0.1.0.1;
  refused = g.1.1.1.1.0.1;
  offset = offset_small o.verdict _ g.1.1.0;
}

-- 10 to the power of k + 1
abbrev tens : ℕ → ℕ
tens zero = 10
tens (suc k) = 10 * tens k

-- a number below 10 to the power of k + 1 has at most k + 1 digits
digits_few : (k x : ℕ) → x < tens k → length (decimal x) ≤ suc k
digits_few zero x h = omega (arith, length_one x h)
digits_few (suc k) x h = elim (dec_lt x 10) [
  | yes lt ↦ omega (arith, length_one x lt)
  | no ge ↦ omega (arith, length_more x (omega arith), digits_few k (x / 10) (omega arith))
]

-- the digits of a u8, and of a usize
three : (x : ℕ) → x < 256 → length (decimal x) ≤ 3
three x h = digits_few 2 x (omega arith)

twenty : (x : ℕ) → x < 18446744073709551616 → length (decimal x) ≤ 20
twenty x h = digits_few 19 x (omega arith)

-- the fault numbers and the fates
fault_few : (f : SheetFault) → sheet_fault_number f < 256
fault_few Cut = omega arith
fault_few BadKind = omega arith
fault_few Full = omega arith
fault_few BadStep = omega arith
fault_few BadAttributes = omega arith
fault_few BadNames = omega arith
fault_few Unenforceable = omega arith
fault_few Extra = omega arith
fault_few BadWindow = omega arith

fate_few : (x : Fate) → length (fate_end x) ≤ 9
fate_few Open = omega arith
fate_few Held = omega arith
fate_few Done = omega arith
fate_few Refused = omega arith
fate_few Lapsed = omega arith
fate_few Forced = omega arith

-- a history line has at most 12 bytes
entry_few : (l : Entry) → l.event < 256 → length (entry_line l) ≤ 12
entry_few l h =
    omega (arith, ap length (entry_split l) ∙ length-append (decimal l.event) (fate_end l.fate), three l.event h, fate_few l.fate)

-- a history takes at most 12 bytes for each line
lines_few : (h : List Entry) → ((i : ℕ) → (get_or h i blank_entry).event < 256) → length (history_lines h) ≤ 12 * length h
unfolding history_lines
lines_few [] small = omega arith
lines_few (l ∷ h) small =
    omega (arith, length-append (entry_line l) (history_lines h), entry_few l (small 0), lines_few h (λ i. small (suc i)))

-- a word, a number and the line's end
line_length : (word : List ℕ) (x : ℕ) → length (line (word ++ decimal x)) ≡ length word + length (decimal x) + 1
line_length word x =
    length-append (word ++ decimal x) (10 ∷ []) ∙ ap (λ (n : ℕ). n + 1) (length-append word (decimal x))

-- the first line, the last lines, and the line of a sheet turned down
head_few : (events rules : ℕ) → events < 256 → rules < 256 → length (head events rules) ≤ 21
head_few events rules h k =
    omega (arith, ap length (head_split events rules) ∙ length-append (events_lead ++ decimal events) (line (rules_lead ++ decimal rules)), line_length rules_lead rules, three events h, three rules k)

tail_few : (held broken refused : ℕ)
    → held < 256
    → broken < 256
    → refused < 18446744073709551616
    → length (tail held broken refused) ≤ 55
tail_few held broken refused h k r =
    omega (
      arith,
      ap length (tail_split held broken refused) ∙ length-append (line (held_lead ++ decimal held)) (line (broken_lead ++ decimal broken) ++ line (calls_lead ++ decimal refused)),
      length-append (line (broken_lead ++ decimal broken)) (line (calls_lead ++ decimal refused)),
      line_length held_lead held,
      line_length broken_lead broken,
      line_length calls_lead refused,
      three held h,
      three broken k,
      twenty refused r,
    )

refusal_few : (e : Refusal) → e.at < 18446744073709551616 → length (refusal_line e) ≤ 36
refusal_few e h =
    let number = sheet_fault_number e.fault in
    omega (
      arith,
      ap length (refusal_is e number refl) ∙ length-append (refused_lead ++ decimal number) (line (at_lead ++ decimal e.at)),
      line_length at_lead e.at,
      three number (fault_few e.fault),
      twenty e.at h,
    )

module _ (o : Outcome) (fits : Small o) where
  -- 16 lines of 12 bytes
  history_few : length (history_lines (lines o.state)) ≤ 192
  history_few =
      let h = o.state.history in
      let n = line_count o.state in
      omega (
        arith,
        ap length (ap history_lines (sym (take-append-drop n h)) ∙ lines_append (take n h) (drop n h)) ∙ length-append (history_lines (take n h)) (history_lines (drop n h)),
        lines_few h fits.entries,
        fits.places,
      )

  -- 21 + 192 + 55
  state_few : length (state_text o.state o.refused) ≤ 268
  state_few =
      let s = o.state in
      let top = head (event_count s.plan) (rule_count s.plan) in
      let last = tail (held_count s) (broken_count s) o.refused in
      let held = count_le (event_count s.plan) (λ e. is_held (fate_of s e)) in
      let broken = count_le (rule_count s.plan) (λ i. broken_at s i) in
      omega (
        arith,
        ap length (state_split s o.refused) ∙ length-append top (history_lines (lines s) ++ last),
        length-append (history_lines (lines s)) last,
        head_few (event_count s.plan) (rule_count s.plan) fits.events fits.rules,
        history_few,
        tail_few (held_count s) (broken_count s) o.refused (omega (arith, fits.events)) (omega (arith, fits.rules)) fits.refused,
      )

  -- the most that a report takes
  pub report_within : length (report o) ≤ 268
  report_within = go o.verdict refl
    where
      go : (v : Result Unit Refusal) → o.verdict ≡ v → length (report o) ≤ 268
      go (Ok u) h = rw (report_admitted o h) state_few
      go (Err e) h = omega (arith, ap length (report_refused o e h), refusal_few e (fits.offset e h))

  -- the page has room
  pub report_short : length (report o) ≤ 320
  report_short = omega (arith, report_within)

-- the same of an outcome that code holds: `c.well_formed.0` for the first parameter, `c.CALL.ok` for a result
pub short : (o : Outcome) {vs : List Val} → Is (row the-outcome.the_type) o vs → length (report o) ≤ 320
short o g = report_short o (small o g)
