-- The theorems on written sheets: what is written is admitted with the same events and rules and written again as the same
-- bytes; what declares the same is written alike, and only that; a record of kind 6 declares what four of kind 1 do.
use Prim.Native.Nat.{ℕ, suc, ◌+◌, ◌≤◌, ◌<◌}
use native.Mathlib.Omega.{arith}
use borrow.Author.Tests.{not-true, le-ltb}
use mathlib.Core.Bool.{true, not}
use mathlib.Core.List.{List, [], ◌∷◌, ◌++◌, map}
use mathlib.Core.Path.{◌≡◌, refl, sym, ◌∙◌, ap, subst}
use lib.ListN.{length, get_or, length-append, length-map}
use Rattle.plan.specs.Plans.{blank_event, blank_rule, blank_window, event_count, rule_count, rule_at, window_at, step_of, attributes_of, holds_bit}
use Rattle.plan.specs.Fates.{blank_standing}
use Rattle.plan.specs.Rules.{bad_step, bad_attributes, named, enforceable, sound_event}
use Rattle.plan.specs.Records.{add_events, declare}
use Rattle.plan.specs.Sheets.{whole, read_plan, ending, sheet_plan}
use Rattle.plan.proofs.Arrays.{read_blank}
use Rattle.plan.proofs.Tests.{and_left, and_right}
use Rattle.plan.proofs.SheetReading.{read_enough}
use Rattle.scheduler.specs.State.{first_state}
use Rattle.scheduler.specs.Coherent.{coherent}
use Rattle.scheduler.specs.Sheet.{admitted, read_sheet}
use Rattle.theory.proofs.Demands.{admitted_coherent}
use Rattle.theory.proofs.SheetPlans.{sheet_first, sheet_read}
use Rattle.theory.proofs.SoundPlans.{Sound, rule_named, rule_enforced, same_enforced}
use Rattle.theory.proofs.Coherence.{coherent_sound}
use Rattle.writer.specs.Types.{Standing, Event, Rule, RuleLine, Window, Plan, Record, State, Reading}
use Rattle.writer.specs.Writing.{events_of, rules_of, windows_of, event_record, rule_record, window_bytes, joined, sheet_bytes, sheet_length, plain, SameDeclared, ReadBack}
use Rattle.writer.proofs.Declared.{events_count, rules_count, windows_count, event_said, rule_said, window_said}
use Rattle.writer.proofs.Joining.{sheet_parts, sheet_short}
use Rattle.writer.proofs.Padded.{line_of, made, plain_made, plain_same, made_attributes, sound_blank, sound_timed, plain_is}
use Rattle.writer.proofs.ReadingBack.{Fine, Timed, windowed, drop_next, read_events, read_rules, read_windows, read_last}

-- what declares the same is written alike
pub written_alike : (p q : Plan) → SameDeclared p q → sheet_bytes p ≡ sheet_bytes q
unfolding sheet_bytes
written_alike p q same = λ i.
    joined event_record (same.events i) ++ joined rule_record (same.rules i) ++ window_bytes 0 (same.windows i) ++ (5 ∷ [])

-- a sound plan's sheet
module _ (p : Plan) (sd : Sound p) where
  abbrev es : List Event
  es = events_of p

  abbrev rs : List Rule
  rs = rules_of p

  event_fine : (k : ℕ) → k < length es → Fine (get_or es k blank_event)
  unfolding sound_event
  event_fine k lt =
      let below : k < event_count p = omega (arith, events_count p) in
      let said = event_said p k below in
      let step = bad_step (step_of p k) in
      let attributes = bad_attributes (attributes_of p k) in
      let sound = sd.event k below in
      record {
        step = ap (λ (v : Event). bad_step v.step) said ∙ not-true step (and_left (not step) (not attributes) sound);
        attributes =
            ap (λ (v : Event). bad_attributes v.attributes) said
            ∙ not-true attributes (and_right (not step) (not attributes) sound);
      }

  rule_names : (k : ℕ) → k < length rs → named (length es) (get_or rs k blank_rule.rule) ≡ true
  rule_names k lt =
      let below : k < rule_count p = omega (arith, rules_count p) in
      (λ i. named (events_count p i) (rule_said p k below i)) ∙ rule_named sd k below

  rule_holds : (k : ℕ) (ls : List RuleLine) → k < length rs → enforceable (made es ls []) (get_or rs k blank_rule.rule) ≡ true
  rule_holds k ls lt =
      let below : k < rule_count p = omega (arith, rules_count p) in
      let same = made_attributes p sd.few_events ls [] in
      ap (enforceable (made es ls [])) (rule_said p k below)
      ∙ same_enforced p (made es ls []) (event_count p) same (rule_at p k) (rule_named sd k below)
      ∙ rule_enforced sd k below

  abbrev us : List Window
  us = windows_of p

  window_timed : (ls : List RuleLine) (k : ℕ) → k < length us → Timed (made es ls []) (0 + k) (get_or us k blank_window)
  window_timed ls k lt =
      let below : k < event_count p = omega (arith, windows_count p) in
      let sound = sd.window k (omega (arith, sd.few_events)) in
      let said = window_said p k below in
      let here : k ≡ 0 + k = omega arith in
      let attributes = made_attributes p sd.few_events ls [] k below in
      let timed : Timed (made es ls []) k (window_at p k) = record {
        blank = sound_blank p k sound;
        waits = λ h. ap (holds_bit 4) attributes ∙ (sound_timed p k sound h).1;
        ahead = λ h. (sound_timed p k sound h).2;
      } in
      subst (λ (e : ℕ). Timed (made es ls []) e (get_or us k blank_window)) here
      (subst (λ (w : Window). Timed (made es ls []) k w) (sym said) timed)

  abbrev bytes : List ℕ
  bytes = sheet_bytes p

  -- record after record
  sheet_plan_lem : read_plan bytes ≡ whole (plain p) (sheet_length p)
  sheet_plan_lem =
      let evs = joined event_record es in
      let rls = joined rule_record rs in
      let ls = map line_of rs in
      let tms = window_bytes 0 us in
      let past = windowed us + suc (length bytes) in
      let enough = length es + (length rs + past) in
      let middle = drop_next bytes 0 evs (rls ++ (tms ++ (5 ∷ []))) (0 + length evs) (sheet_parts p) refl in
      let late = drop_next bytes (0 + length evs) rls (tms ++ (5 ∷ [])) (0 + length evs + length rls) middle refl in
      let last = drop_next bytes (0 + length evs + length rls) tms (5 ∷ []) (0 + length evs + length rls + length tms) late refl in
      let size : 0 + length evs + length rls + length tms + 1 ≡ length bytes =
      omega (arith, ap length (sheet_parts p), length-append evs (rls ++ (tms ++ (5 ∷ []))), length-append rls (tms ++ (5 ∷ [])), length-append tms (5 ∷ [])) in
      let lasting : length us ≤ length es = omega (arith, windows_count p, events_count p) in
      let few : length es ≤ 16 = omega (arith, events_count p, sd.few_events) in
      let few_rules : length rs ≤ 16 = omega (arith, rules_count p, sd.few_rules) in
      let few-lines : length ls ≤ 16 = omega (arith, length-map rs line_of) in
      sym (read_enough enough bytes (omega arith))
      ∙ read_events bytes es [] (length rs + past) 0 (rls ++ (tms ++ (5 ∷ []))) (sheet_parts p) (omega arith) event_fine
      ∙ read_rules bytes rs es [] past (0 + length evs) (tms ++ (5 ∷ [])) middle few (omega arith) rule_names rule_holds
      ∙ read_windows bytes es ls few few-lines us [] 0 (suc (length bytes)) (0 + length evs + length rls) (5 ∷ []) refl late (omega arith) (window_timed ls)
      ∙ read_last bytes (length bytes) (0 + length evs + length rls + length tms) (made es ls us) few few-lines last
      ∙ (λ i. whole (plain_made p i) (size i))

  sheet_reads : read_sheet bytes ≡ admitted (first_state (plain p))
  unfolding read_sheet sheet_plan ending
  sheet_reads =
      rw (sheet_plan_lem, ending, le-ltb (length bytes) (length bytes) (omega arith), read_sheet)

-- a state that passes number 12
pub read_back : (s : State) → coherent s ≡ true → ReadBack s
read_back s h =
    let sd = coherent_sound s h in
    let same = plain_same s.plan sd.few_events sd.few_rules in
    record {
      reads = sheet_reads s.plan sd;
      same = same;
      again = written_alike (plain s.plan) s.plan same;
      all_open = λ e. ap (λ (x : Standing). x.fate) (read_blank 16 blank_standing e);
      short = sheet_short s.plan sd.few_events sd.few_rules;
    }

-- the first state of an admitted sheet, written and read, is that state again
pub reopened : (sheet : List ℕ) (s : State) → read_sheet sheet ≡ admitted s → read_sheet (sheet_bytes s.plan) ≡ admitted s
reopened sheet s h =
    (read_back s (admitted_coherent sheet s h)).reads
    ∙ ap (λ (p : Plan). admitted (first_state p)) (plain_is s.plan (sheet_read sheet s h))
    ∙ ap admitted (sym (sheet_first sheet s h))

-- what is written alike declares the same: nothing is lost
pub alike_declared : (s t : State)
    → coherent s ≡ true
    → coherent t ≡ true
    → sheet_bytes s.plan ≡ sheet_bytes t.plan
    → SameDeclared s.plan t.plan
alike_declared s t h k same =
    let one = read_back s h in
    let other = read_back t k in
    let plans : plain s.plan ≡ plain t.plan =
    ap (λ (r : Reading). r.state.plan) (sym one.reads ∙ ap read_sheet same ∙ other.reads) in
    record {
      events = sym one.same.events ∙ ap events_of plans ∙ other.same.events;
      rules = sym one.same.rules ∙ ap rules_of plans ∙ other.same.rules;
      windows = sym one.same.windows ∙ ap windows_of plans ∙ other.same.windows;
    }

-- a record of kind 6 declares what four records of kind 1 on its step do
abbrev pub kind_one : ℕ → ℕ → Record
kind_one k a = record { kind = 1; x = k; y = a; z = 0; from = 0; until = 0 }

pub four_events : (p : Plan) (k y z m n : ℕ)
    → declare p (record { kind = 6; x = k; y = y; z = z; from = m; until = n })
    ≡ declare (declare (declare (declare p (kind_one k 7)) (kind_one k 0)) (kind_one k 6)) (kind_one k 1)
unfolding declare add_events
four_events p k y z m n = refl
