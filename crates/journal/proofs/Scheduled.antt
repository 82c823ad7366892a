-- Journals of the scheduler's calls: every cut, every appended record, what a host keeps; demand 3 of what a journal
-- holds.
use Prim.Native.Nat.{ℕ, ◌+◌, ◌-◌, ◌≤◌, ◌<◌}
use native.Mathlib.Omega.{arith}
use borrow.Author.Tests.{ltb-false, le-ltb}
use mathlib.Core.Bool.{Bool, true, false, not}
use mathlib.Core.List.{List, [], ◌∷◌, ◌++◌, append-nil}
use mathlib.Core.Logic.{◌⊎◌, inl, inr}
use Rattle.std.specs.declared.option.Option.{Option}
use Rattle.std.specs.declared.option.Option.TheVariants.{None as none, Some as some}
use mathlib.Core.Path.{◌≡◌, refl, sym, ◌∙◌, ap, subst}
use lib.Dec.{ltb}
use lib.ListN.{length, get_or, take, drop, length-append, length-drop, get_or-append}
use lib.Seq.{length-take-le, take_at, take-add, get_or-take, get_or-drop}
use Rattle.std.specs.Prelude.{Ok, Err}
use Rattle.plan.specs.Base.{one_if}
use Rattle.plan.specs.Faults.{refusal, is_turned_down, first_fault}
use Rattle.plan.specs.Calls.{call_bytes, encode}
use Rattle.plan.specs.Sheets.{PlanReading, whole, faulty, read_plan, ending, sheet_plan}
use Rattle.scheduler.specs.State.{first_state}
use Rattle.scheduler.specs.Coherent.{coherent}
use Rattle.scheduler.specs.Sheet.{read_sheet, admitted, not_admitted}
use Rattle.scheduler.specs.Answers.{call_rows, call_fault, call}
use Rattle.scheduler.specs.Lists.{scheduler, after, turned_down}
use Rattle.scheduler.specs.Demand.{Demand3, seen}
use Rattle.plan.proofs.Tables.{row_miss}
use Rattle.theory.proofs.Coherence.{call_taken, fault_answer}
use Rattle.theory.proofs.Demands.{demand3}
use Rattle.journal.specs.Types.{Plan, Call, CallFault, Incoherent, SheetFault, Extra, Answer, State, Reading}
use Rattle.journal.specs.Records.{Ran, size, run, records, made, Accepted, whole_within}
use Rattle.journal.specs.Journals.{Opening, Opens, Broken, Appended, journal_of, open_journal, append_to, append, buffer_after}
use Rattle.journal.specs.Claims.{opens_after, SurvivesCut, ExactlyWhole, AppendsCall, Kept}
use Rattle.journal.specs.Calls.{calls}
use Rattle.journal.specs.Answers.{journal_read, journal_number}
use Rattle.journal.specs.Scheduled.{RecordAppended, StoresRecord, HoldsCalls}
use Rattle.journal.proofs.Runs.{bytes_drop, listed}
use Rattle.journal.proofs.Sheets.{plan_inside, plan_before, never_extra}
use Rattle.journal.proofs.Openings.{opened_good, opened_bad, open_whole, open_faulty, opened, end_inside}
use Rattle.journal.proofs.Cuts.{exactly_unique, survives_cut}
use Rattle.journal.proofs.Appends.{append_inside, to_appended, open_next, open_torn, open_again, appends_call, kept_opens}
use Rattle.journal.proofs.CallLaws.{lawful, recorded, all_recorded, size_same}

-- the state that an opening gives
abbrev pub state_of : Opening State → State
state_of o = (journal_read o).state

-- an admitted sheet is its plan's bytes
pub record AdmittedPlan (b : List ℕ) (s : State) : Type 0 where
  pub plan : Plan
  pub reads : read_plan b ≡ whole plan (length b)
  pub first : s ≡ first_state plan

-- the branches of reading a sheet
module _ (b : List ℕ) where
  ending_extra : (p : Plan) (at : ℕ) → ltb at (length b) ≡ true → ending b (whole p at) ≡ faulty Extra at
  unfolding ending
  ending_extra p at h = rw (h, ending)

  ending_exact : (p : Plan) (at : ℕ) → ltb at (length b) ≡ false → ending b (whole p at) ≡ whole p at
  unfolding ending
  ending_exact p at h = rw (h, ending)

  ending_faulty : (f : SheetFault) (at : ℕ) → ending b (faulty f at) ≡ faulty f at
  unfolding ending
  ending_faulty f at = refl

  read_as : (o : PlanReading) → read_plan b ≡ o → sheet_plan b ≡ ending b o
  unfolding sheet_plan
  read_as o h = ap (ending b) h

  pub read_admitted : (p : Plan) (at : ℕ) → sheet_plan b ≡ whole p at → read_sheet b ≡ admitted (first_state p)
  unfolding read_sheet
  read_admitted p at h = rw (h, read_sheet)

  pub read_turned : (f : SheetFault) (at : ℕ) → sheet_plan b ≡ faulty f at → read_sheet b ≡ not_admitted f at
  unfolding read_sheet
  read_turned f at h = rw (h, read_sheet)

not_admitted_lem : {f : SheetFault} {at : ℕ} {s : State} → not_admitted f at ≡ admitted s → ⊥
not_admitted_lem {f} {at} {s} h =
    let e : Err (refusal f at) ≡ Ok tt = ap (λ (r : Reading). r.verdict) h in
    let z : ◌≡◌ {A = ℕ} 0 1 = cc in
    omega arith

pub admitted_plan : (b : List ℕ) (s : State) → read_sheet b ≡ admitted s → AdmittedPlan b s
admitted_plan b s h = go (read_plan b) refl
  where
    go : (o : PlanReading) → read_plan b ≡ o → AdmittedPlan b s
    go (faulty f at) q =
        absurd (not_admitted_lem (sym (read_turned b f at (read_as b (faulty f at) q ∙ ending_faulty b f at)) ∙ h))
    go (whole p at) q = long (ltb at (length b)) refl
      where
        long : (t : Bool) → ltb at (length b) ≡ t → AdmittedPlan b s
        long true t =
            absurd (not_admitted_lem (sym (read_turned b Extra at (read_as b (whole p at) q ∙ ending_extra b p at t)) ∙ h))
        long false t =
            let exact : at ≡ length b = omega (arith, ltb-false at (length b) t, (plan_inside b p at q).1) in
            record {
              plan = p;
              reads = q ∙ ap (whole p) exact;
              first =
                  ap (λ (r : Reading). r.state)
                  (sym h ∙ read_admitted b p at (read_as b (whole p at) q ∙ ending_exact b p at t));
            }

-- a plan's bytes are an admitted sheet
pub plan_admitted : (b : List ℕ) (p : Plan) (at : ℕ) → read_plan b ≡ whole p at → read_sheet (take at b) ≡ admitted (first_state p)
plan_admitted b p at h =
    let len : length (take at b) ≡ at = length-take-le at b (plan_inside b p at h).1 in
    let reads : read_plan (take at b) ≡ whole p at =
    ap read_plan (sym (append-nil (take at b))) ∙ plan_before b p at h at [] (omega arith) in
    read_admitted (take at b) p at
    (read_as (take at b) (whole p at) reads ∙ ending_exact (take at b) p at (le-ltb at (length (take at b)) (omega arith)))

-- what reading a journal as a sheet says of it: it is a sheet alone, a sheet with bytes behind it, or no sheet
pub data FrontIs (b : List ℕ) : Type 0 where
  alone : (p : Plan) → read_plan b ≡ whole p (length b) → read_sheet b ≡ admitted (first_state p) → FrontIs b
  followed : (p : Plan) (at : ℕ) → read_plan b ≡ whole p at → read_sheet b ≡ not_admitted Extra at → FrontIs b
  bad : (f : SheetFault) (at : ℕ) → read_plan b ≡ faulty f at → (f ≡ Extra → ⊥) → read_sheet b ≡ not_admitted f at → FrontIs b

pub front_is : (b : List ℕ) → FrontIs b
front_is b = go (read_plan b) refl
  where
    go : (o : PlanReading) → read_plan b ≡ o → FrontIs b
    go (faulty f at) q =
        bad f at q (never_extra b f at q) (read_turned b f at (read_as b (faulty f at) q ∙ ending_faulty b f at))
    go (whole p at) q = long (ltb at (length b)) refl
      where
        long : (t : Bool) → ltb at (length b) ≡ t → FrontIs b
        long true t = followed p at q (read_turned b Extra at (read_as b (whole p at) q ∙ ending_extra b p at t))
        long false t =
            let exact : at ≡ length b = omega (arith, ltb-false at (length b) t, (plan_inside b p at q).1) in
            alone p (q ∙ ap (whole p) exact) (read_admitted b p at (read_as b (whole p at) q ∙ ending_exact b p at t))

-- the calls that a state accepts one after another are those of which none is turned down
taken_none : (s : State) (c : Call) → one_if (is_turned_down (call s c).answer) ≡ 0 → call_fault s c ≡ none
taken_none s c h = go (call_fault s c) refl
  where
    go : (q : Option CallFault) → call_fault s c ≡ q → call_fault s c ≡ none
    go none e = e
    go (some f) e =
        absurd (let z : 1 ≡ 0 = ap (λ (a : Answer). one_if (is_turned_down a)) (sym (fault_answer s c f e)) ∙ h in omega arith)

pub none_refused : (s : State) (cs : List Call) → turned_down s cs ≡ 0 → Accepted calls s cs
unfolding turned_down
none_refused s [] h = tt
none_refused s (c ∷ cs) h = (
  taken_none s c (omega arith),
  none_refused (call s c).state cs (omega arith),
)

pub all_accepted : (s : State) (cs : List Call) → Accepted calls s cs → turned_down s cs ≡ 0
unfolding turned_down
all_accepted s [] a = refl
all_accepted s (c ∷ cs) a =
    let first : one_if (is_turned_down (call s c).answer) ≡ 0 = ap one_if (call_taken s c a.0) in
    omega (arith, all_accepted (call s c).state cs a.1)

-- the state after them
pub made_after : (s : State) (cs : List Call) → made calls s cs ≡ after scheduler s cs
unfolding made after
made_after s [] = refl
made_after s (c ∷ cs) = made_after (call s c).state cs

-- their records are those of a list (`replay`)
pub records_encode : (cs : List Call) → records calls cs ≡ encode cs
unfolding records encode
records_encode [] = refl
records_encode (c ∷ cs) = ap (λ (x : List ℕ). call_bytes c ++ x) (records_encode cs)

-- an admitted sheet
module _ (sheet : List ℕ) (s : State) (read : read_sheet sheet ≡ admitted s) where
  from_sheet : AdmittedPlan sheet s
  from_sheet = admitted_plan sheet s read

  pub same_first : first_state s.plan ≡ s
  same_first = ap (λ (t : State). first_state t.plan) from_sheet.first ∙ sym from_sheet.first

  reads_plan : read_plan sheet ≡ whole s.plan (length sheet)
  reads_plan = from_sheet.reads ∙ ap (λ (t : State). whole t.plan (length sheet)) (sym from_sheet.first)

  -- every list of accepted calls, every cut: the calls whose records are whole, no more and no fewer
  pub cut : (cs : List Call) → turned_down s cs ≡ 0 → SurvivesCut calls sheet s.plan cs
  cut cs h =
      survives_cut calls lawful sheet s.plan reads_plan cs
      (subst (λ (t : State). Accepted calls t cs) (sym same_first) (none_refused s cs h))
      (all_recorded cs)

  -- the same in numbers and states: of the first n bytes of the journal, with the sheet whole, the calls whose records are
  -- whole; inside the sheet, number 1
  module _ (cs : List Call) (h : turned_down s cs ≡ 0) (n : ℕ) where
    abbrev remains : List ℕ
    remains = take n (sheet ++ encode cs)

    as_kept : remains ≡ take n (journal_of calls sheet cs)
    as_kept = ap (λ (l : List ℕ). take n (sheet ++ l)) (sym (records_encode cs))

    pub cut_opens : length sheet ≤ n
        → (kept : List Call)
        → ExactlyWhole calls (n - length sheet) cs kept
        → open_journal calls remains
        ≡ Opens (after scheduler s kept) (length (sheet ++ encode kept)) (length remains - length (sheet ++ encode kept))
    cut_opens fits kept e =
        let j = take n (journal_of calls sheet cs) in
        let same : whole_within calls (n - length sheet) cs ≡ kept = sym (exactly_unique calls lawful (n - length sheet) cs kept e) in
        let long : length (journal_of calls sheet kept) ≡ length (sheet ++ encode kept) =
        ap (λ (l : List ℕ). length (sheet ++ l)) (records_encode kept) in
        ap (open_journal calls) as_kept
        ∙ (cut cs h).behind n fits
        ∙ ap (λ (l : List Call). opens_after calls j sheet (first_state s.plan) l) same
        ∙ ap (λ (t : State). opens_after calls j sheet t kept) same_first
        ∙ ap (λ (t : State). Opens t (length (journal_of calls sheet kept)) (length j - length (journal_of calls sheet kept))) (made_after s kept)
        ∙ ap (λ (m : ℕ). Opens (after scheduler s kept) m (length j - m)) long
        ∙ ap (λ (l : List ℕ). Opens (after scheduler s kept) (length (sheet ++ encode kept)) (length l - length (sheet ++ encode kept))) (sym as_kept)

    pub cut_in_sheet : n < length sheet → journal_number (journal_read (open_journal calls remains)).verdict ≡ 1
    cut_in_sheet short =
        let c = (cut cs h).inside n short in
        ap (λ (l : List ℕ). journal_number (journal_read (open_journal calls l)).verdict) as_kept ∙ ap (λ (o : Opening State). journal_number (journal_read o).verdict) c.2

  -- whatever a host keeps that began with the sheet alone opens to the state after the calls that it has not lost
  pub keeps : (b : List ℕ) (cs : List Call) → Kept calls sheet b cs → open_journal calls b ≡ opens_after calls b sheet s cs
  keeps b cs kp =
      kept_opens calls lawful sheet s.plan reads_plan kp ∙ ap (λ (t : State). opens_after calls b sheet t cs) same_first

  -- and demand 3 holds of them
  pub keeps_demand3 : (b : List ℕ) (cs : List Call)
      → Kept calls sheet b cs
      → Demand3 s.plan (seen scheduler s cs) (state_of (open_journal calls b))
  keeps_demand3 b cs kp =
      let e : state_of (open_journal calls b) ≡ after scheduler s cs = ap state_of (keeps b cs kp) ∙ made_after s cs in
      subst (Demand3 s.plan (seen scheduler s cs)) (sym e) (demand3 sheet s cs read)

-- an appended record
pub appending : (buffer : List ℕ) (len : ℕ) (c : Call) (end n : ℕ)
    → append calls buffer len c ≡ Appended end n
    → AppendsCall calls buffer len c end n
appending buffer len c end n h = appends_call calls lawful buffer len c end n (recorded c) h

-- opening what was written equals making the call; and no other byte of the buffer changes
module _ (buffer : List ℕ) (len : ℕ) (c : Call) (end n : ℕ) (h : append calls buffer len c ≡ Appended end n) where
  abbrev written : List ℕ
  written = buffer_after calls buffer len c

  pub append_makes : state_of (open_journal calls (take n written)) ≡ (call (state_of (open_journal calls (take len buffer))) c).state
  append_makes =
      let m = appending buffer len c end n h in
      ap state_of m.reopens ∙ ap (λ (o : Opening State). (call (state_of o) c).state) (sym m.opens)

  pub append_only : (i : ℕ) → (i < end) ⊎ (n ≤ i) → get_or written i 0 ≡ get_or buffer i 0
  append_only i where-is =
      let m = appending buffer len c end n h in
      let inside : end ≤ length buffer = omega (arith, m.length_is, m.fits) in
      elim where-is [
        | inl l ↦
            sym (get_or-take n written i 0 (omega (arith, m.length_is)))
            ∙ ap (λ (b : List ℕ). get_or b i 0) m.written
            ∙ get_or-append (take end buffer) (call_bytes c) 0 i (omega (arith, length-take-le end buffer inside))
            ∙ get_or-take end buffer i 0 l
        | inr g ↦
            let sum : n + (i - n) ≡ i = omega arith in
            ap (λ (j : ℕ). get_or written j 0) (sym sum)
            ∙ sym (get_or-drop n written (i - n) 0)
            ∙ ap (λ (b : List ℕ). get_or b (i - n) 0) m.beyond
            ∙ get_or-drop n buffer (i - n) 0
            ∙ ap (λ (j : ℕ). get_or buffer j 0) sum
      ]

-- a host that keeps the state and stores record after record
module _ (b : List ℕ) (s : State) (end left : ℕ) (o : open_journal calls b ≡ Opens s end left) (c : Call) (f : call_fault s c ≡ none) where
  abbrev whole_part : List ℕ
  whole_part = take end b

  part_long : length whole_part ≡ end
  part_long = length-take-le end b (end_inside calls lawful b s end left o)

  -- in a buffer that begins with the journal's whole part and has room, the record is what `append` writes
  same_bytes : (rest : List ℕ) → size calls c ≤ length rest → RecordAppended whole_part end c rest
  same_bytes rest room =
      let buffer = whole_part ++ rest in
      let long : length buffer ≡ end + length rest = length-append whole_part rest ∙ ap (λ (i : ℕ). i + length rest) part_long in
      let front : take end buffer ≡ whole_part = take_at whole_part rest end part_long in
      let answer : append calls buffer end c ≡ Appended end (end + size calls c) =
      append_inside calls buffer end c (le-ltb (length buffer) end (omega arith))
      ∙ ap (append_to calls (length buffer) c) (ap (open_journal calls) front ∙ open_again calls lawful b s end left o)
      ∙ to_appended calls (length buffer) c s end 0 f (le-ltb (length buffer) (end + size calls c) (omega arith)) in
      record {
        answer = answer ∙ ap (Appended end) (ap (λ (i : ℕ). end + i) (sym (size_same c)));
        bytes =
            ap (λ (i : ℕ). take (end + i) (buffer_after calls buffer end c)) (size_same c)
            ∙ (appending buffer end c end (end + size calls c) answer).written
            ∙ ap (λ (l : List ℕ). l ++ call_bytes c) front;
      }

  pub stores_record : StoresRecord b s end c
  stores_record = record {
    opens =
        open_next calls lawful b s end left c o f (recorded c)
        ∙ ap (λ (i : ℕ). Opens (call s c).state (end + i) 0) (sym (size_same c));
    torn = λ n part. open_torn calls lawful b s end left c n o (omega (arith, size_same c));
    appends = λ rest room. same_bytes rest (omega (arith, size_same c));
  }

-- what a journal holds, up to where its run ended
holds_run : (b : List ℕ) (p : Plan) (at : ℕ)
    → read_plan b ≡ whole p at
    → HoldsCalls b (run calls (first_state p) (drop at b)).state (at + (run calls (first_state p) (drop at b)).used)
holds_run b p at h =
    let r = run calls (first_state p) (drop at b) in
    let l = listed calls lawful (first_state p) (drop at b) in
    let admits = plan_admitted b p at h in
    let ended : r.state ≡ after scheduler (first_state p) l.calls = l.state ∙ made_after (first_state p) l.calls in
    let demand : Demand3 p (seen scheduler (first_state p) l.calls) r.state =
    subst (Demand3 p (seen scheduler (first_state p) l.calls)) (sym ended) (demand3 (take at b) (first_state p) l.calls admits) in
    record {
      sheet_end = at;
      first = first_state p;
      made = l.calls;
      before = omega arith;
      inside = omega (arith, l.inside, length-drop at b, (plan_inside b p at h).1);
      admits = admits;
      accepted = all_accepted (first_state p) l.calls l.accepted;
      written = λ e. take-add at r.used b ∙ ap (λ (x : List ℕ). take at b ++ x) (l.written (bytes_drop at b e));
      state = ended;
      demand3 = demand;
      hangs = demand.claim.coherent_end;
    }

pub opens_holds : (b : List ℕ) (t : State) (end left : ℕ) → open_journal calls b ≡ Opens t end left → HoldsCalls b t end
opens_holds b t end left h =
    let o = opened calls b t end left h in
    subst (λ (n : ℕ). HoldsCalls b t n) o.ends
    (subst (λ (u : State). HoldsCalls b u (o.at + (run calls (first_state o.plan) (drop o.at b)).used)) o.state
    (holds_run b o.plan o.at o.reads))

pub broken_holds : (b : List ℕ) (t : State) (end : ℕ) → open_journal calls b ≡ Broken t end → HoldsCalls b t end
broken_holds b t end h = go (read_plan b) refl
  where
    go : (o : PlanReading) → read_plan b ≡ o → HoldsCalls b t end
    go (faulty f at) q =
        absurd (let e = sym (open_faulty calls b f at q) ∙ h in let z : ◌≡◌ {A = ℕ} 0 1 = cc in omega arith)
    go (whole p at) q = ran (run calls (first_state p) (drop at b)).bad refl
      where
        r : Ran State
        r = run calls (first_state p) (drop at b)

        ran : (u : Bool) → (run calls (first_state p) (drop at b)).bad ≡ u → HoldsCalls b t end
        ran false u =
            absurd (let e = sym (open_whole calls b p at q ∙ opened_good at (length b) (run calls (first_state p) (drop at b)) u) ∙ h in let z : ◌≡◌ {A = ℕ} 0 1 = cc in omega arith)
        ran true u =
            let e : Broken r.state (at + r.used) ≡ Broken t end =
            sym (open_whole calls b p at q ∙ opened_bad at (length b) (run calls (first_state p) (drop at b)) u) ∙ h in
            let state : r.state ≡ t = cc in
            let ends : at + r.used ≡ end = cc in
            subst (λ (n : ℕ). HoldsCalls b t n) ends
            (subst (λ (v : State). HoldsCalls b v (at + r.used)) state (holds_run b p at q))

-- so number 12 need not be tested when a journal is opened or appended to
pub untested : (b : List ℕ) (t : State) (end : ℕ) → HoldsCalls b t end → (c : Call) → call_fault t c ≡ first_fault (call_rows t c)
unfolding call_fault
untested b t end m c = row_miss (not (coherent t)) Incoherent (call_rows t c) (ap not m.hangs)
