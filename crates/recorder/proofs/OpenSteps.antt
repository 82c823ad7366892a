-- Opening in code: the sheet at the front; then record after record comes to the run of the rest. Every state on the
-- way passes number 12, so only the rows after it turn a call down.
use Prim.Native.Nat.{ℕ, zero, suc, ◌+◌, ◌-◌, ◌≤◌, ◌<◌}
use native.Mathlib.Decide.{ℕ_discrete}
use native.Mathlib.Omega.{arith}
use mathlib.Core.Bool.{true, false}
use mathlib.Core.List.{List, [], ◌∷◌, ◌++◌}
use mathlib.Core.Path.{◌≡◌, refl, sym, ◌∙◌, ap, subst}
use lib.ListN.{length, get_or, take, drop, length-drop, drop_of_length-le, take-append-drop}
use lib.Seq.{drop-cons, drop-drop, length-take-le, take-take}
use Rattle.std.specs.Prelude.{Result, Ok, Err}
use Rattle.plan.specs.Calls.{call_size, first_call, Finishes}
use Rattle.plan.specs.Faults.{Verdict}
use Rattle.plan.specs.Sheets.{whole, read_plan}
use Rattle.plan.proofs.CallRecords.{more_left, finish_first}
use Rattle.plan.proofs.AnyCalls.{narrow_back}
use Rattle.scheduler.specs.State.{first_state, empty_state, Sized}
use Rattle.scheduler.specs.Coherent.{coherent}
use Rattle.scheduler.specs.Sheet.{read_sheet, admitted}
use Rattle.scheduler.specs.Answers.{turns_down, idle, accept, call}
use Rattle.scheduler.proofs.Branches.{call_accept}
use Rattle.scheduler.proofs.CallSteps.{turned_down_lem, not_turned_down, idle_same}
use Rattle.theory.proofs.Coherence.{call_coherent, sized_call}
use Rattle.theory.proofs.Demands.{admitted_coherent}
use Rattle.recorder.specs.Types.{Plan, Call, Submit, Finish, Listed, Extra, State, Reading, Reply, Refusal, NoRecord, JournalFault, Journal}
use Rattle.journal.specs.Records.{Front, Whole, Short, Other, stopped, size, front, run}
use Rattle.journal.specs.Journals.{Opening, Opens, Broken, opened_at, open_journal}
use Rattle.journal.specs.Calls.{calls}
use Rattle.journal.specs.Answers.{record_read, journal_read}
use Rattle.journal.proofs.Fronts.{whole_inside}
use Rattle.journal.proofs.Runs.{run_whole, run_refused, run_short, run_other}
use Rattle.journal.proofs.Sheets.{plan_inside, plan_before}
use Rattle.journal.proofs.Openings.{opened_good, opened_bad, opened_further, open_whole, open_faulty}
use Rattle.journal.proofs.CallLaws.{lawful, size_same, front_read, front_read_lem}
use Rattle.journal.proofs.Scheduled.{plan_admitted, FrontIs, alone, followed, bad, front_is}
use Rattle.recorder.specs.Internal.Underway.{Underway}

-- which front was read
front_whole : (f : Front Call) (c : Call) → Ok c ≡ record_read f → f ≡ Whole c
front_whole (Whole d) c h = cc
front_whole Short c h = absurd (let z : ◌≡◌ {A = ℕ} 0 1 = cc in omega arith)
front_whole Other c h = absurd (let z : ◌≡◌ {A = ℕ} 0 1 = cc in omega arith)

front_short : (f : Front Call) → Err NoRecord.Short ≡ record_read f → f ≡ Short
front_short (Whole d) h = absurd (let z : ◌≡◌ {A = ℕ} 0 1 = cc in omega arith)
front_short Short h = refl
front_short Other h = absurd (let z : ◌≡◌ {A = ℕ} 0 1 = cc in omega arith)

front_other : (f : Front Call) → Err NoRecord.Other ≡ record_read f → f ≡ Other
front_other (Whole d) h = absurd (let z : ◌≡◌ {A = ℕ} 0 1 = cc in omega arith)
front_other Short h = absurd (let z : ◌≡◌ {A = ℕ} 0 1 = cc in omega arith)
front_other Other h = refl

-- the loop
pub begun : (s : State) (b : List ℕ) (from : ℕ) → from ≤ length b → coherent s ≡ true → Sized s → Underway s b from s from
begun s b from h k z = record { inside = h; same = refl; passes = k; sized = z }

-- a call's record stands here
module _ {s t : State} {b : List ℕ} {from at : ℕ} (u : Underway s b from t at) (c : Call) (here : front calls (drop at b) ≡ Whole c) where
  fits : at + call_size c ≤ length b
  fits = omega (arith, size_same c, whole_inside calls lawful (drop at b) c here, length-drop at b, u.inside)

  made : turns_down t c ≡ false → Underway s b from (accept t c).state (at + call_size c)
  made d =
      let q = not_turned_down t c u.passes d in
      let same : (call t c).state ≡ (accept t c).state = ap (λ (r : Reply). r.state) (call_accept t c q) in
      let steps : opened_at at (length b) (run calls t (drop at b)) ≡ opened_at (at + size calls c) (length b) (run calls (call t c).state (drop (at + size calls c) b)) =
      ap (opened_at at (length b)) (run_whole calls lawful t (drop at b) c here q)
      ∙ opened_further at (size calls c) (length b) (run calls (call t c).state (drop (size calls c) (drop at b)))
      ∙ ap (λ (l : List ℕ). opened_at (at + size calls c) (length b) (run calls (call t c).state l)) (drop-drop (size calls c) at b) in
      record {
        inside = fits;
        same =
            ap (λ (v : State). opened_at (at + call_size c) (length b) (run calls v (drop (at + call_size c) b))) (sym same)
            ∙ ap (λ (i : ℕ). opened_at (at + i) (length b) (run calls (call t c).state (drop (at + i) b))) (size_same c)
            ∙ sym steps
            ∙ u.same;
        passes = ap coherent (sym same) ∙ call_coherent t c u.sized u.passes;
        sized = subst Sized same (sized_call t c u.sized);
      }

  -- its call is accepted and changes nothing
  pub idle_here : turns_down t c ≡ false → idle t c ≡ true → Underway s b from t (at + call_size c)
  idle_here d i = subst (λ (v : State). Underway s b from v (at + call_size c)) (idle_same t c i) (made d)

module _ {s t : State} {b : List ℕ} {from at : ℕ} (u : Underway s b from t at) (read : Result Call NoRecord) (is : read ≡ record_read (front calls (drop at b))) where
  abbrev all : Opening State
  all = opened_at from (length b) (run calls s (drop from b))

  -- a call's record
  module _ (c : Call) (h : read ≡ Ok c) where
    here : front calls (drop at b) ≡ Whole c
    here = front_whole (front calls (drop at b)) c (sym h ∙ is)

    pub record_inside : (n : ℕ) → n ≡ call_size c → at + n ≤ length b
    record_inside n e = omega (arith, fits u c here)

    pub record_less : (n : ℕ) → n ≡ call_size c → length b - (at + n) < length b - at
    record_less n e = omega (arith, record_inside n e, size_same c, lawful.some_bytes c)

    -- turned down
    pub refused : turns_down t c ≡ true → record { verdict = Err (JournalFault.Broken at); state = t } ≡ journal_read all
    refused d =
        let q = turned_down_lem t c u.passes d in
        let stops : opened_at at (length b) (run calls t (drop at b)) ≡ Broken t (at + 0) =
        ap (opened_at at (length b)) (run_refused calls lawful t (drop at b) c q.0 here q.1)
        ∙ opened_bad at (length b) (stopped t true) refl in
        let sum : at ≡ at + 0 = omega arith in
        ap journal_read (ap {B = Opening State} (Broken t) sum ∙ sym stops ∙ u.same)

    -- taken
    pub taken : (w : State) (n m : ℕ) → turns_down t c ≡ false → w ≡ (accept t c).state → n ≡ call_size c → m ≡ at + n → Underway s b from w m
    taken w n m d e f g = rw (e, g, f) (made u c here d)

  -- the end, or a cut record
  pub ended : read ≡ Err NoRecord.Short → record { verdict = Ok (record { end = at; left = length b - at }); state = t } ≡ journal_read all
  ended h =
      let stops : opened_at at (length b) (run calls t (drop at b)) ≡ Opens t (at + 0) (length b - (at + 0)) =
      ap (opened_at at (length b)) (run_short calls lawful t (drop at b) (front_short (front calls (drop at b)) (sym h ∙ is)))
      ∙ opened_good at (length b) (stopped t false) refl in
      let sum : at ≡ at + 0 = omega arith in
      ap journal_read (ap {B = Opening State} (λ (n : ℕ). Opens t n (length b - n)) sum ∙ sym stops ∙ u.same)

  -- a record that is no call's
  pub bad_ended : read ≡ Err NoRecord.Other → record { verdict = Err (JournalFault.Broken at); state = t } ≡ journal_read all
  bad_ended h =
      let stops : opened_at at (length b) (run calls t (drop at b)) ≡ Broken t (at + 0) =
      ap (opened_at at (length b)) (run_other calls lawful t (drop at b) (front_other (front calls (drop at b)) (sym h ∙ is)))
      ∙ opened_bad at (length b) (stopped t true) refl in
      let sum : at ≡ at + 0 = omega arith in
      ap journal_read (ap {B = Opening State} (Broken t) sum ∙ sym stops ∙ u.same)

-- records that are skipped, by the bytes that are left
listed_front : (b : List ℕ) (at : ℕ) (c : Call) → first_call (drop at b) ≡ Listed c → front calls (drop at b) ≡ Whole c
listed_front b at c h = front_read_lem (drop at b) ∙ ap (front_read (drop at b)) (narrow_back (drop at b) c h)

submit_front : (b : List ℕ) (at k x : ℕ)
    → k ≡ get_or b at 0
    → x ≡ get_or b (at + 1) 0
    → at + 1 < length b
    → k ≡ 16
    → front calls (drop at b) ≡ Whole (Submit x)
submit_front b at k x kind number two h =
    listed_front b at (Submit x)
    (sym (more_left b at (Listed (Submit x)) (omega (arith, two)) (λ one. omega (arith, two, one)) (rw (← kind, ← number, h) refl)))

finish_front : (b : List ℕ) (at : ℕ) → at < length b → get_or b at 0 ≡ 18 → front calls (drop at b) ≡ Whole Finish
finish_front b at some h =
    let rest = drop (suc at) b in
    let here : drop at b ≡ 18 ∷ rest = drop-cons b at 0 some ∙ ap (λ (i : ℕ). i ∷ rest) h in
    listed_front b at Finish (ap first_call here ∙ finish_first rest)

-- a submit that changes nothing
pub skip_submitted : {s t : State} {b : List ℕ} {from at : ℕ} (u : Underway s b from t at)
    → get_or b at 0 ≡ 16
    → at + 1 < length b
    → (turns_down t (Submit (get_or b (at + 1) 0)) ≡ false) × (idle t (Submit (get_or b (at + 1) 0)) ≡ true)
    → Underway s b from t (at + 2)
skip_submitted {b = b} {at = at} u kind two h =
    idle_here u (Submit (get_or b (at + 1) 0)) (submit_front b at _ _ refl refl two kind) h.0 h.1

-- finishes in a row, each of which changes nothing
pub one_before : (b : List ℕ) (at past : ℕ) → get_or b at 0 ≡ 18 → Finishes b (at + 1) past → Finishes b at past
one_before b at past h rest i ge lt = elim (ℕ_discrete i at) [
  | yes e ↦ ap (λ j. get_or b j 0) e ∙ h
  | no ne ↦ rest i (omega arith) lt
]

at_end : (at past : ℕ) → past ≡ at + 0 → past ≡ at
at_end at past e = omega (arith, e)

pub skip_finished : {s t : State} {b : List ℕ} {from : ℕ}
    → turns_down t Finish ≡ false
    → idle t Finish ≡ true
    → (k at past : ℕ)
    → Underway s b from t at
    → Finishes b at past
    → past ≤ length b
    → past ≡ at + k
    → Underway s b from t past
skip_finished d i zero at past u rest le e = rw (at_end at past e) u
skip_finished {b = b} d i (suc k) at past u rest le e =
    skip_finished d i k (at + 1) past
    (idle_here u Finish (finish_front b at (omega (arith, e, le)) (rest at (omega arith) (omega (arith, e)))) d i)
    (λ j ge lt. rest j (omega (arith, ge)) lt)
    le
    (omega (arith, e))

-- the journal read as a sheet
verdict_of_lem : {r q : Reading} → r ≡ q → r.verdict ≡ q.verdict
verdict_of_lem h = ap (λ (x : Reading). x.verdict) h

state_of_lem : {r q : Reading} → r ≡ q → r.state ≡ q.state
state_of_lem h = ap (λ (x : Reading). x.state) h

not_both : {e : Refusal} → ◌≡◌ {A = Verdict} (Ok tt) (Err e) → ⊥
not_both {e} h = let z : ◌≡◌ {A = ℕ} 0 1 = cc in omega arith

same_refusal : {d e : Refusal} → ◌≡◌ {A = Verdict} (Err d) (Err e) → d ≡ e
same_refusal {d} {e} h = cc

module _ (b : List ℕ) (r : Reading) (is : r ≡ read_sheet b) where
  -- a sheet alone
  pub sheet_alone : r.verdict ≡ Ok tt
      → record { verdict = Ok (record { end = length b; left = 0 }); state = r.state } ≡ journal_read (open_journal calls b)
  unfolding front
  sheet_alone h = go (front_is b)
    where
      go : FrontIs b → record { verdict = Ok (record { end = length b; left = 0 }); state = r.state } ≡ journal_read (open_journal calls b)
      go (followed p at q e) = absurd (not_both (sym h ∙ verdict_of_lem (is ∙ e)))
      go (bad f at q ne e) = absurd (not_both (sym h ∙ verdict_of_lem (is ∙ e)))
      go (alone p q e) =
          let n = length b in
          let t = first_state p in
          let none : drop n b ≡ [] = drop_of_length-le b {i = n} (omega arith) in
          let opens : open_journal calls b ≡ Opens t n 0 =
          open_whole calls b p n q
          ∙ ap (λ (l : List ℕ). opened_at n n (run calls t l)) none
          ∙ ap (opened_at n n) (run_short calls lawful t [] refl)
          ∙ opened_good n n (stopped t false) refl
          ∙ ap {B = Opening State} (λ (i : ℕ). Opens t i (n - i)) {x = n + 0} {y = n} (omega arith)
          ∙ ap {B = Opening State} (Opens t n) (omega arith) in
          ap {B = Journal} (λ (v : State). record { verdict = Ok (record { end = n; left = 0 }); state = v }) (state_of_lem (is ∙ e))
          ∙ ap journal_read (sym opens)

  module _ (d : Refusal) (h : r.verdict ≡ Err d) where
    -- number 8: a sheet with bytes behind it
    pub sheet_followed : d.fault ≡ Extra → (p : Plan) × (read_plan b ≡ whole p d.at)
    sheet_followed eight = go (front_is b)
      where
        go : FrontIs b → (p : Plan) × (read_plan b ≡ whole p d.at)
        go (alone p q e) = absurd (not_both (sym (verdict_of_lem (is ∙ e)) ∙ h))
        go (followed p m q e) =
            (p, q ∙ ap (λ (e : Refusal). whole p e.at) (same_refusal (sym (verdict_of_lem (is ∙ e)) ∙ h)))
        go (bad g m q ne e) =
            absurd (ne (ap (λ (e : Refusal). e.fault) (same_refusal (sym (verdict_of_lem (is ∙ e)) ∙ h)) ∙ eight))

    -- another fault is the sheet's own
    pub sheet_bad : (d.fault ≡ Extra → ⊥)
        → record { verdict = Err (JournalFault.Unread d); state = r.state } ≡ journal_read (open_journal calls b)
    sheet_bad other = go (front_is b)
      where
        go : FrontIs b → record { verdict = Err (JournalFault.Unread d); state = r.state } ≡ journal_read (open_journal calls b)
        go (alone p q e) = absurd (not_both (sym (verdict_of_lem (is ∙ e)) ∙ h))
        go (followed p m q e) =
            absurd (other (ap (λ (e : Refusal). e.fault) (sym (same_refusal (sym (verdict_of_lem (is ∙ e)) ∙ h)))))
        go (bad g m q ne e) =
            ap {B = Journal} (λ (t : State). record { verdict = Err (JournalFault.Unread d); state = t }) (state_of_lem (is ∙ e))
            ∙ ap {B = Journal} (λ (e : Refusal). record { verdict = Err (JournalFault.Unread e); state = empty_state }) (sym (same_refusal (sym (verdict_of_lem (is ∙ e)) ∙ h)))
            ∙ ap journal_read (sym (open_faulty calls b g m q))

-- first bytes that are a sheet are the journal's own
pub first_bytes : (b : List ℕ) (end : ℕ) (r : Reading)
    → end ≤ length b
    → r ≡ read_sheet (take end b)
    → r.verdict ≡ Ok tt
    → (p : Plan) × (read_plan b ≡ whole p end)
first_bytes b end r fits is h = go (front_is (take end b))
  where
    long : length (take end b) ≡ end
    long = length-take-le end b fits

    go : FrontIs (take end b) → (p : Plan) × (read_plan b ≡ whole p end)
    go (followed p at q e) = absurd (not_both (sym h ∙ verdict_of_lem (is ∙ e)))
    go (bad f at q ne e) = absurd (not_both (sym h ∙ verdict_of_lem (is ∙ e)))
    go (alone p q e) =
        let reads : read_plan (take end b) ≡ whole p end = q ∙ ap (whole p) long in
        let same : take end (take end b) ++ drop end b ≡ b =
        ap (λ (l : List ℕ). l ++ drop end b) (take-take end end b (omega arith)) ∙ take-append-drop end b in
        (p, ap read_plan (sym same) ∙ plan_before (take end b) p end reads end (drop end b) (omega arith))

-- the sheet by itself, and the records behind it
module _ (b : List ℕ) (end : ℕ) (pre : (p : Plan) × (read_plan b ≡ whole p end)) where
  pub end_fits : end ≤ length b
  end_fits = (plan_inside b pre.0 end pre.1).1

  module _ (r : Reading) (is : r ≡ read_sheet (take end b)) where
    reads : read_sheet (take end b) ≡ admitted (first_state pre.0)
    reads = plan_admitted b pre.0 end pre.1

    pub starts : coherent r.state ≡ true
    starts = ap coherent (state_of_lem (is ∙ reads)) ∙ admitted_coherent (take end b) (first_state pre.0) reads

    pub opens_rest : (j : Journal)
        → j ≡ journal_read (opened_at end (length b) (run calls r.state (drop end b)))
        → j ≡ journal_read (open_journal calls b)
    opens_rest j e =
        e
        ∙ ap (λ (t : State). journal_read (opened_at end (length b) (run calls t (drop end b)))) (state_of_lem (is ∙ reads))
        ∙ ap journal_read (sym (open_whole calls b pre.0 end pre.1))
