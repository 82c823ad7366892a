-- For each clause of the statements a worthless scheduler that the clause turns away, so that none can be dropped or
-- weakened without a theorem here failing. Worthless.antt has the schedulers that document 01 names.
use Prim.Native.Nat.{ℕ, suc, ◌≤◌}
use native.Mathlib.Omega.{arith}
use mathlib.Core.List.Memᴰ
use mathlib.Core.List.{List, [], ◌∷◌}
use mathlib.Core.Logic.{inl, inr}
use mathlib.Core.Path.{◌≡◌, refl, ap}
use lib.ListN.{get_or, length, drop}
use Rattle.theory.proofs.Types.{Need, Conditional, Done, Lapsed, Forced, Entry, State, Submit, Close, Finish, Advance, Unknown}
use Rattle.plan.specs.Plans.{empty_plan, over_at, over_in}
use Rattle.plan.specs.Fates.{is_held}
use Rattle.plan.specs.Histories.{blank_entry, any_done, done_in, done_in_turn, holds}
use Rattle.plan.specs.Rules.{named, enforceable, sound_rule, owes, unstoppable, reckoned, triggered}
use Rattle.plan.specs.Faults.{first_fault}
use Rattle.plan.specs.Records.{rule_of, add_event, add_rule, add_window, declare, record_fault}
use Rattle.plan.specs.Sheets.{read_from, read_plan, ending, sheet_plan}
use Rattle.scheduler.specs.State.{first_state, empty_state, fate_of, broken_at, line_count, settle_as, shut, break_rule, set_minute, Sized}
use Rattle.scheduler.specs.Orders.{Viable, order_of, chosen}
use Rattle.plan.specs.Base.{first_of}
use Rattle.scheduler.specs.Calls.{AtRest, settle, record_broken, do_alone}
use Rattle.scheduler.specs.Coherent.{coherent_rule}
use Rattle.scheduler.specs.Sheet.{admitted, read_sheet}
use Rattle.scheduler.specs.Lists.{Scheduler, scheduler}
use Rattle.scheduler.specs.Demand.{Keeps}
use Rattle.scheduler.specs.Doing.{Acts, Doing}
use Rattle.theory.specs.Marks.{Forces}
use Rattle.theory.specs.Waiting.{Awaits, BreaksOnly, plain_bars, WaitEnds}
use Rattle.theory.specs.Windows.{timed_lines, KeepsTime, NoneOverdue, ForGood}
use Rattle.plan.proofs.Tests.{clash}
use Rattle.scheduler.proofs.Laws.{sized_hold, sized_minute, sized_shut, sized_settle}
use Rattle.scheduler.proofs.Doing.{rest_held}
use Rattle.theory.proofs.Demands.{first_sized, all_open}
use Rattle.theory.proofs.Worthless.{one, shown_by, on_one, scheduled, holder, doer, orderless, once_only, untouched, sluggish, acts_close, one_held, one_done, need_forced, need_first, read_forced, consent_form, consent_first, read_consent, timeless_clock, window_sheet, window_first, read_window, window_held, held_sized, restless}

-- Demand 3, clause by clause.

-- once: gives done to an event that is handed in twice
pub not_doer_twice : Keeps doer → ⊥
unfolding shown_by
not_doer_twice k =
    let twice : 2 ≤ 1 = (on_one doer k (Submit 0 ∷ Submit 0 ∷ [])).once 0 in
    omega arith

-- kept: a need whose a is rejectable; a conditional whose triggers are, though its c can be forced
abbrev need_refusable : List ℕ
need_refusable = 1 ∷ 0 ∷ 6 ∷ 1 ∷ 1 ∷ 6 ∷ 3 ∷ 0 ∷ 1 ∷ 5 ∷ []

abbrev need_open : State
need_open = first_state (add_rule (add_event (add_event empty_plan 0 6) 1 6) (Need 0 1))

read_need : read_sheet need_refusable ≡ admitted need_open
unfolding add_event add_rule declare record_fault read_from read_plan ending sheet_plan read_sheet first_fault named
    enforceable rule_of
read_need = refl

pub not_doer_needs : Keeps doer → ⊥
unfolding shown_by owes holds done_in any_done order_of first_of chosen
not_doer_needs k = clash refl ((k need_refusable need_open (Submit 0 ∷ []) read_need).claim.kept 0 (omega arith) refl)

abbrev both_refusable : List ℕ
both_refusable = 1 ∷ 0 ∷ 6 ∷ 1 ∷ 1 ∷ 6 ∷ 1 ∷ 2 ∷ 7 ∷ 4 ∷ 0 ∷ 1 ∷ 2 ∷ 5 ∷ []

abbrev both_first : State
both_first = first_state (add_rule (add_event (add_event (add_event empty_plan 0 6) 1 6) 2 7) (Conditional 0 1 2))

read_both : read_sheet both_refusable ≡ admitted both_first
unfolding add_event add_rule declare record_fault read_from read_plan ending sheet_plan read_sheet first_fault named
    enforceable rule_of
read_both = refl

pub not_doer_conditional : Keeps doer → ⊥
unfolding shown_by unstoppable reckoned triggered owes holds done_in any_done order_of first_of chosen
not_doer_conditional k =
    clash refl ((k both_refusable both_first (Submit 0 ∷ Submit 1 ∷ []) read_both).claim.kept 0 (omega arith) refl)

-- holding: breaks a need and records nothing, where an order would have kept it
pub not_doer_unrecorded : Keeps doer → ⊥
unfolding shown_by owes holds done_in any_done order_of first_of chosen
not_doer_unrecorded k =
    clash ((k need_forced need_first (Submit 0 ∷ []) read_forced).claim.holding 0 (omega arith) refl) refl

-- shown: does an event alone and records its need as broken, where an order would have kept it
pub not_orderless_alone : Keeps orderless → ⊥
unfolding shown_by owes holds done_in any_done order_of first_of chosen orderless record_broken do_alone break_rule
not_orderless_alone k =
    clash refl (ap (λ (s : State). broken_at s 0) (k need_forced need_first (Submit 0 ∷ []) read_forced).claim.shown)

-- coherent_end: holds an event that cannot wait; nothing else of demand 3 sees it, as it has no viable order
abbrev need_at_once : List ℕ
need_at_once = 1 ∷ 0 ∷ 2 ∷ 1 ∷ 1 ∷ 6 ∷ 3 ∷ 0 ∷ 1 ∷ 5 ∷ []

abbrev at_once_first : State
at_once_first = first_state (add_rule (add_event (add_event empty_plan 0 2) 1 6) (Need 0 1))

read_at_once : read_sheet need_at_once ≡ admitted at_once_first
unfolding add_event add_rule declare record_fault read_from read_plan ending sheet_plan read_sheet first_fault named
    enforceable rule_of
read_at_once = refl

pub not_holder_coherent : Keeps holder → ⊥
unfolding shown_by scheduled sound_rule named enforceable owes holds done_in_turn done_in any_done coherent_rule
not_holder_coherent k = clash (k need_at_once at_once_first (Submit 0 ∷ []) read_at_once).claim.coherent_end refl

-- grows: writes the history anew, two lines in each other's place
abbrev pub rewriter : Scheduler
rewriter s (Submit e) = settle_as Done s e
rewriter s (Close k) = scheduler s (Close k)
rewriter s Finish = scheduler s Finish
rewriter s (Advance m) = record {
  plan = s.plan;
  standings = s.standings;
  broken = s.broken;
  closed = s.closed;
  history = get_or s.history 1 blank_entry ∷ get_or s.history 0 blank_entry ∷ drop 2 s.history;
  history_len = line_count s;
  minute = s.minute;
}

abbrev two_free : List ℕ
two_free = 1 ∷ 0 ∷ 6 ∷ 1 ∷ 0 ∷ 6 ∷ 5 ∷ []

abbrev two_first : State
two_first = first_state (add_event (add_event empty_plan 0 6) 0 6)

read_free : read_sheet two_free ≡ admitted two_first
unfolding add_event declare record_fault read_from read_plan ending sheet_plan read_sheet first_fault
read_free = refl

pub not_rewriter : Keeps rewriter → ⊥
unfolding shown_by
not_rewriter k =
    let later = (k two_free two_first (Submit 0 ∷ Submit 1 ∷ Advance 0 ∷ []) read_free).grows.1.1.0 in
    let z : ◌≡◌ {A = ℕ} 1 0 = ap (λ (l : List Entry). (get_or l 0 blank_entry).event) later.1 in
    omega arith

-- Demand 2's doing, clause by clause.

-- held, the event of `one` has a viable order
held_viable : Viable one_held 0 (0 ∷ [])
unfolding shown_by scheduled
held_viable = record {
  contains = Memᴰ.head refl;
  short = omega arith;
  different = (λ m. Memᴰ.not-nil m, tt);
  runs = (omega arith, refl, refl);
}

sized_held : Sized one_held
sized_held = sized_hold one 0 (first_sized one.plan)

unrested : AtRest one_held → ⊥
unfolding shown_by
unrested rests = (rest_held one_held sized_held rests 0 (omega arith) refl).1 (0 ∷ []) held_viable

-- rests: works on the first call and none after it; holds every event that is handed in; moves the minute and does not
-- settle; winds up nothing
pub not_doing_once_only : Doing once_only → ⊥
unfolding shown_by scheduled untouched once_only
not_doing_once_only d = unrested ((d one_held (Close 0) sized_held).rests (acts_close one_held 0 refl))

pub not_doing_holder : Doing holder → ⊥
unfolding shown_by scheduled
not_doing_holder d =
    unrested ((d one (Submit 0) (first_sized one.plan)).rests (record { taken = refl; fresh = λ e q. all_open one.plan e }))

pub not_doing_sluggish : Doing sluggish → ⊥
unfolding shown_by scheduled add_window
not_doing_sluggish d =
    restless ((d window_held (Advance 1) held_sized).rests (record { taken = refl; fresh = λ e q. absurd (let z : ◌≡◌ {A = ℕ} 0 1 = cc in omega arith) }))

abbrev pub unfinished : Scheduler
unfinished s (Submit e) = scheduler s (Submit e)
unfinished s (Close k) = scheduler s (Close k)
unfinished s Finish = s
unfinished s (Advance m) = scheduler s (Advance m)

abbrev shut_held : State
shut_held = shut one_held 0

pub not_doing_unfinished : Doing unfinished → ⊥
unfolding shown_by scheduled
not_doing_unfinished d =
    let z = sized_shut one_held 0 sized_held in
    let acts : Acts shut_held Finish = record { taken = refl; fresh = λ e q. absurd (let w : ◌≡◌ {A = ℕ} 0 1 = cc in omega arith) } in
    (rest_held shut_held z ((d shut_held Finish z).rests acts) 0 (omega arith) refl).1
    (0 ∷ [])
    (record {
      contains = Memᴰ.head refl;
      short = omega arith;
      different = (λ m. Memᴰ.not-nil m, tt);
      runs = (omega arith, refl, refl);
    })

-- extends: gives the empty state, which is at rest, and loses the history
abbrev pub eraser : Scheduler
eraser s c = empty_state

pub not_doing_eraser : Doing eraser → ⊥
unfolding add_event settle_as
not_doing_eraser d =
    let z = sized_settle Done (first_state (add_event empty_plan 0 2)) 0 (first_sized (add_event empty_plan 0 2)) in
    let lost = (d one_done (Submit 0) z).extends in
    let w : ◌≡◌ {A = ℕ} 0 (suc (length lost.0)) = ap length lost.1 in
    omega arith

-- unchanged: settles where the call is turned down
abbrev pub eager : Scheduler
eager s c = settle s

pub not_doing_eager : Doing eager → ⊥
unfolding shown_by scheduled
not_doing_eager d = clash (ap (λ (s : State). is_held (fate_of s 0)) ((d one_held (Submit 5) sized_held).unchanged Unknown refl)) refl

-- The requests' statements, the clauses that no scheduler of Worthless.antt needs.

-- S-5, only: forces an event that is not forcible
abbrev pub bully : Scheduler
bully s (Submit e) = settle_as Forced s (suc e)
bully s (Close k) = scheduler s (Close k)
bully s Finish = scheduler s Finish
bully s (Advance m) = scheduler s (Advance m)

pub not_bully : Forces bully → ⊥
unfolding add_event settle_as
not_bully f = elim (f.only two_first (Submit 0) 1 (first_sized two_first.plan) refl) [
  | inl q ↦ let w : ◌≡◌ {A = ℕ} 0 1 = cc in omega arith
  | inr by ↦ clash by.may refl
]

-- S-5, reported: gives done to an event that another one's hand-in brings about
abbrev pub lavish : Scheduler
lavish s (Submit e) = settle_as Done s (suc e)
lavish s (Close k) = scheduler s (Close k)
lavish s Finish = scheduler s Finish
lavish s (Advance m) = scheduler s (Advance m)

pub not_lavish : Forces lavish → ⊥
unfolding add_event settle_as
not_lavish f =
    let z : Submit 0 ≡ Submit 1 = f.reported two_first (Submit 0) 1 (first_sized two_first.plan) (all_open two_first.plan 1) refl in
    let w : ◌≡◌ {A = ℕ} 0 1 = cc in
    omega arith

-- S-6: breaks a conditional whose c cannot be forced
pub not_doer_breaks : BreaksOnly doer → ⊥
unfolding shown_by unstoppable reckoned triggered owes holds done_in any_done order_of first_of chosen
not_doer_breaks k =
    clash (k consent_form consent_first (Submit 0 ∷ Submit 1 ∷ []) 0 0 1 2 read_consent (omega arith) refl refl).0 refl

-- S-6, the wait ends: opens an event again that was done
abbrev pub reopener : Scheduler
reopener s c = settle_as Lapsed (first_state s.plan) 2

pub not_reopener : WaitEnds reopener → ⊥
unfolding shown_by scheduled sound_rule named enforceable unstoppable reckoned triggered owes holds done_in_turn done_in any_done
    coherent_rule plain_bars
not_reopener k =
    let s = settle_as Done consent_first 1 in
    let z = sized_settle Done consent_first 1 (first_sized consent_first.plan) in
    let w : Awaits consent_first.plan 0 1 2 = record {
      place = 0;
      within = omega arith;
      is = inl refl;
      unrefusable = refl;
      undelayable = refl;
      unforcible = refl;
    } in
    clash refl ((k s (Submit 0 ∷ []) 0 1 2 z refl w refl).same_bars 0)

-- S-7, all: its history is not what it had told before
pub not_rewriter_in_time : KeepsTime rewriter → ⊥
unfolding shown_by timed_lines
not_rewriter_in_time k =
    let told = (k two_free two_first (Submit 0 ∷ Submit 1 ∷ Advance 0 ∷ []) read_free).all in
    let z : ◌≡◌ {A = ℕ} 0 1 = ap (λ (l : List Entry). (get_or l 0 blank_entry).event) told in
    omega arith

-- S-7, the minute that the calls tell: an event stays held past its window, in a state that never says so
pub not_timeless_overdue : NoneOverdue timeless_clock → ⊥
unfolding shown_by scheduled add_window
not_timeless_overdue k = clash refl (k window_sheet window_first (Submit 0 ∷ Advance 3 ∷ []) 0 read_window (omega arith) refl)

-- S-7, for good: moves the minute back, so that a window that was over is not over any more
abbrev pub rewinder : Scheduler
rewinder s (Submit e) = scheduler s (Submit e)
rewinder s (Close k) = scheduler s (Close k)
rewinder s Finish = scheduler s Finish
rewinder s (Advance m) = set_minute s m

pub not_rewinder : ForGood rewinder → ⊥
unfolding add_event add_window set_minute over_at over_in
not_rewinder k =
    let z = sized_minute window_first 3 (first_sized window_first.plan) in
    clash (k (set_minute window_first 3) (Advance 0) 0 z refl refl).1 refl
