-- Worthless schedulers break the statements: each is refuted on a short list or a small state, by computation.
use Prim.Native.Nat.{ℕ, zero, suc}
use native.Mathlib.Omega.{arith}
use mathlib.Core.Bool.{Bool, true, false, not, ◌&&◌}
use mathlib.Core.List.Memᴰ
use mathlib.Core.List.{List, [], ◌∷◌}
use Rattle.std.specs.declared.option.Option.TheVariants.{None as none, Some as some}
use mathlib.Core.Logic.{◌≢◌, inl, inr}
use mathlib.Core.Path.{◌≡◌, refl, sym, ◌∙◌, ap, subst}
use Rattle.theory.proofs.Types.{Need, Conditional, Fate, Open, Held, Done, Refused, Forced, Order, State, Call, Submit, Close, Finish, Advance, Window}
use Rattle.plan.specs.Base.{any_below, all_below, those_below, among, first_of, tabulate, lowest}
use Rattle.plan.specs.Plans.{empty_plan, event_count, rule_count, rejectable, delayable, has_event, has_window, blank_window, allowed_at, over_at, allowed_in, over_in}
use Rattle.scheduler.specs.State.{first_state, empty_state, fate_of, closed_at, hold, settle_as, shut, set_minute, too_late, Sized}
use Rattle.plan.specs.Fates.{is_done, is_open}
use Rattle.plan.specs.Rules.{unstoppable, reckoned, triggered, owes, sound_rule, bad_window, sound_window, sound_windows, named, enforceable, sound_event, bars, makes_wait, forbids, ready}
use Rattle.scheduler.specs.Rules.{ruled_out, barred, forbidden, owing, strains}
use Rattle.plan.specs.Histories.{blank_entry, any_done, done_in, done_in_turn, holds, fates_in, declared_only, same_fates, listed_as}
use Rattle.scheduler.specs.Orders.{may_do, fate_at_turn, do_one, do_all, Viable, order_of, chosen, some_order, has_viable}
use Rattle.scheduler.specs.Calls.{AtRest, lapse, to_refuse, to_do, settle_once, settle_up_to, settle, do_alone, submit, decide}
use Rattle.plan.specs.Faults.{first_fault}
use Rattle.scheduler.specs.Coherent.{coherent_rule, coherent_event, coherent}
use Rattle.scheduler.specs.Answers.{call_fault, accept, call}
use Rattle.plan.specs.Records.{rule_of, add_event, add_rule, add_window, declare, record_fault}
use Rattle.plan.specs.Sheets.{read_from, read_plan, ending, sheet_plan}
use Rattle.scheduler.specs.Sheet.{admitted, read_sheet}
use Rattle.scheduler.specs.Lists.{Scheduler, after, scheduler}
use Rattle.scheduler.specs.Demand.{seen, Observed, nothing_yet, any_call, minute_after, Holds, observed_fate, state_of, accepted, starts_done, done_alone, newly_recorded, observe, observe_all, broken, unbreakable, Keeps}
use Rattle.scheduler.specs.Grounds.{Ground, by_bar, by_submission, by_finish, Trail, end, held, ordered, alone, refused, shuts, lapsed, moves, Grounded}
use lib.Dec.{eqb}
use lib.ListN.{get_or}
use Rattle.plan.proofs.Tests.{clash, any_none}
use Rattle.plan.proofs.Arrays.{read_blank}
use Rattle.plan.proofs.Windows.{unwindowed_over}
use Rattle.scheduler.proofs.Laws.{turn_done, plan_hold, plan_one, sized_hold, sized_one, sized_minute, fate_hold_same, fate_settle_either}
use Rattle.scheduler.specs.Doing.{Acts, Doing}
use Rattle.theory.specs.Marks.{forget, unmarked, Forces, Reports}
use Rattle.theory.specs.Windows.{Punctual, timed_lines, KeepsTime, NoneOverdue, ForGood, OnlySettles, MovesNothing}
use Rattle.theory.specs.Waiting.{Awaits, Provides}
use Rattle.theory.proofs.Demands.{first_sized}
use Rattle.scheduler.proofs.Settling.{settles_settle}
use Rattle.scheduler.proofs.Doing.{settled_fixed, rest_held}

-- sheets of one event that is rejectable and delayable, and of two with an order
abbrev pub one_event : List ℕ
one_event = 1 ∷ 0 ∷ 6 ∷ 5 ∷ []

abbrev two_in_order : List ℕ
two_in_order = 1 ∷ 0 ∷ 6 ∷ 1 ∷ 0 ∷ 6 ∷ 2 ∷ 0 ∷ 1 ∷ 5 ∷ []

abbrev pub one : State
one = first_state (add_event empty_plan 0 6)

abbrev two : State
two = first_state (add_rule (add_event (add_event empty_plan 0 6) 0 6) (Order 0 1))

pub read_one : read_sheet one_event ≡ admitted one
unfolding add_event declare record_fault read_from read_plan ending sheet_plan read_sheet first_fault
read_one = refl

read_two : read_sheet two_in_order ≡ admitted two
unfolding add_event add_rule declare record_fault read_from read_plan ending sheet_plan read_sheet first_fault named
    enforceable rule_of
read_two = refl

-- what a scheduler's story shows; to unfold it is to unfold all that demand 3 computes
unfoldable pub shown_by : Scheduler → State → List Call → Observed
unfolding add_event add_rule after seen any_below all_below those_below among tabulate hold settle_as shut bars
    makes_wait forbids allowed_at allowed_in over_at over_in ruled_out barred forbidden owing fates_in ready may_do some_order has_viable has_event any_call minute_after
    observed_fate state_of accepted starts_done done_alone strains newly_recorded observe observe_all broken
    unbreakable
shown_by step s cs = observe_all s.plan nothing_yet (seen step s cs)

-- demand 3 on the sheet of one event
pub on_one : (step : Scheduler)
    → Keeps step
    → (cs : List Call)
    → Holds one.plan (shown_by step one cs) (after step one cs)
unfolding shown_by
on_one step k cs = (k one_event one cs read_one).claim

-- the event, handed in and not in the history, has a viable order
viable_one : Viable (state_of one.plan (record { calls = Submit 0 ∷ []; recorded = []; history = [] })) 0 (0 ∷ [])
unfolding shown_by
viable_one = record {
  contains = Memᴰ.head refl;
  short = omega arith;
  different = (λ m. Memᴰ.not-nil m, tt);
  runs = (omega arith, refl, refl);
}

-- holds every event
abbrev pub holder : Scheduler
holder s (Submit e) = hold s e
holder s (Close k) = scheduler s (Close k)
holder s Finish = scheduler s Finish
holder s (Advance m) = scheduler s (Advance m)

pub not_holder : Keeps holder → ⊥
unfolding shown_by
not_holder k = (on_one holder k (Submit 0 ∷ [])).waiting 0 (0 ∷ []) refl viable_one

-- gives done to all
abbrev pub doer : Scheduler
doer s (Submit e) = settle_as Done s e
doer s (Close k) = scheduler s (Close k)
doer s Finish = scheduler s Finish
doer s (Advance m) = scheduler s (Advance m)

pub not_doer : Keeps doer → ⊥
unfolding shown_by
not_doer k = clash refl ((k two_in_order two (Submit 1 ∷ Submit 0 ∷ []) read_two).claim.kept 0 (omega arith) refl)

-- hands its state back untouched
abbrev pub idle : Scheduler
idle s c = s

pub not_idle : Keeps idle → ⊥
unfolding shown_by
not_idle k = clash refl (ap (λ (s : State). is_open (fate_of s 0)) (on_one idle k (Submit 0 ∷ [])).shown)

-- the true scheduler; to unfold it is to unfold all that its calls compute
unfoldable pub scheduled : State → Call → State
unfolding sound_event first_of lowest order_of chosen do_all to_refuse to_do settle_once settle_up_to settle submit
    first_fault declared_only same_fates listed_as coherent_event sound_window sound_windows coherent call_fault accept call
scheduled s c = (call s c).state

-- no event is handed in and no step is closed
unfoldable pub untouched : State → Bool
untouched s = all_below (event_count s.plan) (λ e. is_open (fate_of s e)) && all_below 8 (λ k. not (closed_at s k))

-- works on the first call and none after it
unfoldable pub once_only : Scheduler
once_only s c = elim (untouched s) [ true ↦ scheduler s c | false ↦ s ]

pub not_once_only : Keeps once_only → ⊥
unfolding shown_by scheduled untouched once_only
not_once_only k =
    clash refl (ap (λ (s : State). not (closed_at s 0)) (on_one once_only k (Submit 0 ∷ Close 0 ∷ [])).shown)

-- reports "no order" before looking
unfoldable pub orderless : Scheduler
orderless s (Submit e) = elim (delayable s.plan e) [
  | true ↦ hold s e
  | false ↦ elim (rejectable s.plan e) [ true ↦ settle_as Refused (hold s e) e | false ↦ do_alone (hold s e) e ]
]
orderless s (Close k) = scheduler s (Close k)
orderless s Finish = scheduler s Finish
orderless s (Advance m) = scheduler s (Advance m)

pub not_orderless : Keeps orderless → ⊥
unfolding shown_by orderless
not_orderless k = (on_one orderless k (Submit 0 ∷ [])).waiting 0 (0 ∷ []) refl viable_one

-- gives the empty state after a call that is turned down
unfoldable pub emptier : Scheduler
emptier s c = elim (call_fault s c) [ some f ↦ empty_state | none ↦ scheduler s c ]

pub not_emptier : Keeps emptier → ⊥
unfolding shown_by scheduled emptier
not_emptier k =
    let z : ◌≡◌ {A = ℕ} 0 1 = ap (λ (s : State). event_count s.plan) (on_one emptier k (Submit 1 ∷ [])).shown in
    omega arith

-- closes a step and lets no event lapse
abbrev pub lapseless : Scheduler
lapseless s (Submit e) = scheduler s (Submit e)
lapseless s (Close k) = shut s k
lapseless s Finish = scheduler s Finish
lapseless s (Advance m) = scheduler s (Advance m)

pub not_lapseless : Keeps lapseless → ⊥
unfolding shown_by scheduled
not_lapseless k = clash ((on_one lapseless k (Close 0 ∷ Finish ∷ [])).settled refl 0 (omega arith)) refl

-- refuses every event that is handed in
abbrev pub refuser : Scheduler
refuser s (Submit e) = settle_as Refused (hold s e) e
refuser s (Close k) = scheduler s (Close k)
refuser s Finish = scheduler s Finish
refuser s (Advance m) = scheduler s (Advance m)

-- one event that is delayable, and no rule: no ground of its hand-in refuses it
record Unrefused (s : State) : Type 0 where
  same_plan : s.plan ≡ one.plan
  sized : Sized s
  not_refused : fate_of s 0 ≢ Refused

unrefused_held : (s : State) → Unrefused s → Unrefused (hold s 0)
unrefused_held s u =
    let q = fate_hold_same s 0 u.sized (omega arith) in
    record {
      same_plan = plan_hold s 0 ∙ u.same_plan;
      sized = sized_hold s 0 u.sized;
      not_refused = λ r. let z : ◌≡◌ {A = ℕ} 0 1 = cc in omega arith;
    }

unrefused_done : (s : State) (o : List ℕ) → Unrefused s → Unrefused (do_all s o)
unfolding do_all
unrefused_done s [] u = u
unrefused_done s (e ∷ o) u =
    unrefused_done (do_one s e) o (record {
      same_plan = plan_one s e ∙ u.same_plan;
      sized = sized_one s e u.sized;
      not_refused = λ r. elim (fate_settle_either (fate_at_turn s e) s e 0 u.sized) [
        | inl q ↦ clash (turn_done s e) (ap is_done (sym q ∙ r))
        | inr q ↦ u.not_refused (sym q ∙ r)
      ];
    })

pub unwindowed_one : (e : ℕ) → has_window one.plan e ≡ false
unfolding add_event
unwindowed_one e = ap (λ (w : Window). not (eqb w.until 0)) (read_blank 16 blank_window e)

module _ (s : State) (e : ℕ) (u : Unrefused s) where
  stays_delayable : Submit 0 ≡ Submit e → delayable s.plan e ≡ false → ⊥
  unfolding shown_by
  stays_delayable q d = let z : 0 ≡ e = cc in clash (ap (λ p. delayable p 0) u.same_plan) (rw (← z) at d)

  not_ruled : ruled_out s e ≡ false
  unfolding shown_by
  not_ruled = any_none (rule_count s.plan) _ (λ i lt. absurd (omega (arith, ap rule_count u.same_plan)))

  not_late : too_late s e ≡ false
  not_late = unwindowed_over s.plan e (ap (λ p. has_window p e) u.same_plan ∙ unwindowed_one e) s.minute

  not_barred : barred s e ≡ false
  unfolding barred
  not_barred = rw (not_ruled, not_late)

  no_ground : Ground (Submit 0) s e → ⊥
  no_ground (by_bar h b) = clash b not_barred
  no_ground (by_submission q h d r n) = stays_delayable q d
  no_ground (by_finish q l r) = let z : ◌≡◌ {A = ℕ} 0 1 = cc in omega arith

unrefused : {s t : State} → Trail (Submit 0) s t → Unrefused s → Unrefused t
unrefused end u = u
unrefused (held {s} e q o rest) u =
    unrefused rest (let z : 0 ≡ e = cc in subst (λ d. Unrefused (hold s d)) z (unrefused_held s u))
unrefused (ordered {s} e o h f rest) u = unrefused rest (unrefused_done s o u)
unrefused (alone {s} e q h d r n rest) u = absurd (stays_delayable s e u q d)
unrefused (refused {s} e g rest) u = absurd (no_ground s e u g)
unrefused (shuts k q rest) u = absurd (let z : ◌≡◌ {A = ℕ} 0 1 = cc in omega arith)
unrefused (lapsed e q o rest) u = absurd (let z : ◌≡◌ {A = ℕ} 0 1 = cc in omega arith)
unrefused (moves m q h rest) u = absurd (let z : ◌≡◌ {A = ℕ} 0 1 = cc in omega arith)

pub not_refuser : Grounded refuser → ⊥
unfolding shown_by
not_refuser g =
    let z : Sized one = record { standings_len = refl; broken_len = refl; closed_len = refl; history_len = refl } in
    (unrefused (g one (Submit 0) z)
    (record { same_plan = refl; sized = z; not_refused = λ r. let w : ◌≡◌ {A = ℕ} 0 1 = cc in omega arith })).not_refused
    refl

-- a closing that is taken acts
pub acts_close : (s : State) (k : ℕ) → call_fault s (Close k) ≡ none → Acts s (Close k)
acts_close s k h = record { taken = h; fresh = λ e q. absurd (let z : ◌≡◌ {A = ℕ} 0 1 = cc in omega arith) }

-- refuses a done event when it is handed in again
unfoldable pub unmaker : Scheduler
unmaker s (Submit e) = elim (is_done (fate_of s e)) [ true ↦ settle_as Refused s e | false ↦ scheduler s (Submit e) ]
unmaker s (Close k) = scheduler s (Close k)
unmaker s Finish = scheduler s Finish
unmaker s (Advance m) = scheduler s (Advance m)

-- one event that can be refused and cannot wait, done
abbrev pub one_done : State
one_done = settle_as Done (first_state (add_event empty_plan 0 2)) 0

pub not_unmaker : Grounded unmaker → ⊥
unfolding add_event settle_as unmaker
not_unmaker g =
    let t : Trail (Submit 0) one_done (settle_as Refused one_done 0) = g one_done (Submit 0) sized_lengths in
    let z : ◌≡◌ {A = Fate} Refused Done = settled_fixed t 0 refl in
    let w : ◌≡◌ {A = ℕ} 0 1 = cc in
    omega arith
  where
    sized_lengths : Sized one_done
    sized_lengths = record { standings_len = refl; broken_len = refl; closed_len = refl; history_len = refl }

-- hands its state back untouched: a closing leaves an event held that could be done
abbrev pub one_held : State
one_held = hold one 0

pub not_doing_idle : Doing idle → ⊥
unfolding shown_by scheduled
not_doing_idle d =
    let z : Sized one_held = record { standings_len = refl; broken_len = refl; closed_len = refl; history_len = refl } in
    (rest_held one_held z ((d one_held (Close 0) z).rests (acts_close one_held 0 refl)) 0 (omega arith) refl).1
    (0 ∷ [])
    (record {
      contains = Memᴰ.head refl;
      short = omega arith;
      different = (λ m. Memᴰ.not-nil m, tt);
      runs = (omega arith, refl, refl);
    })

-- leaves a barred event held until winding up: settling does what has an order, and refuses nothing
unfoldable pub does_up_to : ℕ → State → State
does_up_to zero s = s
does_up_to (suc n) s = elim (to_do s) [ none ↦ s | some o ↦ does_up_to n (do_all s o) ]

unfoldable pub lenient : Scheduler
lenient s (Submit e) = elim (is_open (fate_of s e)) [ true ↦ does_up_to 16 (hold s e) | false ↦ s ]
lenient s (Close k) = does_up_to 16 (lapse (event_count s.plan) 0 (shut s k) k)
lenient s Finish = scheduler s Finish
lenient s (Advance m) = scheduler s (Advance m)

-- event 0, held, needs event 1
abbrev pub need_held : State
need_held = hold (first_state (add_rule (add_event (add_event empty_plan 0 6) 1 6) (Need 0 1))) 0

pub not_doing_lenient : Doing lenient → ⊥
unfolding shown_by scheduled sound_rule named enforceable owes holds done_in_turn done_in any_done coherent_rule lapse does_up_to lenient
not_doing_lenient d =
    let t = lenient need_held (Close 1) in
    let sized : Sized need_held = record { standings_len = refl; broken_len = refl; closed_len = refl; history_len = refl } in
    let after_sized : Sized t = record { standings_len = refl; broken_len = refl; closed_len = refl; history_len = refl } in
    clash refl (rest_held t after_sized ((d need_held (Close 1) sized).rests (acts_close need_held 1 refl)) 0 (omega arith) refl).0

-- does what it should and marks nothing: in case D event 1 is done, and nobody has handed it in
abbrev pub need_forced : List ℕ
need_forced = 1 ∷ 0 ∷ 1 ∷ 1 ∷ 1 ∷ 1 ∷ 3 ∷ 0 ∷ 1 ∷ 5 ∷ []

abbrev pub need_first : State
need_first = first_state (add_rule (add_event (add_event empty_plan 0 1) 1 1) (Need 0 1))

pub read_forced : read_sheet need_forced ≡ admitted need_first
unfolding add_event add_rule declare record_fault read_from read_plan ending sheet_plan read_sheet first_fault named
    enforceable rule_of
read_forced = refl

pub not_unmarked : Reports unmarked → ⊥
unfolding shown_by scheduled sound_rule named enforceable owes holds done_in_turn done_in any_done coherent_rule decide submit
    forget
not_unmarked r = clash (r need_forced need_first (Submit 0 ∷ []) 1 read_forced refl) refl

-- forces whatever is handed in
unfoldable pub forcer : Scheduler
forcer s (Submit e) = settle_as Forced s e
forcer s (Close k) = scheduler s (Close k)
forcer s Finish = scheduler s Finish
forcer s (Advance m) = scheduler s (Advance m)

pub not_forcer : Forces forcer → ⊥
unfolding add_event settle_as forcer
not_forcer f =
    let z : ◌≡◌ {A = Fate} Open Forced = f.others one 0 (first_sized one.plan) refl in
    let w : ◌≡◌ {A = ℕ} 0 1 = cc in
    omega arith

-- gives done to a trigger that has to wait: the consent form's sheet, on which 1 cannot be stopped
abbrev pub consent_form : List ℕ
consent_form = 1 ∷ 0 ∷ 6 ∷ 1 ∷ 1 ∷ 0 ∷ 1 ∷ 2 ∷ 6 ∷ 4 ∷ 0 ∷ 1 ∷ 2 ∷ 5 ∷ []

abbrev pub consent_first : State
consent_first = first_state (add_rule (add_event (add_event (add_event empty_plan 0 6) 1 0) 2 6) (Conditional 0 1 2))

pub read_consent : read_sheet consent_form ≡ admitted consent_first
unfolding add_event add_rule declare record_fault read_from read_plan ending sheet_plan read_sheet first_fault named
    enforceable rule_of
read_consent = refl

pub not_hasty : Provides doer → ⊥
unfolding add_event add_rule after settle_as
not_hasty k =
    let w : Awaits consent_first.plan 0 1 2 = record {
      place = 0;
      within = omega arith;
      is = inl refl;
      unrefusable = refl;
      undelayable = refl;
      unforcible = refl;
    } in
    clash (k consent_form consent_first (Submit 0 ∷ []) read_consent 0 1 2 w refl refl) refl

-- and so breaks a rule that demand 3 names since S-6
pub not_doer_waits : Keeps doer → ⊥
unfolding shown_by unstoppable reckoned triggered owes holds done_in any_done order_of first_of chosen
not_doer_waits k = clash refl ((k consent_form consent_first (Submit 0 ∷ Submit 1 ∷ []) read_consent).claim.kept 0 (omega arith) refl)

-- S-7: one event in a window from 1 until 3
abbrev pub window_sheet : List ℕ
window_sheet = 1 ∷ 0 ∷ 6 ∷ 7 ∷ 0 ∷ 1 ∷ 0 ∷ 0 ∷ 0 ∷ 3 ∷ 0 ∷ 0 ∷ 0 ∷ 5 ∷ []

abbrev pub window_first : State
window_first = first_state (add_window (add_event empty_plan 0 6) 0 1 3)

pub read_window : read_sheet window_sheet ≡ admitted window_first
unfolding add_event add_window bad_window declare record_fault read_from read_plan ending sheet_plan read_sheet first_fault
read_window = refl

-- gives done to all, also before the window opens and after its end
pub not_doer_punctual : Punctual doer → ⊥
unfolding add_event add_window settle_as allowed_at allowed_in
not_doer_punctual k = clash ((k window_first (Submit 0) (record { event = 0; fate = Done } ∷ []) (first_sized window_first.plan) refl).0 refl) refl

pub not_doer_in_time : KeepsTime doer → ⊥
unfolding shown_by add_window timed_lines
not_doer_in_time k = clash ((k window_sheet window_first (Submit 0 ∷ []) read_window).timely.0 refl) refl

pub not_doer_for_good : ForGood doer → ⊥
unfolding add_event add_window settle_as set_minute over_at over_in
not_doer_for_good k = clash refl (k (set_minute window_first 3) (Submit 0) 0 (record { standings_len = refl; broken_len = refl; closed_len = refl; history_len = refl }) refl refl).0

-- moves the minute and does not settle: an event whose window opens stays held, and one whose window is over
abbrev pub sluggish : Scheduler
sluggish s (Submit e) = scheduler s (Submit e)
sluggish s (Close k) = scheduler s (Close k)
sluggish s Finish = scheduler s Finish
sluggish s (Advance m) = set_minute s m

pub not_sluggish : Keeps sluggish → ⊥
unfolding shown_by scheduled add_window set_minute
not_sluggish k =
    (k window_sheet window_first (Submit 0 ∷ Advance 1 ∷ []) read_window).claim.waiting 0 (0 ∷ []) refl
    (record {
      contains = Memᴰ.head refl;
      short = omega arith;
      different = (λ m. Memᴰ.not-nil m, tt);
      runs = (omega arith, refl, refl);
    })

pub not_sluggish_overdue : NoneOverdue sluggish → ⊥
unfolding shown_by scheduled add_window set_minute
not_sluggish_overdue k = clash refl (k window_sheet window_first (Submit 0 ∷ Advance 3 ∷ []) 0 read_window (omega arith) refl)

-- after a move to minute 1 the event is held, and has a viable order
abbrev pub window_held : State
window_held = hold window_first 0

abbrev pub window_open : State
window_open = set_minute window_held 1

pub held_sized : Sized window_held
held_sized = sized_hold window_first 0 (first_sized window_first.plan)

pub restless : AtRest window_open → ⊥
unfolding shown_by scheduled add_window set_minute
restless rests =
    (rest_held window_open (sized_minute window_held 1 held_sized) rests 0 (omega arith) refl).1
    (0 ∷ [])
    (record {
      contains = Memᴰ.head refl;
      short = omega arith;
      different = (λ m. Memᴰ.not-nil m, tt);
      runs = (omega arith, refl, refl);
    })

held_coherent : coherent window_held ≡ true
unfolding shown_by scheduled add_window
held_coherent = refl

pub not_sluggish_settles : OnlySettles sluggish → ⊥
unfolding hold
not_sluggish_settles k = restless (k window_held 1 held_sized held_coherent (omega arith)).settled.rests

-- settles at the old minute, and then moves it
abbrev pub belated : Scheduler
belated s (Submit e) = scheduler s (Submit e)
belated s (Close k) = scheduler s (Close k)
belated s Finish = scheduler s Finish
belated s (Advance m) = set_minute (settle s) m

still_held : settle window_held ≡ window_held
unfolding shown_by scheduled add_window
still_held = refl

pub not_belated : OnlySettles belated → ⊥
unfolding hold
not_belated k =
    restless (subst (λ (s : State). AtRest (set_minute s 1)) still_held (k window_held 1 held_sized held_coherent (omega arith)).settled.rests)

-- does what the move allows, the higher event first: each line has its reason, and yet no turn of settling gives them
abbrev pub topmost : Scheduler
topmost s (Submit e) = scheduler s (Submit e)
topmost s (Close k) = scheduler s (Close k)
topmost s Finish = scheduler s Finish
topmost s (Advance m) = settle_as Done (settle_as Done (set_minute s m) 1) 0

abbrev pub two_held : State
two_held = hold (hold (first_state (add_window (add_window (add_event (add_event empty_plan 0 6) 0 6) 0 1 3) 1 1 3)) 0) 1

pub not_topmost : OnlySettles topmost → ⊥
unfolding shown_by scheduled add_window set_minute
not_topmost k =
    let z : Sized two_held = record { standings_len = refl; broken_len = refl; closed_len = refl; history_len = refl } in
    let by = (k two_held 1 z refl (omega arith)).settled in
    let same = settles_settle (set_minute two_held 1) (topmost two_held (Advance 1)) (sized_minute two_held 1 z) by in
    let v : ◌≡◌ {A = ℕ} 1 0 = ap (λ (s : State). (get_or s.history 0 blank_entry).event) same in
    omega arith

-- does not write the minute
abbrev pub timeless_clock : Scheduler
timeless_clock s (Submit e) = scheduler s (Submit e)
timeless_clock s (Close k) = scheduler s (Close k)
timeless_clock s Finish = scheduler s Finish
timeless_clock s (Advance m) = s

pub not_timeless_clock : Keeps timeless_clock → ⊥
unfolding shown_by
not_timeless_clock k =
    let z : ◌≡◌ {A = ℕ} 0 1 = ap (λ (s : State). s.minute) (on_one timeless_clock k (Advance 1 ∷ [])).shown in
    omega arith

-- refuses what waits whenever the minute moves: on a sheet without windows the move decides
abbrev pub impatient : Scheduler
impatient s (Submit e) = hold s e
impatient s (Close k) = scheduler s (Close k)
impatient s Finish = scheduler s Finish
impatient s (Advance m) = set_minute (settle_as Refused s 0) m

pub not_impatient : MovesNothing impatient → ⊥
unfolding shown_by set_minute
not_impatient k =
    let z : ◌≡◌ {A = Fate} Refused Held = ap (λ (s : State). fate_of s 0) (k one_event one (Submit 0 ∷ Advance 1 ∷ []) read_one unwindowed_one) in
    let w : ◌≡◌ {A = ℕ} 0 1 = cc in
    omega arith
