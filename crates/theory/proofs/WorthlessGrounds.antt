-- For each ground of a refusal, and for lapsing and holding, a worthless scheduler that does it without the ground; and
-- what the grounds leave open: only the whole of demand 2 turns these away.
use Rattle.std.proofs.lemmas.Bool.{and_right as and_false}
use Prim.Native.Nat.{ℕ, suc, ◌≤◌, ◌<◌}
use native.Mathlib.Omega.{arith}
use native.Mathlib.Decide.{ℕ_discrete}
use mathlib.Core.Bool.{Bool, true, false, not, ◌&&◌}
use mathlib.Core.List.Memᴰ
use mathlib.Core.List.{List, [], ◌∷◌, ◌++◌, Memᴰ}
use mathlib.Core.Logic.{inl, inr}
use mathlib.Core.Path.{◌≡◌, refl, sym, ◌∙◌, ap, subst}
use lib.Dec.{eqb, ltb}
use lib.ListN.{get_or, length}
use Rattle.theory.proofs.Types.{Need, Fate, Open, Held, Done, Refused, Lapsed, Forced, Order, Plan, Entry, State, Call, Submit, Close, Finish, Advance, Window}
use Rattle.plan.specs.Plans.{empty_plan, event_count, rule_count, rule_at, step_of, delayable, has_window, blank_window}
use Rattle.plan.specs.Fates.{is_open, is_held, is_done, is_gone, is_settled}
use Rattle.plan.specs.Histories.{blank_entry, any_done, done_in, done_in_turn, holds}
use Rattle.plan.specs.Rules.{named, enforceable, sound_rule, bars, ready, owes}
use Rattle.plan.specs.Records.{add_event, add_rule, add_window}
use Rattle.scheduler.specs.State.{first_state, fate_of, hold, settle_as, shut, set_minute, Sized}
use Rattle.scheduler.specs.Rules.{stands, ruled_out, barred, forbidden, owing}
use Rattle.scheduler.specs.Orders.{may_do, do_one, do_all, Viable, First}
use Rattle.scheduler.specs.Calls.{settle, advance_to}
use Rattle.scheduler.specs.Coherent.{coherent_rule}
use Rattle.scheduler.specs.Lists.{Scheduler, scheduler}
use Rattle.scheduler.specs.Grounds.{Ground, by_bar, by_submission, by_finish, Trail, held, refused, Grounded}
use Rattle.scheduler.specs.Answers.{call}
use Rattle.theory.specs.Exact.{Exact, RefusesRejectable}
use Rattle.theory.specs.Windows.{Reason, bar, order, Reasoned, OnlySettles}
use borrow.Author.Tests.{ltb-true}
use Rattle.plan.proofs.Tests.{and_left, and_right, clash, any_none}
use Rattle.plan.proofs.Fates.{open_is}
use Rattle.plan.proofs.Arrays.{read_blank}
use Rattle.plan.proofs.Windows.{unwindowed_over, unwindowed_allowed}
use Rattle.scheduler.proofs.Laws.{plan_one, fate_settle_other, fate_hold_same, sized_hold, sized_shut, sized_settle}
use Rattle.scheduler.proofs.Searching.{run_declared, mem_long}
use Rattle.scheduler.proofs.Settling.{plan_turns}
use Rattle.scheduler.proofs.Grounds.{settle_trail, grounded}
use Rattle.scheduler.proofs.Doing.{rest_held, settled_fixed}
use Rattle.theory.proofs.Minutes.{trail_plan}
use Rattle.theory.proofs.Demands.{first_sized, all_open}
use Rattle.theory.proofs.Forcing.{heard, trail_forces, trail_heard, trail_unopened}
use Rattle.theory.proofs.TrailFates.{trail_sized, trail_refuses, trail_lapses}
use Rattle.theory.proofs.Timeless.{timeless}
use Rattle.theory.proofs.Exact.{exact_only}
use Rattle.theory.proofs.Worthless.{shown_by, scheduled, one, one_held, unwindowed_one, refuser, topmost, impatient, need_held, need_first, two_held}

-- no event of a plan made of these has a window
unwindowed : (p : Plan) → p.windows ≡ empty_plan.windows → (e : ℕ) → has_window p e ≡ false
unwindowed p q e = rw q (ap (λ (w : Window). not (eqb w.until 0)) (read_blank 16 blank_window e))

-- a state of a plan without rules and windows: nothing is barred, and an event that is held may be done by itself
module _ (u : State) (unruled : rule_count u.plan ≡ 0) (untimed : u.plan.windows ≡ empty_plan.windows) where
  no_rule : (t : ℕ → Bool) (i : ℕ) → i < rule_count u.plan → t i ≡ false
  no_rule t i lt = absurd (omega (arith, unruled))

  free_barred : (e : ℕ) → barred u e ≡ false
  unfolding barred ruled_out
  free_barred e =
      rw (any_none (rule_count u.plan) _ (no_rule _), unwindowed_over u.plan e (unwindowed u.plan untimed e) u.minute)

  free_viable : (e : ℕ) → e < event_count u.plan → fate_of u e ≡ Held → Viable u e (e ∷ [])
  unfolding may_do ready forbidden owing
  free_viable e lt h = record {
    contains = Memᴰ.head refl;
    short = omega arith;
    different = (λ m. Memᴰ.not-nil m, tt);
    runs = (
      lt,
      rw (h, any_none (rule_count u.plan) _ (no_rule _), unwindowed_allowed u.plan e (unwindowed u.plan untimed e) u.minute),
      any_none (rule_count (do_one u e).plan) _ (λ i l. absurd (omega (arith, unruled, ap rule_count (plan_one u e)))),
    );
  }

-- by_submission, no viable order: refuses an event that is rejectable and cannot wait, though it could be done
abbrev able_first : State
able_first = first_state (add_event empty_plan 0 2)

no_able_ground : (u : State) → u.plan ≡ able_first.plan → Ground (Submit 0) u 0 → ⊥
unfolding add_event
no_able_ground u q (by_bar h b) = clash b (free_barred u (ap rule_count q) (ap (λ (p : Plan). p.windows) q) 0)
no_able_ground u q (by_submission c h d r n) =
    n (0 ∷ []) (free_viable u (ap rule_count q) (ap (λ (p : Plan). p.windows) q) 0 (omega (arith, ap event_count q)) h)
no_able_ground u q (by_finish c l r) = let z : ◌≡◌ {A = ℕ} 0 1 = cc in omega arith

pub not_refuser_able : Grounded refuser → ⊥
unfolding shown_by
not_refuser_able g =
    let z = first_sized able_first.plan in
    elim (trail_refuses (g able_first (Submit 0) z) z 0 refl) [
      | inl f ↦ let w : ◌≡◌ {A = ℕ} 0 1 = cc in omega arith
      | inr f ↦ no_able_ground f.at (trail_plan f.reached) f.ground
    ]

-- 0 needs 1, which is open. In a call that neither hands 1 in nor closes its step, 1 is never gone, and 0 is not barred
module _
    {c : Call}
    {s u : State}
    (r : Trail c s u)
    (z : Sized s)
    (same : s.plan ≡ need_held.plan)
    (fresh : fate_of s 1 ≡ Open)
    (unasked : c ≡ Submit 1 → ⊥)
    (unclosed : c ≡ Close 1 → ⊥)
  where
    need_plan : u.plan ≡ need_held.plan
    need_plan = trail_plan r ∙ same

    unheld : {v : State} → Trail c s v → fate_of v 1 ≡ Held → ⊥
    unheld q h = elim (trail_heard q z 1 (ap heard h)) [ inl f ↦ clash f (ap heard fresh) | inr f ↦ unasked f ]

    unrefused : {v : State} → Trail c s v → Ground c v 1 → ⊥
    unrefused q (by_bar h b) = unheld q h
    unrefused q (by_submission p h d j n) = unheld q h
    unrefused q (by_finish p l rest) = unheld q l.is

    need_possible : is_gone (fate_of u 1) ≡ false
    unfolding add_event add_rule hold
    need_possible = go (fate_of u 1) refl
      where
        go : (x : Fate) → fate_of u 1 ≡ x → is_gone (fate_of u 1) ≡ false
        go Open q = ap is_gone q
        go Held q = ap is_gone q
        go Done q = ap is_gone q
        go Forced q = ap is_gone q
        go Refused q = elim (trail_refuses r z 1 q) [
          | inl f ↦ absurd (clash (ap is_gone f) (ap is_gone fresh))
          | inr f ↦ absurd (unrefused f.reached f.ground)
        ]
        go Lapsed q = elim (trail_lapses r z 1 q) [
          | inl f ↦ absurd (clash (ap is_gone f) (ap is_gone fresh))
          | inr f ↦ absurd (unclosed (f.0 ∙ ap (λ (p : Plan). Close (step_of p 1)) same))
        ]

    need_unbarred : barred u 0 ≡ false
    unfolding add_event add_rule hold barred ruled_out bars
    need_unbarred =
        let late = unwindowed_over u.plan 0 (unwindowed u.plan (ap (λ (p : Plan). p.windows) need_plan) 0) u.minute in
        rw (any_none (rule_count u.plan) _ by_rule, late)
      where
        by_rule : (i : ℕ) → i < rule_count u.plan → (stands u i && bars u.plan (fate_of u) (rule_at u.plan i) 0) ≡ false
        by_rule i lt =
            let first : i ≡ 0 = omega (arith, lt, ap rule_count need_plan) in
            let is : rule_at u.plan i ≡ Need 0 1 = ap (rule_at u.plan) first ∙ ap (λ (p : Plan). rule_at p 0) need_plan in
            and_false (stands u i) _ (ap (λ r. bars u.plan (fate_of u) r 0) is ∙ need_possible)

-- by_submission, cannot wait: refuses an event that can wait, while what it needs may still come
abbrev need_fresh : State
need_fresh = first_state need_held.plan

pub not_refuser_waits : Grounded refuser → ⊥
unfolding shown_by
not_refuser_waits g =
    let z = first_sized need_held.plan in
    elim (trail_refuses (g need_fresh (Submit 0) z) z 0 refl) [
      | inl f ↦ let w : ◌≡◌ {A = ℕ} 0 1 = cc in omega arith
      | inr f ↦ no_ground f.at f.reached z f.ground
    ]
  where
    no_ground : (u : State) → Trail (Submit 0) need_fresh u → Sized need_fresh → Ground (Submit 0) u 0 → ⊥
    no_ground u r z (by_bar h b) =
        clash b (need_unbarred r z refl (all_open need_held.plan 1) (λ q. let w : ◌≡◌ {A = ℕ} 0 1 = cc in omega arith) (λ q. let w : ◌≡◌ {A = ℕ} 0 1 = cc in omega arith))
    no_ground u r z (by_submission q h d j n) = clash (ap (λ (p : Plan). delayable p 0) (trail_plan r)) d
    no_ground u r z (by_finish q l rest) = let w : ◌≡◌ {A = ℕ} 0 1 = cc in omega arith

-- by_finish, in a winding up only: refuses what is held when a step is closed
abbrev pub quitter : Scheduler
quitter s (Submit e) = scheduler s (Submit e)
quitter s (Close k) = settle_as Refused s 0
quitter s Finish = scheduler s Finish
quitter s (Advance m) = scheduler s (Advance m)

sized_need : Sized need_held
unfolding add_rule hold
sized_need = sized_hold (first_state need_held.plan) 0 (first_sized need_held.plan)

pub not_quitter : Grounded quitter → ⊥
unfolding shown_by
not_quitter g =
    elim (trail_refuses (g need_held (Close 0) sized_need) sized_need 0 refl) [
      | inl f ↦ let w : ◌≡◌ {A = ℕ} 0 1 = cc in omega arith
      | inr f ↦ no_ground f.at f.reached f.ground
    ]
  where
    no_ground : (u : State) → Trail (Close 0) need_held u → Ground (Close 0) u 0 → ⊥
    no_ground u r (by_bar h b) =
        clash b (need_unbarred r sized_need refl refl (λ q. let w : ◌≡◌ {A = ℕ} 0 1 = cc in omega arith) (λ q. let w : ◌≡◌ {A = ℕ} 0 1 = cc in omega arith))
    no_ground u r (by_submission q h d j n) = let w : ◌≡◌ {A = ℕ} 0 1 = cc in omega arith
    no_ground u r (by_finish q l rest) = let w : ◌≡◌ {A = ℕ} 0 1 = cc in omega arith

-- by_finish, at rest: winds up by refusing an event that could be done
abbrev pub abrupt : Scheduler
abrupt s (Submit e) = scheduler s (Submit e)
abrupt s (Close k) = scheduler s (Close k)
abrupt s Finish = settle_as Refused s 0
abrupt s (Advance m) = scheduler s (Advance m)

abbrev shut_held : State
shut_held = shut (hold able_first 0) 0

pub not_abrupt : Grounded abrupt → ⊥
unfolding shown_by
not_abrupt g =
    elim (trail_refuses (g shut_held Finish sized) sized 0 refl) [
      | inl f ↦ let w : ◌≡◌ {A = ℕ} 0 1 = cc in omega arith
      | inr f ↦ no_ground f.at f.reached f.ground
    ]
  where
    sized : Sized shut_held
    sized = sized_shut (hold able_first 0) 0 (sized_hold able_first 0 (first_sized able_first.plan))

    no_ground : (u : State) → Trail Finish shut_held u → Ground Finish u 0 → ⊥
    no_ground u r (by_bar h b) =
        clash b (free_barred u (ap rule_count (trail_plan r)) (ap (λ (p : Plan). p.windows) (trail_plan r)) 0)
    no_ground u r (by_submission q h d j n) = let w : ◌≡◌ {A = ℕ} 0 1 = cc in omega arith
    no_ground u r (by_finish q l rest) =
        (rest_held u (trail_sized r sized) rest 0 l.declared l.is).1
        (0 ∷ [])
        (free_viable u (ap rule_count (trail_plan r)) (ap (λ (p : Plan). p.windows) (trail_plan r)) 0 l.declared l.is)

-- by_finish, the lowest: winds up by refusing the highest held event first, where each waits for the other
abbrev pub topdown : Scheduler
topdown s (Submit e) = scheduler s (Submit e)
topdown s (Close k) = scheduler s (Close k)
topdown s Finish = settle_as Refused s 1
topdown s (Advance m) = scheduler s (Advance m)

abbrev ring_held : State
ring_held = hold (hold (first_state (add_rule (add_rule (add_event (add_event empty_plan 0 6) 0 6) (Order 0 1)) (Order 1 0))) 0) 1

-- two events that each have to come before the other: while 0 is held 1 is not barred
ring_unbarred : (u : State) → u.plan ≡ ring_held.plan → fate_of u 0 ≡ Held → barred u 1 ≡ false
unfolding add_event add_rule hold barred ruled_out bars
ring_unbarred u same h =
    let late = unwindowed_over u.plan 1 (unwindowed u.plan (ap (λ (p : Plan). p.windows) same) 1) u.minute in
    rw (any_none (rule_count u.plan) _ by_rule, late)
  where
    by_rule : (i : ℕ) → i < rule_count u.plan → (stands u i && bars u.plan (fate_of u) (rule_at u.plan i) 1) ≡ false
    by_rule i lt = elim (ℕ_discrete i 0) [
      | yes q ↦
          let is : rule_at u.plan i ≡ Order 0 1 = ap (rule_at u.plan) q ∙ ap (λ (p : Plan). rule_at p 0) same in
          and_false (stands u i) _ (ap (λ r. bars u.plan (fate_of u) r 1) is)
      | no ne ↦
          let second : i ≡ 1 = omega (arith, lt, ap rule_count same) in
          let is : rule_at u.plan i ≡ Order 1 0 = ap (rule_at u.plan) second ∙ ap (λ (p : Plan). rule_at p 1) same in
          and_false (stands u i) _ (ap (λ r. bars u.plan (fate_of u) r 1) is ∙ ap is_done h)
    ]

pub not_topdown : Grounded topdown → ⊥
unfolding shown_by
not_topdown g =
    elim (trail_refuses (g ring_held Finish sized) sized 1 refl) [
      | inl f ↦ let w : ◌≡◌ {A = ℕ} 0 1 = cc in omega arith
      | inr f ↦ no_ground f.at f.reached (held_still f.at f.reached f.goes (fate_of f.at 0) refl) f.ground
    ]
  where
    sized : Sized ring_held
    sized = record { standings_len = refl; broken_len = refl; closed_len = refl; history_len = refl }

    settled_no : (x : Fate) (u : State) → Trail Finish (settle_as Refused u 1) (topdown ring_held Finish) → fate_of u 0 ≡ x → is_settled x ≡ true → ⊥
    settled_no x u goes q h =
        let same : fate_of (settle_as Refused u 1) 0 ≡ x = fate_settle_other Refused u 1 0 (λ w. omega arith) ∙ q in
        clash (ap is_settled (settled_fixed goes 0 (ap is_settled same ∙ h) ∙ same) ∙ h) refl

    held_still : (u : State) → Trail Finish ring_held u → Trail Finish (settle_as Refused u 1) (topdown ring_held Finish) → (x : Fate) → fate_of u 0 ≡ x → fate_of u 0 ≡ Held
    held_still u r goes Open q = absurd (clash (ap is_open q) (trail_unopened r sized 0 refl))
    held_still u r goes Held q = q
    held_still u r goes Done q = absurd (settled_no Done u goes q refl)
    held_still u r goes Refused q = absurd (settled_no Refused u goes q refl)
    held_still u r goes Lapsed q = absurd (settled_no Lapsed u goes q refl)
    held_still u r goes Forced q = absurd (settled_no Forced u goes q refl)

    no_ground : (u : State) → Trail Finish ring_held u → fate_of u 0 ≡ Held → Ground Finish u 1 → ⊥
    no_ground u r h (by_bar w b) = clash b (ring_unbarred u (trail_plan r) h)
    no_ground u r h (by_submission q w d j n) = let v : ◌≡◌ {A = ℕ} 0 1 = cc in omega arith
    no_ground u r h (by_finish q l rest) = l.none_below 0 (omega arith) h

-- lapsed, open before: lets a held event lapse with its step
abbrev pub harsh : Scheduler
harsh s (Submit e) = scheduler s (Submit e)
harsh s (Close k) = settle_as Lapsed (shut s k) 0
harsh s Finish = scheduler s Finish
harsh s (Advance m) = scheduler s (Advance m)

pub not_harsh : Grounded harsh → ⊥
unfolding shown_by
not_harsh g = elim (trail_lapses (g need_held (Close 0) sized_need) sized_need 0 refl) [
  | inl f ↦ let w : ◌≡◌ {A = ℕ} 0 1 = cc in omega arith
  | inr f ↦ clash f.1 refl
]

-- held, the event handed in: holds another one
abbrev pub misplacer : Scheduler
misplacer s (Submit e) = hold s (suc e)
misplacer s (Close k) = scheduler s (Close k)
misplacer s Finish = scheduler s Finish
misplacer s (Advance m) = scheduler s (Advance m)

pub not_misplacer : Grounded misplacer → ⊥
unfolding shown_by
not_misplacer g =
    let z = first_sized need_held.plan in
    elim (trail_heard (g need_fresh (Submit 0) z) z 1 refl) [
      | inl f ↦ clash f refl
      | inr f ↦ let w : ◌≡◌ {A = ℕ} 0 1 = cc in omega arith
    ]

-- Demand 2 whole. Refuses an event that is not rejectable. Does what a move allows in another sequence than settling:
-- the grounds ask for no sequence of orders
pub not_refuser_rejectable : RefusesRejectable refuser → ⊥
unfolding shown_by scheduled sound_rule named enforceable owes holds done_in_turn done_in any_done coherent_rule
not_refuser_rejectable r =
    let z = sized_settle Lapsed need_first 1 (first_sized need_first.plan) in
    elim (r (settle_as Lapsed need_first 1) (Submit 0) 0 z refl refl) [
      | inl f ↦ let w : ◌≡◌ {A = ℕ} 0 1 = cc in omega arith
      | inr f ↦ clash f refl
    ]

pub not_exact_topmost : Exact topmost → ⊥
unfolding shown_by scheduled add_window set_minute advance_to
not_exact_topmost x =
    let z : Sized two_held = record { standings_len = refl; broken_len = refl; closed_len = refl; history_len = refl } in
    let v : ◌≡◌ {A = ℕ} 1 0 = ap (λ (s : State). (get_or s.history 0 blank_entry).event) (exact_only topmost x two_held (Advance 1) z) in
    omega arith

-- S-7, reasoned: refuses an event with a move of the minute, where nothing bars it
module _ (u : State) (same : u.plan ≡ one.plan) where
  no_reason : (l : Entry) → l.fate ≡ Refused → Reason u l → ⊥
  unfolding add_event
  no_reason l f (bar e h) = clash h.1 (free_barred u (ap rule_count same) (ap (λ (p : Plan). p.windows) same) e)
  no_reason l f (order e o w h c m d) = clash d (ap is_done f)

pub not_impatient_reasons : OnlySettles impatient → ⊥
unfolding shown_by scheduled set_minute
not_impatient_reasons k =
    let z = sized_hold one 0 (first_sized one.plan) in
    let moved = k one_held 0 z refl (omega arith) in
    let why = (subst (Reasoned (set_minute one_held 0)) (sym moved.added) moved.reasoned).0 in
    no_reason why.0 (plan_turns why.1) (record { event = 0; fate = Refused }) refl why.2

-- S-7, without windows: the minute makes no difference to a hand-in
pub timeless_one : (call (set_minute one 5) (Submit 0)).state ≡ set_minute (call one (Submit 0)).state 5
timeless_one = (timeless one 5 (Submit 0) (first_sized one.plan) unwindowed_one refl).states

-- ordered, the chosen order: forces an event that nobody needs, in a viable order that is longer than it has to be
abbrev pub spendthrift : Scheduler
spendthrift s (Submit e) = settle_as Forced (settle_as Done (hold s e) e) (suc e)
spendthrift s (Close k) = scheduler s (Close k)
spendthrift s Finish = scheduler s Finish
spendthrift s (Advance m) = scheduler s (Advance m)

abbrev unneeded : State
unneeded = first_state (add_event (add_event empty_plan 0 6) 0 1)

-- without rules the chosen order of a held event is that event alone, so that nothing is open when its turn comes
module _ (u : State) (unruled : rule_count u.plan ≡ 0) (untimed : u.plan.windows ≡ empty_plan.windows) (e : ℕ) (h : fate_of u e ≡ Held) where
  short_order : (o : List ℕ) → First u e o → length o ≤ 1
  short_order o f =
      let lt = (run_declared u o f.viable.runs e f.viable.contains).0 in
      elim (f.least (e ∷ []) (free_viable u unruled untimed e lt h)) [ inl l ↦ omega arith | inr q ↦ omega (arith, q.0) ]

  nothing_opened : (d : ℕ) (earlier later : List ℕ)
      → First u e (earlier ++ (d ∷ later))
      → fate_of (do_all u earlier) d ≡ Open
      → ⊥
  unfolding do_all
  nothing_opened d [] [] f o = elim (Memᴰ.cases_cons f.viable.contains) [
    | inl q ↦ clash (ap is_held h) (ap (λ i. is_held (fate_of u i)) q ∙ ap is_held o)
    | inr m ↦ Memᴰ.not-nil m
  ]
  nothing_opened d [] (y ∷ later) f o = omega (arith, short_order (d ∷ y ∷ later) f)
  nothing_opened d (x ∷ earlier) later f o =
      omega (arith, short_order (x ∷ (earlier ++ (d ∷ later))) f, mem_long (earlier ++ (d ∷ later)) (within d earlier later))
    where
      within : (d : ℕ) (earlier later : List ℕ) → Memᴰ d (earlier ++ (d ∷ later))
      within d [] later = Memᴰ.head refl
      within d (x ∷ earlier) later = Memᴰ.tail (within d earlier later)

pub not_spendthrift : Grounded spendthrift → ⊥
unfolding shown_by
not_spendthrift g =
    let z = first_sized unneeded.plan in
    elim (trail_forces (g unneeded (Submit 0) z) z 1 refl) [
      | inl f ↦ let w : ◌≡◌ {A = ℕ} 0 1 = cc in omega arith
      | inr f ↦
          let same = trail_plan f.reached in
          nothing_opened f.at (ap rule_count same) (ap (λ (p : Plan). p.windows) same) f.for f.waits 1 f.earlier f.later f.order f.opened
    ]

-- the grounds by themselves let an event be refused that is not rejectable: refuses whatever is barred when it is handed in
unfoldable pub presser : Scheduler
presser s (Submit e) = elim (is_open (fate_of s e) && ltb e 16 && barred (hold s e) e) [
  | true ↦ settle (settle_as Refused (hold s e) e)
  | false ↦ scheduler s (Submit e)
]
presser s (Close k) = scheduler s (Close k)
presser s Finish = scheduler s Finish
presser s (Advance m) = scheduler s (Advance m)

pub grounded_presser : Grounded presser
unfolding presser
grounded_presser s (Close k) z = grounded s (Close k) z
grounded_presser s Finish z = grounded s Finish z
grounded_presser s (Advance m) z = grounded s (Advance m) z
grounded_presser s (Submit e) z = go (is_open (fate_of s e) && ltb e 16 && barred (hold s e) e) refl
  where
    pressed : Bool → State
    pressed b = elim b [ true ↦ settle (settle_as Refused (hold s e) e) | false ↦ scheduler s (Submit e) ]

    go : (b : Bool) → (is_open (fate_of s e) && ltb e 16 && barred (hold s e) e) ≡ b → Trail (Submit e) s (pressed b)
    go false q = grounded s (Submit e) z
    go true q =
        let front = and_left (is_open (fate_of s e) && ltb e 16) (barred (hold s e) e) q in
        let low = ltb-true e 16 (and_right (is_open (fate_of s e)) (ltb e 16) front) in
        let y = sized_hold s e z in
        held e refl (open_is (fate_of s e) (and_left (is_open (fate_of s e)) (ltb e 16) front))
        (refused e
        (by_bar (fate_hold_same s e z low) (and_right (is_open (fate_of s e) && ltb e 16) (barred (hold s e) e) q))
        (settle_trail (Submit e) (settle_as Refused (hold s e) e) (sized_settle Refused (hold s e) e y)))

pub not_presser : RefusesRejectable presser → ⊥
unfolding shown_by scheduled sound_rule named enforceable owes holds done_in_turn done_in any_done coherent_rule presser
not_presser r =
    let z = sized_settle Lapsed need_first 1 (first_sized need_first.plan) in
    elim (r (settle_as Lapsed need_first 1) (Submit 0) 0 z refl refl) [
      | inl f ↦ let w : ◌≡◌ {A = ℕ} 0 1 = cc in omega arith
      | inr f ↦ clash f refl
    ]
