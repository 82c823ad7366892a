-- Demand 2 whole: our scheduler makes of every state what the sentences say, and no other scheduler does.
use Prim.Native.Nat.{ℕ, zero, suc, ◌+◌, ◌≤◌, ◌<◌}
use native.Mathlib.Omega.{arith}
use native.Mathlib.Decide.{ℕ_discrete}
use borrow.Author.Tests.{eq-eqb, eqb-true, not-false}
use mathlib.Core.Bool.{true, false, not, ◌&&◌}
use mathlib.Core.List.{List}
use mathlib.Core.Logic.{inl, inr}
use Rattle.std.specs.declared.option.Option.{Option}
use Rattle.std.specs.declared.option.Option.TheVariants.{None as none, Some as some}
use mathlib.Core.Path.{◌≡◌, refl, sym, ◌∙◌, ap, subst}
use lib.Dec.{eqb}
use Rattle.theory.proofs.Types.{Open, Lapsed, Plan, State, CallFault, Incoherent, Reply, Call, Submit, Close, Finish, Advance}
use Rattle.plan.specs.Fates.{is_open}
use Rattle.plan.specs.Plans.{event_count, step_of, rejectable, delayable}
use Rattle.scheduler.specs.State.{fate_of, hold, settle_as, shut, set_minute, Sized}
use Rattle.scheduler.specs.Orders.{chosen}
use Rattle.scheduler.specs.Calls.{settle, decide, submit, lapse, close_step, advance_to}
use Rattle.scheduler.specs.Coherent.{coherent}
use Rattle.scheduler.specs.Answers.{call_rows, call_fault, accept}
use Rattle.scheduler.specs.Lists.{Scheduler, scheduler}
use Rattle.theory.specs.Exact.{OpenIn, Lapses, none_open, lapse_next, Decides, by_order, by_refusal, by_itself, Makes, answers, waits, decides, closes, finishes, advances, Exact}
use Rattle.plan.proofs.Tests.{and_left, and_right, clash, either}
use Rattle.plan.proofs.Tables.{none_applies}
use Rattle.plan.proofs.Fates.{open_is}
use Rattle.scheduler.proofs.Laws.{plan_settle, fate_settle_same, fate_settle_other, sized_settle, sized_hold, plan_shut, sized_shut, sized_minute}
use Rattle.scheduler.proofs.Branches.{decide_order, decide_refuse, decide_alone, submit_same, submit_delayed, submit_decided, lapse_yes, lapse_no, call_fault_lem, call_accept}
use Rattle.scheduler.proofs.Searching.{chosen_none, chosen_first, first_chosen}
use Rattle.scheduler.proofs.Settling.{lowest_one, settle_settles, settles_settle, finish_finishes, finishes_finish}
use Rattle.scheduler.proofs.Grounds.{lapse_sized}
use Rattle.scheduler.proofs.Doing.{sized_decide}
use Rattle.scheduler.proofs.CoherentParts.{coherent_few}

-- lapsing has one result
lapses_one : {k : ℕ} {s t u : State} → Lapses k s t → Lapses k s u → t ≡ u
lapses_one (none_open n) (none_open m) = refl
lapses_one (none_open n) (lapse_next e l r) = absurd (n e l.declared l.is)
lapses_one (lapse_next e l r) (none_open n) = absurd (n e l.declared l.is)
lapses_one {k} {s} (lapse_next e l r) (lapse_next {t = u} d m q) =
    lapses_one r (subst (λ x. Lapses k (settle_as Lapsed s x) u) (lowest_one s (OpenIn s k) d e m l) q)

-- no open event of step k is left below the next place, once the lowest has lapsed
module _ (s : State) (k e : ℕ) (z : Sized s) (lt : e < 16) (below : (d : ℕ) → d < e → OpenIn s k d → ⊥) where
  lapsed_below : (d : ℕ) → d < suc e → OpenIn (settle_as Lapsed s e) k d → ⊥
  lapsed_below d le o = elim (ℕ_discrete d e) [
    | yes q ↦ clash (ap is_open o.0) (ap is_open (subst (λ i. fate_of (settle_as Lapsed s e) i ≡ Lapsed) (sym q) (fate_settle_same Lapsed s e z lt)))
    | no ne ↦
        below d (omega arith)
        (sym (fate_settle_other Lapsed s e d ne) ∙ o.0, ap (λ (p : Plan). step_of p d) (sym (plan_settle Lapsed s e)) ∙ o.1)
  ]

-- the function lapses so: of n events from e on, where none below e is left
lapse_lapses : (n e : ℕ) (s : State) (k : ℕ)
    → Sized s
    → e + n ≡ event_count s.plan
    → event_count s.plan ≤ 16
    → ((d : ℕ) → d < e → OpenIn s k d → ⊥)
    → Lapses k s (lapse n e s k)
unfolding lapse
lapse_lapses zero e s k z all few below = none_open {s = s} (λ d lt o. below d (omega arith) o)
lapse_lapses (suc n) e s k z all few below = elim (either (is_open (fate_of s e) && eqb (step_of s.plan e) k)) [
  | inl t ↦
      let found_open : fate_of s e ≡ Open = open_is (fate_of s e) (and_left (is_open (fate_of s e)) (eqb (step_of s.plan e) k) t) in
      let step : step_of s.plan e ≡ k = eqb-true (step_of s.plan e) k (and_right (is_open (fate_of s e)) (eqb (step_of s.plan e) k) t) in
      let same : event_count (settle_as Lapsed s e).plan ≡ event_count s.plan = ap event_count (plan_settle Lapsed s e) in
      subst (Lapses k s) (sym (lapse_yes n e s k t))
      (lapse_next e (record { declared = omega arith; is = (found_open, step); none_below = below })
      (lapse_lapses n (suc e) (settle_as Lapsed s e) k (sized_settle Lapsed s e z) (omega arith) (omega arith) (lapsed_below s k e z (omega arith) below)))
  | inr t ↦
      subst (Lapses k s) (sym (lapse_no n e s k t))
      (lapse_lapses n (suc e) s k z (omega arith) few (λ d lt o. elim (ℕ_discrete d e) [
        | yes q ↦
            let found_open : is_open (fate_of s e) ≡ true = ap is_open (subst (λ i. fate_of s i ≡ Open) q o.0) in
            let step : eqb (step_of s.plan e) k ≡ true = eq-eqb (step_of s.plan e) k (subst (λ i. step_of s.plan i ≡ k) q o.1) in
            clash (rw (found_open, step)) t
        | no ne ↦ below d (omega arith) o
      ]))
]

module _ (s : State) (z : Sized s) where
  -- an event that cannot wait
  decide_decides : (e : ℕ) → Decides s e (decide s e)
  decide_decides e = go (chosen s e) refl
    where
      go : (q : Option (List ℕ)) → chosen s e ≡ q → Decides s e (decide s e)
      go (some o) h = subst (Decides s e) (sym (decide_order s e o h)) (by_order o (chosen_first s e z o h))
      go none h = elim (either (rejectable s.plan e)) [
        | inl r ↦ subst (Decides s e) (sym (decide_refuse s e h r)) (by_refusal (chosen_none s e h) r)
        | inr r ↦ subst (Decides s e) (sym (decide_alone s e h r)) (by_itself (chosen_none s e h) r)
      ]

  chosen_missing : (e : ℕ) → ((o : List ℕ) → chosen s e ≡ some o → ⊥) → chosen s e ≡ none
  chosen_missing e n = go (chosen s e) refl
    where
      go : (q : Option (List ℕ)) → chosen s e ≡ q → chosen s e ≡ none
      go none h = h
      go (some o) h = absurd (n o h)

  decides_one : (e : ℕ) {u : State} → Decides s e u → u ≡ decide s e
  decides_one e (by_order o f) = sym (decide_order s e o (first_chosen s e z o f))
  decides_one e (by_refusal n r) =
      sym (decide_refuse s e (chosen_missing e (λ o h. n o (chosen_first s e z o h).viable)) r)
  decides_one e (by_itself n r) =
      sym (decide_alone s e (chosen_missing e (λ o h. n o (chosen_first s e z o h).viable)) r)

module _ (s : State) (z : Sized s) where
  submit_makes : (e : ℕ) → Makes s (Submit e) (submit s e)
  submit_makes e = elim (either (is_open (fate_of s e))) [
    | inr shut ↦ subst (Makes s (Submit e)) (sym (submit_same s e shut)) (answers e (λ o. clash (ap is_open o) shut))
    | inl fresh ↦ elim (either (delayable s.plan e)) [
      | inl d ↦
          subst (Makes s (Submit e)) (sym (submit_delayed s e fresh d))
          (waits e (open_is (fate_of s e) fresh) d (settle_settles (hold s e) (sized_hold s e z)))
      | inr d ↦
          let y = sized_hold s e z in
          subst (Makes s (Submit e)) (sym (submit_decided s e fresh d))
          (decides e (open_is (fate_of s e) fresh) d (decide_decides (hold s e) y e) (settle_settles (decide (hold s e) e) (sized_decide (hold s e) e y)))
    ]
  ]

  unopened : (e : ℕ) → (fate_of s e ≡ Open → ⊥) → is_open (fate_of s e) ≡ false
  unopened e n = elim (either (is_open (fate_of s e))) [ inl t ↦ absurd (n (open_is (fate_of s e) t)) | inr f ↦ f ]

  -- the sentences give what the functions give, and nothing else, where number 12 lets the state pass
  module _ (few : event_count s.plan ≤ 16) where
    shut_lapses : (k : ℕ) → Lapses k (shut s k) (lapse (event_count s.plan) 0 (shut s k) k)
    shut_lapses k =
        let same : event_count (shut s k).plan ≡ event_count s.plan = ap event_count (plan_shut s k) in
        lapse_lapses (event_count s.plan) 0 (shut s k) k (sized_shut s k z) (omega arith) (omega arith) (λ d lt o. omega arith)

    shut_sized : (k : ℕ) → Sized (lapse (event_count s.plan) 0 (shut s k) k)
    shut_sized k = lapse_sized (event_count s.plan) 0 (shut s k) k (sized_shut s k z)

    accept_makes : (c : Call) → Makes s c (accept s c).state
    unfolding accept close_step advance_to
    accept_makes (Submit e) = submit_makes e
    accept_makes (Close k) = closes k (shut_lapses k) (settle_settles (lapse (event_count s.plan) 0 (shut s k) k) (shut_sized k))
    accept_makes Finish = finishes (finish_finishes s z)
    accept_makes (Advance m) = advances m (settle_settles (set_minute s m) (sized_minute s m z))

    makes_one : {c : Call} {t : State} → Makes s c t → t ≡ (accept s c).state
    unfolding accept close_step advance_to
    makes_one (answers e n) = sym (submit_same s e (unopened e n))
    makes_one {t = t} (waits e o d w) = settles_settle (hold s e) t (sized_hold s e z) w ∙ sym (submit_delayed s e (ap is_open o) d)
    makes_one {t = t} (decides {u = u} e o d v w) =
        let y = sized_hold s e z in
        let q = decides_one (hold s e) y e v in
        settles_settle u t (subst Sized (sym q) (sized_decide (hold s e) e y)) w ∙ ap settle q ∙ sym (submit_decided s e (ap is_open o) d)
    makes_one {t = t} (closes {u = u} k l w) =
        let q = lapses_one l (shut_lapses k) in
        settles_settle u t (subst Sized (sym q) (shut_sized k)) w ∙ ap settle q
    makes_one {t = t} (finishes f) = finishes_finish s t z f
    makes_one {t = t} (advances m w) = settles_settle (set_minute s m) t (sized_minute s m z) w

-- a call that is taken finds at most 16 events
taken_few : (s : State) (c : Call) → call_fault s c ≡ none → event_count s.plan ≤ 16
unfolding call_fault
taken_few s c h = coherent_few s (not-false (coherent s) (none_applies (not (coherent s)) Incoherent (call_rows s c) h).0)

abbrev state_after : Reply → State
state_after r = r.state

pub exact : Exact scheduler
exact s c z = record {
  unchanged = λ f h. ap state_after (call_fault_lem s c f h);
  made = λ h. subst (λ (r : Reply). Makes s c r.state) (sym (call_accept s c h)) (accept_makes s z (taken_few s c h) c);
}

-- and every scheduler that is exact is ours, on every state that code can hold
pub exact_only : (step : Scheduler) → Exact step → (s : State) (c : Call) → Sized s → step s c ≡ scheduler s c
exact_only step x s c z = go (call_fault s c) refl
  where
    go : (q : Option CallFault) → call_fault s c ≡ q → step s c ≡ scheduler s c
    go (some f) h = (x s c z).unchanged f h ∙ sym (ap state_after (call_fault_lem s c f h))
    go none h = makes_one s z (taken_few s c h) ((x s c z).made h) ∙ sym (ap state_after (call_accept s c h))
