-- Only rejectable events are refused: between calls every held event is rejectable, settling refuses held events alone, and
-- an event that cannot wait is decided by its attributes.
use Prim.Native.Nat.{ℕ, ◌<◌}
use native.Mathlib.Omega.{arith}
use native.Mathlib.Decide.{ℕ_discrete}
use borrow.Author.Tests.{leb-false, not-true, not-false}
use mathlib.Core.Bool.{true, false, not, ◌&&◌}
use mathlib.Core.List.{List, [], ◌∷◌}
use mathlib.Core.Logic.{◌≢◌, ◌⊎◌, inl, inr}
use Rattle.std.specs.declared.option.Option.{Option}
use Rattle.std.specs.declared.option.Option.TheVariants.{None as none, Some as some}
use mathlib.Core.Path.{◌≡◌, refl, sym, ◌∙◌, ap, subst}
use lib.Dec.{ltb, leb}
use Rattle.theory.proofs.Types.{Fate, Held, Done, Refused, Lapsed, Plan, State, CallFault, Unknown, Incoherent, Call, Submit}
use Rattle.plan.specs.Fates.{is_open, is_held, is_gone, is_settled}
use Rattle.plan.specs.Plans.{event_count, attributes_of, step_of, holds_bit, rejectable, delayable}
use Rattle.plan.specs.Rules.{bad_step, bad_attributes, sound_event}
use Rattle.scheduler.specs.State.{fate_of, hold, settle_as, shut, set_minute, Sized}
use Rattle.scheduler.specs.Orders.{fate_at_turn, do_one, do_all}
use Rattle.scheduler.specs.Calls.{Turn, refuses, does, Turns, stay, turn, Settles, Refusing, nothing_held, refuse_next, do_alone}
use Rattle.scheduler.specs.Coherent.{coherent}
use Rattle.scheduler.specs.Answers.{call_rows, call_fault}
use Rattle.scheduler.specs.Lists.{Scheduler, scheduler}
use Rattle.theory.specs.Exact.{Lapses, none_open, lapse_next, Decides, by_order, by_refusal, by_itself, Makes, answers, waits, decides, closes, finishes, advances, Exact, RefusesRejectable}
use Rattle.plan.proofs.Tests.{and_right, and_not, or_right, clash}
use Rattle.plan.proofs.Tables.{none_applies}
use Rattle.plan.proofs.Fates.{as_done}
use Rattle.scheduler.proofs.Laws.{plan_settle, fate_settle_same, fate_settle_either, fate_settle_other, sized_settle, sized_one, plan_hold, fate_hold_same, fate_hold_other, sized_hold, plan_shut, fate_shut, sized_shut, plan_minute, fate_minute, sized_minute}
use Rattle.scheduler.proofs.Searching.{sized-do_all, member_settled}
use Rattle.scheduler.proofs.Settling.{sized_turns}
use Rattle.scheduler.proofs.Grounds.{sized_alone, submit_low}
use Rattle.scheduler.proofs.Doing.{alone_plan, alone_fate}
use Rattle.theory.proofs.Coherence.{event_passes}
use Rattle.theory.proofs.Exact.{exact}

abbrev may_refuse : State → ℕ → Type 0
may_refuse s e = rejectable s.plan e ≡ true

-- every declared event that is held is rejectable
abbrev Refusable : State → Type 0
Refusable s = (e : ℕ) → e < event_count s.plan → fate_of s e ≡ Held → may_refuse s e

-- from s to t the plan stays, no event becomes held, and what comes to be refused is rejectable
record Refuses (s t : State) : Type 0 where
  plan : t.plan ≡ s.plan
  held : (e : ℕ) → fate_of t e ≡ Held → fate_of s e ≡ Held
  refused : (e : ℕ) → fate_of t e ≡ Refused → (fate_of s e ≡ Refused) ⊎ may_refuse s e

stays : (s : State) → Refuses s s
stays s = record { plan = refl; held = λ e h. h; refused = λ e h. inl h }

-- one after another
then : {s t u : State} → Refuses s t → Refuses t u → Refuses s u
then r q = record {
  plan = q.plan ∙ r.plan;
  held = λ e h. r.held e (q.held e h);
  refused = λ e h. elim (q.refused e h) [
    | inl was ↦ r.refused e was
    | inr may ↦ inr (ap (λ (p : Plan). rejectable p e) (sym r.plan) ∙ may)
  ];
}

refusable : {s t : State} → Refuses s t → Refusable s → Refusable t
refusable r ok e lt h =
    ap (λ (p : Plan). rejectable p e) r.plan ∙ ok e (subst (λ (p : Plan). e < event_count p) r.plan lt) (r.held e h)

-- a write that leaves fates and plan alone
same_fates_lem : (s t : State) → t.plan ≡ s.plan → ((e : ℕ) → fate_of t e ≡ fate_of s e) → Refuses s t
same_fates_lem s t p f = record { plan = p; held = λ e h. sym (f e) ∙ h; refused = λ e h. inl (sym (f e) ∙ h) }

-- an event is settled
module _ (x : Fate) (s : State) (e : ℕ) (z : Sized s) (unheld : is_held x ≡ false) (ok : x ≡ Refused → may_refuse s e) where
  writes : Refuses s (settle_as x s e)
  writes = record {
    plan = plan_settle x s e;
    held = λ d h. elim (fate_settle_either x s e d z) [
      | inl q ↦ absurd (clash (ap is_held (sym q ∙ h)) unheld)
      | inr q ↦ sym q ∙ h
    ];
    refused = λ d h. elim (ℕ_discrete d e) [
      | no ne ↦ inl (sym (fate_settle_other x s e d ne) ∙ h)
      | yes same ↦ elim (fate_settle_either x s e d z) [
        | inl q ↦ inr (subst (may_refuse s) (sym same) (ok (sym q ∙ h)))
        | inr q ↦ inl (sym q ∙ h)
      ]
    ];
  }

-- what is not gone is not refused
not_gone : (x : Fate) → is_gone x ≡ false → x ≡ Refused → ⊥
not_gone x h q = clash (ap is_gone q) h

-- the events of an order are done
does_all : (s : State) (o : List ℕ) → Sized s → Refuses s (do_all s o)
unfolding do_all
does_all s [] z = stays s
does_all s (c ∷ o) z =
    let x = fate_at_turn s c in
    let gone : is_gone x ≡ false = as_done is_gone refl (is_open (fate_of s c)) in
    then
    (writes x s c z (as_done is_held refl (is_open (fate_of s c))) (λ q. absurd (not_gone x gone q)))
    (does_all (do_one s c) o (sized_one s c z))

does_alone : (s : State) (e : ℕ) → Sized s → Refuses s (do_alone s e)
does_alone s e z =
    then
    (writes Done s e z refl (λ q. absurd (not_gone Done refl q)))
    (same_fates_lem (settle_as Done s e) (do_alone s e) (alone_plan s e ∙ sym (plan_settle Done s e)) (alone_fate s e))

-- settling refuses held events alone
turn_refuses : {s t : State} → Turn s t → Sized s → Refusable s → Refuses s t
turn_refuses {s} (refuses e l) z ok = writes Refused s e z refl (λ q. ok e l.declared l.is.0)
turn_refuses {s} (does e o nb l f) z ok = does_all s o z

turns_refuse : {s t : State} → Turns s t → Sized s → Refusable s → Refuses s t
turns_refuse {s} stay z ok = stays s
turns_refuse (turn r ts) z ok =
    let first = turn_refuses r z ok in
    then first (turns_refuse ts (sized_turns (turn r stay) z) (refusable first ok))

settles_refuses : {s t : State} → Settles s t → Sized s → Refusable s → Refuses s t
settles_refuses w z ok = turns_refuse w.turns z ok

-- and so does winding up
refusing_refuses : {s t : State} → Refusing s t → Sized s → Refusable s → Refuses s t
refusing_refuses {s} (nothing_held n) z ok = stays s
refusing_refuses {s} (refuse_next e l w rest) z ok =
    let y = sized_settle Refused s e z in
    let first = writes Refused s e z refl (λ q. ok e l.declared l.is) in
    let next = then first (settles_refuses w y (refusable first ok)) in
    then next (refusing_refuses rest (sized_turns w.turns y) (refusable next ok))

-- a closing lets events lapse
lapses_refuse : {k : ℕ} {s t : State} → Lapses k s t → Sized s → Refuses s t × Sized t
lapses_refuse {s = s} (none_open n) z = (stays s, z)
lapses_refuse {s = s} (lapse_next e l r) z =
    let rest = lapses_refuse r (sized_settle Lapsed s e z) in
    let unlike : Lapsed ≡ Refused → ⊥ = λ q. let w : ◌≡◌ {A = ℕ} 0 1 = cc in omega arith in
    (then (writes Lapsed s e z refl (λ q. absurd (unlike q))) rest.0, rest.1)

-- an event that cannot wait is decided: it is settled then, and refused only if it is rejectable
decides_refuses : {s : State} {e : ℕ} {u : State} → Decides s e u → Sized s → e < 16 → Refuses s u × Sized u × (fate_of u e ≡ Held → ⊥)
decides_refuses {s} {e = e} (by_order o f) z lt =
    (does_all s o z, sized-do_all s o z, λ h. clash (member_settled s z o f.viable.runs e f.viable.contains) (ap is_settled h))
decides_refuses {s} {e = e} (by_refusal n r) z lt =
    (writes Refused s e z refl (λ q. r), sized_settle Refused s e z, λ h. clash (ap is_settled (fate_settle_same Refused s e z lt)) (ap is_settled h))
decides_refuses {s} {e = e} (by_itself n r) z lt =
    (does_alone s e z, sized_alone s e z, λ h. clash (ap is_settled (alone_fate s e e ∙ fate_settle_same Done s e z lt)) (ap is_settled h))

-- what a state that passes number 12 says: what is delayable is rejectable, and so is what is held
module _ (s : State) (z : Sized s) (co : coherent s ≡ true) where
  delayed_may : (e : ℕ) → e < event_count s.plan → delayable s.plan e ≡ true → may_refuse s e
  unfolding sound_event
  delayed_may e lt d =
      let a = attributes_of s.plan e in
      let sound = (event_passes s co e lt).0 in
      let good = not-true (bad_attributes a) (and_right (not (bad_step (step_of s.plan e))) (not (bad_attributes a)) sound) in
      let kept = or_right (ltb 7 a) (holds_bit 4 a && not (holds_bit 2 a)) good in
      not-false (holds_bit 2 a) (and_not (holds_bit 4 a) (not (holds_bit 2 a)) kept d)

  held_may : Refusable s
  held_may e lt h =
      let waits-well = (event_passes s co e lt).2 in
      let unlike = not-true (is_held (fate_of s e) && not (delayable s.plan e)) waits-well in
      delayed_may e lt (not-false (delayable s.plan e) (and_not (is_held (fate_of s e)) (not (delayable s.plan e)) unlike (ap is_held h)))

  -- after an event is held: the others are as they were
  module _ (e : ℕ) (low : e < 16) where
    hold_refused : {t : State} → Refuses (hold s e) t → (d : ℕ) → fate_of t d ≡ Refused → (fate_of s d ≡ Refused) ⊎ may_refuse s d
    hold_refused r d h = elim (r.refused d h) [
      | inr may ↦ inr (ap (λ (p : Plan). rejectable p d) (sym (plan_hold s e)) ∙ may)
      | inl was ↦ elim (ℕ_discrete d e) [
        | no ne ↦ inl (sym (fate_hold_other s e d ne) ∙ was)
        | yes q ↦
            let held : fate_of (hold s e) d ≡ Held = subst (λ i. fate_of (hold s e) i ≡ Held) (sym q) (fate_hold_same s e z low) in
            absurd (clash (ap is_settled (sym held ∙ was)) refl)
      ]
    ]

    other_may : (d : ℕ) → d ≢ e → d < event_count (hold s e).plan → fate_of (hold s e) d ≡ Held → may_refuse (hold s e) d
    other_may d ne lt h =
        ap (λ (p : Plan). rejectable p d) (plan_hold s e)
        ∙ held_may d (subst (λ (p : Plan). d < event_count p) (plan_hold s e) lt) (sym (fate_hold_other s e d ne) ∙ h)

    delayed_refusable : e < event_count s.plan → delayable s.plan e ≡ true → Refusable (hold s e)
    delayed_refusable lt d x l h = elim (ℕ_discrete x e) [
      | no ne ↦ other_may x ne l h
      | yes q ↦ ap (λ (p : Plan). rejectable p x) (plan_hold s e) ∙ subst (may_refuse s) (sym q) (delayed_may e lt d)
    ]

    decided_refusable : {u : State} → Refuses (hold s e) u → (fate_of u e ≡ Held → ⊥) → Refusable u
    decided_refusable {u} r gone x l h = elim (ℕ_discrete x e) [
      | yes q ↦ absurd (gone (subst (λ i. fate_of u i ≡ Held) q h))
      | no ne ↦
          ap (λ (p : Plan). rejectable p x) r.plan
          ∙ other_may x ne (subst (λ (p : Plan). x < event_count p) r.plan l) (r.held x h)
    ]

  -- a write that keeps fates and plan, and then settling
  settled_after : (t : State) {u : State} → Refuses s t → Sized t → Settles t u → Refuses s u
  settled_after t r y w = then r (settles_refuses w y (refusable r held_may))

  makes_refuses : {c : Call} {t : State} → call_fault s c ≡ none → Makes s c t → (d : ℕ) → fate_of t d ≡ Refused → (fate_of s d ≡ Refused) ⊎ may_refuse s d
  unfolding call_fault
  makes_refuses q (answers e n) d h = inl h
  makes_refuses q (waits e o y w) d h =
      let low = submit_low s e q in
      let known = (none_applies (leb (event_count s.plan) e) Unknown [] (none_applies (not (coherent s)) Incoherent (call_rows s (Submit e)) q).1).0 in
      let lt : e < event_count s.plan = omega (arith, leb-false (event_count s.plan) e known) in
      hold_refused e low (settles_refuses w (sized_hold s e z) (delayed_refusable e low lt y)) d h
  makes_refuses q (decides e o y v w) d h =
      let low = submit_low s e q in
      let r = decides_refuses v (sized_hold s e z) low in
      hold_refused e low (then r.0 (settles_refuses w r.1 (decided_refusable e low r.0 r.2))) d h
  makes_refuses q (closes k l w) d h =
      let shuts = same_fates_lem s (shut s k) (plan_shut s k) (fate_shut s k) in
      let r = lapses_refuse l (sized_shut s k z) in
      (settled_after _ (then shuts r.0) r.1 w).refused d h
  makes_refuses q (finishes f) d h =
      let first = settles_refuses f.settles z held_may in
      (then first (refusing_refuses f.refusing (sized_turns f.settles.turns z) (refusable first held_may))).refused d h
  makes_refuses q (advances m w) d h =
      (settled_after (set_minute s m) (same_fates_lem s (set_minute s m) (plan_minute s m) (fate_minute s m)) (sized_minute s m z) w).refused d h

-- so a scheduler that is exact refuses rejectable events alone, and ours is
pub exact_refuses : (step : Scheduler) → Exact step → RefusesRejectable step
exact_refuses step x s c e z co h = go (call_fault s c) refl
  where
    go : (q : Option CallFault) → call_fault s c ≡ q → (fate_of s e ≡ Refused) ⊎ may_refuse s e
    go (some f) q = inl (ap (λ (t : State). fate_of t e) (sym ((x s c z).unchanged f q)) ∙ h)
    go none q = makes_refuses s z co q ((x s c z).made q) e h

pub refuses_rejectable : RefusesRejectable scheduler
refuses_rejectable = exact_refuses scheduler exact
