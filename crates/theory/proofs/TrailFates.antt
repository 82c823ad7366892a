-- Why an event is refused, or lapses, along a trail of writes: some state on the way has the ground for it.
use Prim.Native.Nat.{ℕ}
use native.Mathlib.Decide.{ℕ_discrete}
use mathlib.Core.Bool.{Bool, true, false}
use mathlib.Core.List.{List, [], ◌∷◌}
use mathlib.Core.Logic.{◌⊎◌, inl, inr}
use mathlib.Core.Path.{◌≡◌, refl, sym, ◌∙◌, ap, subst}
use Rattle.theory.proofs.Types.{Fate, Open, Held, Done, Refused, Lapsed, Forced, Plan, State, Call, Close}
use Rattle.plan.specs.Fates.{is_open, is_gone, same_fate}
use Rattle.plan.specs.Plans.{step_of}
use Rattle.scheduler.specs.State.{fate_of, hold, settle_as, shut, set_minute, Sized}
use Rattle.scheduler.specs.Orders.{fate_at_turn, do_one, do_all}
use Rattle.scheduler.specs.Calls.{do_alone}
use Rattle.scheduler.specs.Grounds.{Ground, Trail, end, held, ordered, alone, refused, shuts, lapsed, moves}
use Rattle.plan.proofs.Tests.{clash}
use Rattle.plan.proofs.Fates.{as_done}
use Rattle.scheduler.proofs.Laws.{plan_settle, fate_settle_either, fate_settle_other, sized_settle, sized_one, plan_hold, sized_hold, plan_shut, fate_shut, sized_shut, plan_minute, fate_minute, sized_minute}
use Rattle.scheduler.proofs.Searching.{plan-do_all, sized-do_all}
use Rattle.scheduler.proofs.Grounds.{sized_alone}
use Rattle.scheduler.proofs.Doing.{alone_plan, alone_fate}
use Rattle.theory.proofs.Forcing.{hold_either, trail_unopened}

-- along a trail the arrays keep their lengths
pub trail_sized : {c : Call} {s t : State} → Trail c s t → Sized s → Sized t
trail_sized end z = z
trail_sized (held {s} e p h r) z = trail_sized r (sized_hold s e z)
trail_sized (ordered {s} e o h f r) z = trail_sized r (sized-do_all s o z)
trail_sized (alone {s} e p u d j n r) z = trail_sized r (sized_alone s e z)
trail_sized (refused {s} e g r) z = trail_sized r (sized_settle Refused s e z)
trail_sized (shuts {s} k p r) z = trail_sized r (sized_shut s k z)
trail_sized (lapsed {s} e p h r) z = trail_sized r (sized_settle Lapsed s e z)
trail_sized (moves {s} m p h r) z = trail_sized r (sized_minute s m z)

-- a fate that neither the write nor the hold gives was there before
same_fate_lem : (v : Fate) → same_fate v v ≡ true
same_fate_lem v = elim v as (λ x. same_fate x x ≡ true) [ Open ↦ refl | Held ↦ refl | Done ↦ refl | Refused ↦ refl | Lapsed ↦ refl | Forced ↦ refl ]

other_fate : (x y v : Fate) → same_fate x y ≡ false → v ≡ x → v ≡ y → ⊥
other_fate x y v unlike p q = clash (ap (λ (w : Fate). same_fate w y) (sym p ∙ q) ∙ same_fate_lem y) unlike

settle_back : (x y : Fate) (s : State) (d e : ℕ) → Sized s → same_fate x y ≡ false → fate_of (settle_as x s d) e ≡ y → fate_of s e ≡ y
settle_back x y s d e z unlike h = elim (fate_settle_either x s d e z) [
  | inl q ↦ absurd (other_fate x y _ unlike q h)
  | inr q ↦ sym q ∙ h
]

hold_back : (y : Fate) (s : State) (d e : ℕ) → Sized s → same_fate Held y ≡ false → fate_of (hold s d) e ≡ y → fate_of s e ≡ y
hold_back y s d e z unlike h = elim (hold_either s d e z) [
  | inl q ↦ absurd (other_fate Held y _ unlike q h)
  | inr q ↦ sym q ∙ h
]

-- an order does events, and no more
order_back : (y : Fate) (s : State) (o : List ℕ) (e : ℕ) → Sized s → is_gone y ≡ true → fate_of (do_all s o) e ≡ y → fate_of s e ≡ y
unfolding do_all
order_back y s [] e z gone h = h
order_back y s (c ∷ o) e z gone h = elim (fate_settle_either (fate_at_turn s c) s c e z) [
  | inl q ↦
      let later = order_back y (do_one s c) o e (sized_one s c z) gone h in
      absurd (clash (ap is_gone (sym q ∙ later) ∙ gone) (as_done is_gone refl (is_open (fate_of s c))))
  | inr q ↦ sym q ∙ order_back y (do_one s c) o e (sized_one s c z) gone h
]

-- why e is refused between s and t: the state that has the ground, how it is reached, and how it goes on
pub record RefusedBy (c : Call) (s t : State) (e : ℕ) : Type 0 where
  pub at : State
  pub reached : Trail c s at
  pub ground : Ground c at e
  pub goes : Trail c (settle_as Refused at e) t

earlier : {c : Call} {s t u : State} {e : ℕ} → ((v : State) → Trail c t v → Trail c s v) → RefusedBy c t u e → RefusedBy c s u e
earlier before r = record { at = r.at; reached = before r.at r.reached; ground = r.ground; goes = r.goes }

pub trail_refuses : {c : Call} {s t : State} → Trail c s t → Sized s → (e : ℕ) → fate_of t e ≡ Refused → (fate_of s e ≡ Refused) ⊎ RefusedBy c s t e
trail_refuses end z e h = inl h
trail_refuses (held {s} d p o r) z e h = elim (trail_refuses r (sized_hold s d z) e h) [
  | inl f ↦ inl (hold_back Refused s d e z refl f)
  | inr f ↦ inr (earlier (λ v. held d p o) f)
]
trail_refuses (ordered {s} d o w f r) z e h = elim (trail_refuses r (sized-do_all s o z) e h) [
  | inl g ↦ inl (order_back Refused s o e z refl g)
  | inr g ↦ inr (earlier (λ v. ordered d o w f) g)
]
trail_refuses (alone {s} d p u j k n r) z e h = elim (trail_refuses r (sized_alone s d z) e h) [
  | inl f ↦ inl (settle_back Done Refused s d e z refl (sym (alone_fate s d e) ∙ f))
  | inr f ↦ inr (earlier (λ v. alone d p u j k n) f)
]
trail_refuses {c} (refused {s} {t} d g r) z e h = elim (trail_refuses r (sized_settle Refused s d z) e h) [
  | inr f ↦ inr (earlier (λ v. refused d g) f)
  | inl f ↦ elim (ℕ_discrete e d) [
    | no ne ↦ inl (sym (fate_settle_other Refused s d e ne) ∙ f)
    | yes q ↦ inr (record {
      at = s;
      reached = end;
      ground = subst (Ground c s) (sym q) g;
      goes = subst (λ i. Trail c (settle_as Refused s i) t) (sym q) r;
    })
  ]
]
trail_refuses (shuts {s} k p r) z e h = elim (trail_refuses r (sized_shut s k z) e h) [
  | inl f ↦ inl (sym (fate_shut s k e) ∙ f)
  | inr f ↦ inr (earlier (λ v. shuts k p) f)
]
trail_refuses (lapsed {s} d p o r) z e h = elim (trail_refuses r (sized_settle Lapsed s d z) e h) [
  | inl f ↦ inl (settle_back Lapsed Refused s d e z refl f)
  | inr f ↦ inr (earlier (λ v. lapsed d p o) f)
]
trail_refuses (moves {s} m p q r) z e h = elim (trail_refuses r (sized_minute s m z) e h) [
  | inl f ↦ inl (sym (fate_minute s m e) ∙ f)
  | inr f ↦ inr (earlier (λ v. moves m p q) f)
]

-- e lapses: the call closes its step, and it was open before the call
abbrev pub LapsedBy : Call → State → ℕ → Type 0
LapsedBy c s e = (c ≡ Close (step_of s.plan e)) × (is_open (fate_of s e) ≡ true)

-- a write before it: the plan is the same, and what was not open is not open after it
lapse_earlier : {c : Call} (s t : State) (e : ℕ) → t.plan ≡ s.plan → (is_open (fate_of s e) ≡ false → is_open (fate_of t e) ≡ false) → LapsedBy c t e → LapsedBy c s e
lapse_earlier {c} s t e plan unopened l =
    (l.0 ∙ ap (λ (p : Plan). Close (step_of p e)) plan, was_open (is_open (fate_of s e)) refl)
  where
    was_open : (b : Bool) → is_open (fate_of s e) ≡ b → is_open (fate_of s e) ≡ true
    was_open true q = q
    was_open false q = absurd (clash l.1 (unopened q))

pub trail_lapses : {c : Call} {s t : State} → Trail c s t → Sized s → (e : ℕ) → fate_of t e ≡ Lapsed → (fate_of s e ≡ Lapsed) ⊎ LapsedBy c s e
trail_lapses end z e h = inl h
trail_lapses (held {s} d p o r) z e h = elim (trail_lapses r (sized_hold s d z) e h) [
  | inl f ↦ inl (hold_back Lapsed s d e z refl f)
  | inr f ↦ inr (lapse_earlier s (hold s d) e (plan_hold s d) (trail_unopened (held d p o end) z e) f)
]
trail_lapses {c} (ordered {s} d o w f r) z e h = elim (trail_lapses r (sized-do_all s o z) e h) [
  | inl g ↦ inl (order_back Lapsed s o e z refl g)
  | inr g ↦ inr (lapse_earlier s (do_all s o) e (plan-do_all s o) (trail_unopened {c = c} (ordered d o w f end) z e) g)
]
trail_lapses (alone {s} d p u j k n r) z e h = elim (trail_lapses r (sized_alone s d z) e h) [
  | inl f ↦ inl (settle_back Done Lapsed s d e z refl (sym (alone_fate s d e) ∙ f))
  | inr f ↦ inr (lapse_earlier s (do_alone s d) e (alone_plan s d) (trail_unopened (alone d p u j k n end) z e) f)
]
trail_lapses (refused {s} d g r) z e h = elim (trail_lapses r (sized_settle Refused s d z) e h) [
  | inl f ↦ inl (settle_back Refused Lapsed s d e z refl f)
  | inr f ↦ inr (lapse_earlier s (settle_as Refused s d) e (plan_settle Refused s d) (trail_unopened (refused d g end) z e) f)
]
trail_lapses (shuts {s} k p r) z e h = elim (trail_lapses r (sized_shut s k z) e h) [
  | inl f ↦ inl (sym (fate_shut s k e) ∙ f)
  | inr f ↦ inr (lapse_earlier s (shut s k) e (plan_shut s k) (trail_unopened (shuts k p end) z e) f)
]
trail_lapses (lapsed {s} d p o r) z e h = elim (trail_lapses r (sized_settle Lapsed s d z) e h) [
  | inr f ↦ inr (lapse_earlier s (settle_as Lapsed s d) e (plan_settle Lapsed s d) (trail_unopened (lapsed d p o end) z e) f)
  | inl f ↦ elim (ℕ_discrete e d) [
    | no ne ↦ inl (sym (fate_settle_other Lapsed s d e ne) ∙ f)
    | yes q ↦ inr (p ∙ ap (λ i. Close (step_of s.plan i)) (sym q), ap (λ i. is_open (fate_of s i)) q ∙ ap is_open o)
  ]
]
trail_lapses (moves {s} m p q r) z e h = elim (trail_lapses r (sized_minute s m z) e h) [
  | inl f ↦ inl (sym (fate_minute s m e) ∙ f)
  | inr f ↦ inr (lapse_earlier s (set_minute s m) e (plan_minute s m) (trail_unopened (moves m p q end) z e) f)
]
