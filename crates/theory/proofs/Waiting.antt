-- S-6: what is kept while a conditional makes a trigger wait, which conditionals are broken, and when the wait ends.
use Prim.Native.Nat.{ℕ}
use borrow.Author.Tests.{not-false}
use mathlib.Core.Bool.{Bool, true, false, not, ◌&&◌, ◌||◌, and-false, or-false}
use mathlib.Core.List.{List, [], ◌∷◌}
use mathlib.Core.Logic.{inl, inr}
use mathlib.Core.Path.{◌≡◌, refl, sym, ◌∙◌, ap, subst}
use Rattle.theory.proofs.Types.{Rule, Conditional, Plan, State, Call}
use Rattle.plan.specs.Fates.{Fates, is_open, is_done, is_settled}
use Rattle.plan.specs.Plans.{rule_at, forcible, rejectable}
use Rattle.plan.specs.Rules.{unstoppable, reckoned, triggered, bars, owes}
use Rattle.scheduler.specs.State.{fate_of, Sized}
use Rattle.scheduler.specs.Lists.{scheduler, after}
use Rattle.scheduler.specs.Demand.{unbreakable}
use Rattle.theory.specs.Waiting.{Provides, BreaksOnly, plain_bars, plain_owes, Plain, Unwaiting, of_order, of_need, forcible_c, stoppable, WaitEnds}
use Rattle.plan.proofs.Tests.{clash, either, or_left, or_right}
use Rattle.scheduler.proofs.Grounds.{grounded}
use Rattle.theory.proofs.Waits.{awaits_other, reckoned_stopped, refusable_stops}
use Rattle.theory.proofs.RuleInvariant.{settled_closed, provided_of}
use Rattle.theory.proofs.Coherence.{coherent_sound, sized_call}
use Rattle.theory.proofs.Demands.{at_list, demand3}
use Rattle.theory.proofs.Forcing.{trail_unopened}

-- no trigger is done without c while the one that nothing can stop is open
pub provides : Provides scheduler
provides bytes s cs read o t c w comes did =
    let k = at_list bytes s cs read in
    provided_of k.invariant.listing.shape k.invariant.quiet k.strict o t c w (ap is_open comes) did

-- a conditional that is broken is none that demand 3 protects
pub breaks_only : BreaksOnly scheduler
unfolding unbreakable
breaks_only bytes s cs i a b c read l is h =
    let may : unbreakable s.plan (rule_at s.plan i) ≡ false = elim (either (unbreakable s.plan (rule_at s.plan i))) [
      | inr z ↦ z
      | inl z ↦ absurd (clash h ((demand3 bytes s cs read).claim.kept i l z))
    ] in
    let both = rejectable s.plan a && rejectable s.plan b in
    let n = not (forcible s.plan c) in
    let weak : (both || n) ≡ false = sym (ap (unbreakable s.plan) is) ∙ may in
    (not-false (forcible s.plan c) (or_right both n weak), or_left both n weak)

-- where both triggers are reckoned with only if they are done, the rule is plain
twice : (x y : Bool) → ((x && y) || (y && x)) ≡ (x && y)
twice true true = refl
twice true false = refl
twice false true = refl
twice false false = refl

module _ (p : Plan) (f : Fates) where
  plain_conditional : (a b c : ℕ)
      → reckoned p f c a ≡ is_done (f a)
      → reckoned p f c b ≡ is_done (f b)
      → Plain p f (Conditional a b c)
  unfolding bars owes triggered plain_bars plain_owes
  plain_conditional a b c x y = record {
    same_bars = λ e. rw (x, y);
    same_owes = rw (x, y) (ap (λ t. t && not (is_settled (f c))) (twice (is_done (f a)) (is_done (f b))));
  }

  reckoned_forcible : (c t : ℕ) → forcible p c ≡ true → reckoned p f c t ≡ is_done (f t)
  unfolding reckoned
  reckoned_forcible c t h = rw (h, and-false (unstoppable p f t)) (or-false (is_done (f t)))

  pub plain : (r : Rule) → Unwaiting p f r → Plain p f r
  unfolding bars owes plain_bars plain_owes
  plain r (of_order {a = a} {b = b}) = record { same_bars = λ e. refl; same_owes = refl }
  plain r (of_need {a = a} {b = b}) = record { same_bars = λ e. refl; same_owes = refl }
  plain r (forcible_c {a = a} {b = b} {c = c} h) = plain_conditional a b c (reckoned_forcible c a h) (reckoned_forcible c b h)
  plain r (stoppable {a = a} {b = b} {c = c} x y) =
      plain_conditional a b c (reckoned_stopped p f c a x) (reckoned_stopped p f c b y)

  -- nothing can stop an event only while it is open
  closed_stops : (t : ℕ) → is_open (f t) ≡ false → unstoppable p f t ≡ false
  unfolding unstoppable
  closed_stops t h = rw h

-- an event that is not open does not become so in a list
list_unopened : (s : State) (cs : List Call) → Sized s → (e : ℕ) → is_open (fate_of s e) ≡ false → is_open (fate_of (after scheduler s cs) e) ≡ false
unfolding after
list_unopened s [] z e h = h
list_unopened s (c ∷ cs) z e h = list_unopened (scheduler s c) cs (sized_call s c z) e (trail_unopened (grounded s c z) z e h)

pub wait_ends : WaitEnds scheduler
wait_ends s cs o t c z h w done =
    let p = s.plan in
    let f = fate_of (after scheduler s cs) in
    let past = closed_stops p f t (list_unopened s cs z t (settled_closed (fate_of s t) done)) in
    let other = refusable_stops p f o (awaits_other w (coherent_sound s h)) in
    elim w.is [
      | inl q ↦ subst (Plain p f) (sym q) (plain p f (Conditional o t c) (stoppable other past))
      | inr q ↦ subst (Plain p f) (sym q) (plain p f (Conditional t o c) (stoppable past other))
    ]
