-- A conditional that makes a trigger wait: what it bars and owes meanwhile, which triggers it reckons with only if they
-- are done, and what a rule bars and owes at least.
use Prim.Native.Nat.{ℕ}
use borrow.Author.Tests.{eq-eqb}
use mathlib.Core.Bool.{Bool, true, false, not, ◌&&◌, ◌||◌, and-false, or-false}
use mathlib.Core.Logic.{inl, inr}
use mathlib.Core.Path.{◌≡◌, refl}
use lib.Dec.{eqb}
use Rattle.theory.proofs.Types.{Rule, Order, Need, Conditional, Plan}
use Rattle.plan.specs.Fates.{Fates, is_open, is_done, is_gone, is_settled}
use Rattle.plan.specs.Plans.{rule_at, forcible, rejectable}
use Rattle.plan.specs.Rules.{enforceable, unstoppable, reckoned, triggered, bars, owes}
use Rattle.scheduler.specs.Demand.{unbreakable}
use Rattle.theory.specs.Waiting.{Awaits, plain_bars, plain_owes}
use Rattle.plan.proofs.Tests.{clash, either, or_right_true}
use Rattle.theory.proofs.SoundPlans.{Sound, rule_enforced}

-- while t is open
module _ {p : Plan} {o t c : ℕ} (w : Awaits p o t c) where
  abbrev rule : Rule
  rule = rule_at p w.place

  -- the rule must never be broken, and its o can be refused
  pub awaits_unbreakable : unbreakable p rule ≡ true
  unfolding unbreakable
  awaits_unbreakable = elim w.is [
    | inl q ↦ rw (q, w.unforcible) (or_right_true (rejectable p o && rejectable p t))
    | inr q ↦ rw (q, w.unforcible) (or_right_true (rejectable p t && rejectable p o))
  ]

  pub awaits_other : Sound p → rejectable p o ≡ true
  unfolding enforceable
  awaits_other sd = elim (either (rejectable p o)) [
    | inl r ↦ r
    | inr r ↦ absurd (elim w.is [
      | inl q ↦ clash (rw (q, r, w.unrefusable, w.unforcible) at (rule_enforced sd w.place w.within)) refl
      | inr q ↦ clash (rw (q, r, w.unrefusable, w.unforcible) at (rule_enforced sd w.place w.within)) refl
    ])
  ]

  module _ (f : Fates) (comes : is_open (f t) ≡ true) where
    reckons : reckoned p f c t ≡ true
    unfolding reckoned unstoppable
    reckons = rw (comes, w.unrefusable, w.undelayable, w.unforcible) (or_right_true (is_done (f t)))

    pub awaits_bars : is_gone (f c) ≡ true → bars p f rule o ≡ true
    unfolding bars
    awaits_bars g = elim w.is [
      | inl q ↦ rw (q, g, eq-eqb o o refl, reckons)
      | inr q ↦ rw (q, g, eq-eqb o o refl, reckons) (or_right_true (eqb o t && reckoned p f c o))
    ]

    pub awaits_owes : is_done (f o) ≡ true → is_settled (f c) ≡ false → owes p f rule ≡ true
    unfolding owes triggered
    awaits_owes d u = elim w.is [
      | inl q ↦ rw (q, d, u, reckons)
      | inr q ↦ rw (q, d, u, reckons, or_right_true (is_done (f t) && reckoned p f c o))
    ]

-- what something can stop is reckoned with only if it is done, such as what can be refused
module _ (p : Plan) (f : Fates) where
  pub reckoned_stopped : (c t : ℕ) → unstoppable p f t ≡ false → reckoned p f c t ≡ is_done (f t)
  unfolding reckoned
  reckoned_stopped c t h = rw h (or-false (is_done (f t)))

  pub refusable_stops : (t : ℕ) → rejectable p t ≡ true → unstoppable p f t ≡ false
  unfolding unstoppable
  refusable_stops t h = rw (h, and-false (is_open (f t)))

  pub reckoned_refusable : (c t : ℕ) → rejectable p t ≡ true → reckoned p f c t ≡ is_done (f t)
  reckoned_refusable c t h = reckoned_stopped c t (refusable_stops t h)

-- what is done is reckoned with
wider_bars : (g ea eb da db ra rb : Bool)
    → (g && ((ea && (db || rb)) || (eb && (da || ra)))) ≡ false
    → (g && ((ea && db) || (eb && da))) ≡ false
wider_bars false ea eb da db ra rb h = refl
wider_bars true true eb da true ra rb h = h
wider_bars true true true true false ra true h = h
wider_bars true true true true false ra false h = h
wider_bars true true true false false ra rb h = refl
wider_bars true true false da false ra rb h = refl
wider_bars true false true true db ra rb h = h
wider_bars true false true false db ra rb h = refl
wider_bars true false false da db ra rb h = refl

wider_owes : (da db ra rb n : Bool)
    → (((da && (db || rb)) || (db && (da || ra))) && n) ≡ false
    → ((da && db) && n) ≡ false
wider_owes true true ra rb n h = h
wider_owes true false ra rb n h = refl
wider_owes false db ra rb n h = refl

-- so a rule that does not bar, or owe, does not in the plain sense
module _ (p : Plan) (f : Fates) where
  pub bars_plain : (r : Rule) (e : ℕ) → bars p f r e ≡ false → plain_bars f r e ≡ false
  unfolding bars reckoned plain_bars
  bars_plain (Order a b) e h = h
  bars_plain (Need a b) e h = h
  bars_plain (Conditional a b c) e h =
      wider_bars (is_gone (f c)) (eqb e a) (eqb e b) (is_done (f a)) (is_done (f b))
      (unstoppable p f a && not (forcible p c)) (unstoppable p f b && not (forcible p c)) h

  pub owes_plain : (r : Rule) → owes p f r ≡ false → plain_owes f r ≡ false
  unfolding owes triggered reckoned plain_owes
  owes_plain (Order a b) h = h
  owes_plain (Need a b) h = h
  owes_plain (Conditional a b c) h =
      wider_owes (is_done (f a)) (is_done (f b)) (unstoppable p f a && not (forcible p c)) (unstoppable p f b && not (forcible p c)) (not (is_settled (f c))) h
