-- The tests of rules, and the grounds on which they pass.
pub use Rattle.std.proofs.lemmas.Bool.{false_from_ne_true as refuted}
use Prim.Native.Nat.{ℕ, ◌<◌}
use borrow.Author.Tests.{not-true, eq-eqb, eqb-true}
use mathlib.Core.Bool.{Bool, true, false, not, ◌&&◌, ◌||◌}
use mathlib.Core.Logic.{inl, inr}
use mathlib.Core.Path.{◌≡◌, refl, subst}
use lib.Dec.{eqb}
use Rattle.orders.specs.Prelude.{Rule, Order, Need, Conditional, Plan}
use Rattle.plan.specs.Fates.{Fates, is_done, is_gone, is_settled}
use Rattle.plan.specs.Base.{any_below}
use Rattle.plan.specs.Plans.{rule_count, rule_at, delayable}
use Rattle.orders.specs.Closed.{Stands}
use Rattle.plan.specs.Rules.{reckoned, triggered, bars, makes_wait, owes}
use Rattle.orders.specs.Runs.{Bars, late, lost, second, other, Waits, waits, Owed, needed, called, recalled}
use Rattle.plan.proofs.Tests.{any_false, any_none, and_not, and_left, and_right, or_either, or_right_true, clash}

-- a test over the rules that stand fails just where it fails of each
module _ (p : Plan) (l : ℕ → Bool) (t : Rule → Bool) where
  pub each_fails : any_below (rule_count p) (λ i. l i && t (rule_at p i)) ≡ false
      → (r : Rule)
      → Stands p l r
      → t r ≡ false
  each_fails h r st =
      let i = st.place in
      let here = any_false (rule_count p) (λ j. l j && t (rule_at p j)) h i st.within in
      subst (λ (z : Rule). t z ≡ false) st.is (and_not (l i) (t (rule_at p i)) here st.unbroken)

  pub all_fail : ((r : Rule) → Stands p l r → t r ≡ false) → any_below (rule_count p) (λ i. l i && t (rule_at p i)) ≡ false
  all_fail h = any_none (rule_count p) (λ i. l i && t (rule_at p i)) (λ i lt. go i lt (l i) refl)
    where
      go : (i : ℕ) → i < rule_count p → (b : Bool) → l i ≡ b → (l i && t (rule_at p i)) ≡ false
      go i lt true e = rw e (h (rule_at p i) (record { place = i; within = lt; unbroken = e; is = refl }))
      go i lt false e = rw e

pub bars_grounds : (p : Plan) (f : Fates) (x : ℕ) (r : Rule) → bars p f r x ≡ true → Bars p f x r
unfolding bars
bars_grounds p f x (Order a b) h = late (eqb-true x a (and_left (eqb x a) (is_done (f b)) h)) (and_right (eqb x a) (is_done (f b)) h)
bars_grounds p f x (Need a b) h = lost (eqb-true x a (and_left (eqb x a) (is_gone (f b)) h)) (and_right (eqb x a) (is_gone (f b)) h)
bars_grounds p f x (Conditional a b c) h =
    let s = reckoned p f c b in
    let t = reckoned p f c a in
    let gone = and_left (is_gone (f c)) ((eqb x a && s) || (eqb x b && t)) h in
    elim (or_either (eqb x a && s) (eqb x b && t) (and_right (is_gone (f c)) _ h)) [
      | inl k ↦ second (eqb-true x a (and_left (eqb x a) s k)) (and_right (eqb x a) s k) gone
      | inr k ↦ other (eqb-true x b (and_left (eqb x b) t k)) (and_right (eqb x b) t k) gone
    ]

pub grounds_bar : (p : Plan) (f : Fates) (x : ℕ) (r : Rule) → Bars p f x r → bars p f r x ≡ true
unfolding bars
grounds_bar p f x r (late {a = a} {b = b} q d) = rw (eq-eqb x a q, d)
grounds_bar p f x r (lost {a = a} {b = b} q g) = rw (eq-eqb x a q, g)
grounds_bar p f x r (second {a = a} {b = b} q d g) = rw (g, eq-eqb x a q, d)
grounds_bar p f x r (other {a = a} {b = b} {c = c} q d g) =
    rw (g, eq-eqb x b q, d) (or_right_true (eqb x a && reckoned p f c b))

pub wait_grounds : (p : Plan) (f : Fates) (x : ℕ) (r : Rule) → makes_wait p f r x ≡ true → Waits p f x r
unfolding makes_wait
wait_grounds p f x (Order a b) h =
    let w = and_left (eqb x b && delayable p b) (not (is_settled (f a))) h in
    waits (eqb-true x b (and_left (eqb x b) (delayable p b) w)) (and_right (eqb x b) (delayable p b) w) (not-true (is_settled (f a)) (and_right (eqb x b && delayable p b) (not (is_settled (f a))) h))
wait_grounds p f x (Need a b) h = absurd (clash h refl)
wait_grounds p f x (Conditional a b c) h = absurd (clash h refl)

pub grounds_wait : (p : Plan) (f : Fates) (x : ℕ) (r : Rule) → Waits p f x r → makes_wait p f r x ≡ true
unfolding makes_wait
grounds_wait p f x r (waits {a = a} {b = b} q d u) = rw (eq-eqb x b q, d, u)

pub owes_grounds : (p : Plan) (f : Fates) (r : Rule) → owes p f r ≡ true → Owed p f r
unfolding owes triggered
owes_grounds p f (Order a b) h = absurd (clash h refl)
owes_grounds p f (Need a b) h =
    needed (and_left (is_done (f a)) (not (is_settled (f b))) h) (not-true (is_settled (f b)) (and_right (is_done (f a)) (not (is_settled (f b))) h))
owes_grounds p f (Conditional a b c) h =
    let s = is_done (f a) && reckoned p f c b in
    let t = is_done (f b) && reckoned p f c a in
    let u = not-true (is_settled (f c)) (and_right (s || t) (not (is_settled (f c))) h) in
    elim (or_either s t (and_left (s || t) (not (is_settled (f c))) h)) [
      | inl k ↦ called (and_left (is_done (f a)) (reckoned p f c b) k) (and_right (is_done (f a)) (reckoned p f c b) k) u
      | inr k ↦ recalled (and_left (is_done (f b)) (reckoned p f c a) k) (and_right (is_done (f b)) (reckoned p f c a) k) u
    ]

pub grounds_owe : (p : Plan) (f : Fates) (r : Rule) → Owed p f r → owes p f r ≡ true
unfolding owes triggered
grounds_owe p f r (needed d u) = rw (d, u)
grounds_owe p f r (called d e u) = rw (d, e, u)
grounds_owe p f r (recalled {a = a} {b = b} {c = c} d e u) = rw (d, e, u, or_right_true (is_done (f a) && reckoned p f c b))
