-- The first place at which something is given, and the lowest number that passes a test.
use Prim.Native.Nat.{ℕ, zero, suc, ◌+◌, ◌≤◌, ◌<◌}
use native.Mathlib.Omega.{arith}
use native.Mathlib.Decide.{ℕ_discrete, dec_lt}
use borrow.Author.Tests.{lt-ltb, ltb-true}
use mathlib.Core.Bool.{Bool, true, false, ◌&&◌}
use Rattle.std.specs.declared.option.Option.{Option}
use Rattle.std.specs.declared.option.Option.TheVariants.{None as none, Some as some}
use mathlib.Core.Path.{◌≡◌, refl, sym, ◌∙◌, ap, subst}
use lib.Dec.{ltb}
use Rattle.plan.specs.Base.{first_of, lowest, when}
use Rattle.plan.proofs.Tests.{and_left, and_right, and_both, clash, first_none, first_some, when_none, when_some, some_none}
use Rattle.orders.proofs.Grounds.{refuted}

-- the first of several places at which something is given, and that there is none
pub first_at : {A : Type 0} (n i : ℕ) (g : ℕ → Option A) (k : ℕ) (a : A)
    → i ≤ k
    → k < i + n
    → g k ≡ some a
    → ((j : ℕ) → i ≤ j → j < k → g j ≡ none)
    → first_of n i g ≡ some a
unfolding first_of
first_at zero i g k a lo hi h before = absurd (omega arith)
first_at (suc n) i g k a lo hi h before = elim (ℕ_discrete i k) [
  | yes q ↦ rw (subst (λ (v : ℕ). g v ≡ some a) (sym q) h)
  | no ne ↦ rw (before i (omega arith) (omega arith)) (first_at n (suc i) g k a (omega arith) (omega arith) h (λ j lo hi. before j (omega arith) hi))
]

pub first_nowhere : {A : Type 0} (n i : ℕ) (g : ℕ → Option A) → ((j : ℕ) → i ≤ j → j < i + n → g j ≡ none) → first_of n i g ≡ none
unfolding first_of
first_nowhere zero i g h = refl
first_nowhere (suc n) i g h =
    rw (h i (omega arith) (omega arith), first_nowhere n (suc i) g (λ j lo hi. h j (omega arith) (omega arith)))

-- the lowest number that passes a test
pub record Lowest (n : ℕ) (t : ℕ → Bool) (x : ℕ) : Type 0 where
  pub below : x < n
  pub passes : t x ≡ true
  pub least : (y : ℕ) → y < n → t y ≡ true → x ≤ y

pub lowest_some : (n : ℕ) (t : ℕ → Bool) (x : ℕ) → lowest n t ≡ some x → Lowest n t x
unfolding lowest
lowest_some n t x h =
    let q = first_some n 0 _ x h in
    let w = when_some (t q.place) (some q.place) x q.gives in
    let z : q.place ≡ x = cc w.1 in
    record { below = omega (arith, q.upto); passes = rw (← z) w.0; least = λ y lt u. elim (dec_lt y x) [ no ge ↦ omega arith | yes k ↦ absurd (some_none (when_none (t y) (some y) (q.before y (omega arith) (omega arith)) u)) ] }

pub lowest_none : (n : ℕ) (t : ℕ → Bool) → lowest n t ≡ none → (x : ℕ) → x < n → t x ≡ false
unfolding lowest
lowest_none n t h x lt = refuted (t x) (λ u. some_none (when_none (t x) (some x) (first_none n 0 (λ i. when (t i) (some i)) h x (omega arith) (omega arith)) u))

pub lowest_any : (n : ℕ) (t : ℕ → Bool) (y : ℕ) → y < n → t y ≡ true → (x : ℕ) × (lowest n t ≡ some x)
lowest_any n t y lt u = go (lowest n t) refl
  where
    go : (o : Option ℕ) → lowest n t ≡ o → (x : ℕ) × (lowest n t ≡ some x)
    go (some x) e = (x, e)
    go none e = absurd (clash u (lowest_none n t e y lt))

-- tests that agree have the same lowest
pub first_alike : {A : Type 0} (n i : ℕ) (g h : ℕ → Option A)
    → ((j : ℕ) → i ≤ j → j < i + n → g j ≡ h j)
    → first_of n i g ≡ first_of n i h
unfolding first_of
first_alike zero i g h same = refl
first_alike (suc n) i g h same =
    rw (same i (omega arith) (omega arith), first_alike n (suc i) g h (λ j lo hi. same j (omega arith) (omega arith)))

pub lowest_alike : (n : ℕ) (t u : ℕ → Bool) → ((x : ℕ) → x < n → t x ≡ u x) → lowest n t ≡ lowest n u
unfolding lowest
lowest_alike n t u same = first_alike n 0 _ _ (λ j lo hi. rw (same j (omega arith)))

-- tests that pass of the same numbers, each below its bound, have the same lowest
pub lowest_bounds : (n m : ℕ) (t u : ℕ → Bool) → ((x : ℕ) → (ltb x n && t x) ≡ (ltb x m && u x)) → lowest n t ≡ lowest m u
lowest_bounds n m t u same = go (lowest n t) refl (lowest m u) refl
  where
    there : (a b : ℕ) (v w : ℕ → Bool) → ((x : ℕ) → (ltb x a && v x) ≡ (ltb x b && w x)) → (x : ℕ) → x < a → v x ≡ true → (x < b) × (w x ≡ true)
    there a b v w eq x lt h =
        let both = sym (eq x) ∙ and_both (ltb x a) (v x) (lt-ltb x a lt) h in
        (ltb-true x b (and_left (ltb x b) (w x) both), and_right (ltb x b) (w x) both)

    go : (p : Option ℕ) → lowest n t ≡ p → (q : Option ℕ) → lowest m u ≡ q → lowest n t ≡ lowest m u
    go none e none f = e ∙ sym f
    go (some x) e none f = let l = lowest_some n t x e in let w = there n m t u same x l.below l.passes in absurd (clash w.1 (lowest_none m u f x w.0))
    go none e (some y) f = let l = lowest_some m u y f in let w = there m n u t (λ x. sym (same x)) y l.below l.passes in absurd (clash w.1 (lowest_none n t e y w.0))
    go (some x) e (some y) f =
        let l = lowest_some n t x e in
        let k = lowest_some m u y f in
        let w = there n m t u same x l.below l.passes in
        let v = there m n u t (λ z. sym (same z)) y k.below k.passes in
        let q : x ≡ y = omega (arith, l.least y v.0 v.1, k.least x w.0 w.1) in
        e ∙ ap {B = Option ℕ} some q ∙ sym f
