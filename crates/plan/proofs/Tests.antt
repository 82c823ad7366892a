-- Facts about tests, and about tests over the numbers below a bound.
use Prim.Native.Nat.{ℕ, zero, suc, ◌+◌, ◌≤◌, ◌<◌}
use native.Mathlib.Omega.{arith}
use native.Mathlib.Numerals.{add-one}
use native.Mathlib.Decide.{ℕ_discrete}
use mathlib.Core.Bool.{Bool, true, false, ◌&&◌, ◌||◌}
use Rattle.std.specs.declared.option.Option.{Option}
use Rattle.std.specs.declared.option.Option.TheVariants.{None as none, Some as some}
use mathlib.Core.Path.{◌≡◌, refl, sym}
use mathlib.Core.Logic.{◌≢◌, ◌⊎◌, inl, inr}
pub use Rattle.std.proofs.lemmas.Bool.{and_from as and_both, or_from as or_both, or_cases as or_either, cases_Bool as either}
pub use mathlib.Core.Bool.{or-true as or_right_true}
use Rattle.plan.specs.Base.{any_below, all_below, one_if, count_below, or_else, first_of, when}

pub and_left : (a b : Bool) → (a && b) ≡ true → a ≡ true
and_left true b h = refl
and_left false b h = h

pub and_right : (a b : Bool) → (a && b) ≡ true → b ≡ true
and_right true b h = h
and_right false b h = cc

pub or_left : (a b : Bool) → (a || b) ≡ false → a ≡ false
or_left true b h = h
or_left false b h = refl

pub or_right : (a b : Bool) → (a || b) ≡ false → b ≡ false
or_right true b h = cc
or_right false b h = h

pub and_not : (a b : Bool) → (a && b) ≡ false → a ≡ true → b ≡ false
and_not true b h e = h
and_not false b h e = absurd (let z : ◌≡◌ {A = ℕ} 0 1 = cc in omega arith)

pub clash : {b : Bool} → b ≡ true → b ≡ false → ⊥
clash {b} p q = let z : ◌≡◌ {A = ℕ} 0 1 = cc in omega arith

pub any_false : (n : ℕ) (p : ℕ → Bool) → any_below n p ≡ false → (i : ℕ) → i < n → p i ≡ false
unfolding any_below
any_false zero p h i lt = absurd (omega arith)
any_false (suc n) p h i lt = elim (ℕ_discrete i n) [
  | yes e ↦ rw e (or_left (p n) (any_below n p) h)
  | no ne ↦ any_false n p (or_right (p n) (any_below n p) h) i (omega arith)
]

pub any_none : (n : ℕ) (p : ℕ → Bool) → ((i : ℕ) → i < n → p i ≡ false) → any_below n p ≡ false
unfolding any_below
any_none zero p h = refl
any_none (suc n) p h = or_both (p n) (any_below n p) (h n (omega arith)) (any_none n p (λ i lt. h i (omega arith)))

pub all_at : (n : ℕ) (p : ℕ → Bool) → all_below n p ≡ true → (i : ℕ) → i < n → p i ≡ true
unfolding all_below
all_at zero p h i lt = absurd (omega arith)
all_at (suc n) p h i lt = elim (ℕ_discrete i n) [
  | yes e ↦ rw e (and_left (p n) (all_below n p) h)
  | no ne ↦ all_at n p (and_right (p n) (all_below n p) h) i (omega arith)
]

pub all_of : (n : ℕ) (p : ℕ → Bool) → ((i : ℕ) → i < n → p i ≡ true) → all_below n p ≡ true
unfolding all_below
all_of zero p h = refl
all_of (suc n) p h = and_both (p n) (all_below n p) (h n (omega arith)) (all_of n p (λ i lt. h i (omega arith)))

pub any_some : (n : ℕ) (p : ℕ → Bool) (i : ℕ) → i < n → p i ≡ true → any_below n p ≡ true
unfolding any_below
any_some zero p i lt h = absurd (omega arith)
any_some (suc n) p i lt h =
    elim (ℕ_discrete i n) [ yes e ↦ rw (← e, h) | no ne ↦ rw (any_some n p i (omega arith) h) (or_right_true (p n)) ]

-- a number that passes
pub any_found : (n : ℕ) (p : ℕ → Bool) → any_below n p ≡ true → (i : ℕ) × (i < n) × (p i ≡ true)
unfolding any_below
any_found zero p h = absurd (clash h refl)
any_found (suc n) p h = go (p n) refl (any_found n p)
  where
    go : (b : Bool)
        → p n ≡ b
        → (any_below n p ≡ true → (i : ℕ) × (i < n) × (p i ≡ true))
        → (i : ℕ) × (i < suc n) × (p i ≡ true)
    go true e rec = (n, omega arith, e)
    go false e rec = let r = rec (rw e at h) in (r.0, omega (arith, r.1), r.2)

-- a loop's step: one number more
pub any_next : (n : ℕ) (p : ℕ → Bool) → any_below (n + 1) p ≡ (p n || any_below n p)
unfolding any_below
any_next n p = rw (add-one n)

module _ {A : Type 0} where
  pub or_else-none_left : (a b : Option A) → or_else a b ≡ none → a ≡ none
  or_else-none_left none b h = refl
  or_else-none_left (some a) b h = h

  pub or_else-none_right : (a b : Option A) → or_else a b ≡ none → b ≡ none
  or_else-none_right none b h = h
  or_else-none_right (some a) b h = cc

  -- nothing is found: nothing stands at any of the numbers
  pub first_none : (n i : ℕ) (g : ℕ → Option A) → first_of n i g ≡ none → (k : ℕ) → i ≤ k → k < i + n → g k ≡ none
  unfolding first_of
  first_none zero i g h k lo hi = absurd (omega arith)
  first_none (suc n) i g h k lo hi = elim (ℕ_discrete k i) [
    | yes e ↦ rw e (or_else-none_left (g i) (first_of n (suc i) g) h)
    | no ne ↦ first_none n (suc i) g (or_else-none_right (g i) (first_of n (suc i) g) h) k (omega arith) (omega arith)
  ]

  -- what is found, and where
  pub record FirstFound (n i : ℕ) (g : ℕ → Option A) (a : A) : Type 0 where
    pub place : ℕ
    pub from : i ≤ place
    pub upto : place < i + n
    pub gives : g place ≡ some a
    pub before : (k : ℕ) → i ≤ k → k < place → g k ≡ none

  pub first_some : (n i : ℕ) (g : ℕ → Option A) (a : A) → first_of n i g ≡ some a → FirstFound n i g a
  unfolding first_of
  first_some zero i g a h = absurd (let z : ◌≡◌ {A = ℕ} 0 1 = cc in omega arith)
  first_some (suc n) i g a h = go (g i) refl (first_some n (suc i) g a) h
    where
      go : (o : Option A)
          → g i ≡ o
          → (first_of n (suc i) g ≡ some a → FirstFound n (suc i) g a)
          → or_else o (first_of n (suc i) g) ≡ some a
          → FirstFound (suc n) i g a
      go (some b) e rec q =
          record {
            place = i;
            from = omega arith;
            upto = omega arith;
            gives = cc;
            before = λ k lo hi. absurd (omega arith);
          }
      go none e rec q =
          let r : FirstFound n (suc i) g a = rec q in
          record {
            place = r.place;
            from = omega arith;
            upto = omega arith;
            gives = r.gives;
            before = λ k lo hi. elim (ℕ_discrete k i) [ yes e' ↦ rw e' e | no ne ↦ r.before k (omega arith) hi ];
          }

-- a test that guards a value
module _ {A : Type 0} where
  pub when_none : (b : Bool) (a : Option A) → when b a ≡ none → b ≡ true → a ≡ none
  when_none true a h e = h
  when_none false a h e = cc

  pub when_some : (b : Bool) (a : Option A) (x : A) → when b a ≡ some x → (b ≡ true) × (a ≡ some x)
  when_some true a x h = (refl, h)
  when_some false a x h = absurd (let z : ◌≡◌ {A = ℕ} 0 1 = cc in omega arith)

  pub some_none : {a : A} → ◌≡◌ {A = Option A} (some a) none → ⊥
  some_none {a} h = let z : ◌≡◌ {A = ℕ} 0 1 = cc in omega arith

-- counting
pub one_le : (b : Bool) → one_if b ≤ 1
one_le true = omega arith
one_le false = omega arith

pub count_le : (n : ℕ) (p : ℕ → Bool) → count_below n p ≤ n
unfolding count_below
count_le zero p = omega arith
count_le (suc n) p = omega (arith, count_le n p, one_le (p n))

pub count_same : (n : ℕ) (p q : ℕ → Bool) → ((i : ℕ) → i < n → p i ≡ q i) → count_below n p ≡ count_below n q
unfolding count_below
count_same zero p q h = refl
count_same (suc n) p q h = rw (h n (omega arith), count_same n p q (λ i lt. h i (omega arith)))

pub count_zero : (n : ℕ) (t : ℕ → Bool) → ((e : ℕ) → e < n → t e ≡ false) → count_below n t ≡ 0
unfolding count_below
count_zero zero t h = refl
count_zero (suc n) t h = rw (h n (omega arith), count_zero n t (λ e l. h e (omega arith)))

-- one number more passes
pub count_more : (n : ℕ) (p q : ℕ → Bool) (e : ℕ)
    → e < n
    → p e ≡ false
    → q e ≡ true
    → ((i : ℕ) → i ≢ e → p i ≡ q i)
    → count_below n q ≡ suc (count_below n p)
unfolding count_below
count_more zero p q e lt pe qe h = absurd (omega arith)
count_more (suc n) p q e lt pe qe h = elim (ℕ_discrete e n) [
  | yes r ↦ let pn : p n ≡ false = rw r at pe in let qn : q n ≡ true = rw r at qe in rw (pn, qn, count_same n p q (λ i l. h i (omega arith))) (omega arith)
  | no ne ↦ rw (h n (λ r. ne (sym r)), count_more n p q e (omega arith) pe qe h) (omega arith)
]

-- none passes
pub count_none : (n : ℕ) (p : ℕ → Bool) → count_below n p ≡ 0 → (i : ℕ) → i < n → p i ≡ false
unfolding count_below
count_none zero p h i lt = absurd (omega arith)
count_none (suc n) p h i lt =
    elim (ℕ_discrete i n) [ yes e ↦ rw e (go (p n) refl) | no ne ↦ count_none n p (omega arith) i (omega arith) ]
  where
    go : (b : Bool) → p n ≡ b → p n ≡ false
    go false e = e
    go true e = absurd (let z : 1 + count_below n p ≡ 0 = rw e at h in omega arith)
