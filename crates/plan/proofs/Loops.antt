-- Loops over the numbers below a bound, at each of their ends: those that return at the first number that passes a
-- test or gives something, and those that count.
use Prim.Native.Nat.{ℕ, zero, suc, ◌+◌, ◌-◌, ◌≤◌, ◌<◌}
use native.Mathlib.Nat.{le_antisymm, sub-zero}
use native.Mathlib.Numerals.{add-one}
use native.Mathlib.Omega.{arith}
use mathlib.Core.Bool.{Bool, true, false}
use mathlib.Core.Logic.{inl, inr}
use Rattle.std.specs.declared.option.Option.{Option}
use Rattle.std.specs.declared.option.Option.TheVariants.{None as none, Some as some}
use mathlib.Core.Path.{◌≡◌, refl, sym, ◌∙◌, ap}
use mir.Val.{bool_byte}
use Rattle.plan.specs.Base.{any_below, all_below, one_if, count_below, first_of}
use Rattle.plan.proofs.Tests.{any_some, any_next, all_at, either, clash}

-- a loop that returns at the first number that passes: none below i has
module _ (t : ℕ → Bool) where
  pub none_zero : any_below 0 t ≡ false
  unfolding any_below
  none_zero = refl

  pub none_next : (i : ℕ) → any_below i t ≡ false → t i ≡ false → any_below (i + 1) t ≡ false
  none_next i before here = any_next i t ∙ rw (here, before)

any_same : (n : ℕ) (p q : ℕ → Bool) → ((i : ℕ) → p i ≡ q i) → any_below n p ≡ any_below n q
unfolding any_below
any_same zero p q h = refl
any_same (suc n) p q h = rw (h n, any_same n p q h)

-- such a loop comes to what some number below n says, by another test that agrees
module _ (n : ℕ) (t u : ℕ → Bool) (same : (i : ℕ) → t i ≡ u i) (i : ℕ) where
  pub some_hit : i < n → t i ≡ true → true ≡ any_below n u
  some_hit lt here = sym (any_some n u i lt (sym (same i) ∙ here))

  pub none_all : i ≤ n → n ≤ i → any_below i t ≡ false → false ≡ any_below n u
  none_all le ge before = sym before ∙ ap (λ (k : ℕ). any_below k t) (le_antisymm le ge) ∙ any_same n t u same

-- one number fails
pub all_fail : (n : ℕ) (p : ℕ → Bool) (i : ℕ) → i < n → p i ≡ false → all_below n p ≡ false
all_fail n p i lt f = elim (either (all_below n p)) [ inl a ↦ absurd (clash (all_at n p a i lt) f) | inr a ↦ a ]

-- a loop that returns at the first number that gives something: what it gives from x on is what it gives at all
module _ {A : Type 0} (n x : ℕ) (g : ℕ → Option A) where
  pub first_next : x < n → g x ≡ none → first_of (n - x) x g ≡ first_of (n - (x + 1)) (x + 1) g
  unfolding first_of
  first_next lt here =
      let more : n - x ≡ suc (n - (x + 1)) = omega arith in
      rw (more, here, add-one x)

  pub first_here : (a : A) → x < n → g x ≡ some a → first_of (n - x) x g ≡ some a
  unfolding first_of
  first_here a lt here =
      let more : n - x ≡ suc (n - (x + 1)) = omega arith in
      rw (more, here)

  pub first_end : n ≤ x → first_of (n - x) x g ≡ none
  unfolding first_of
  first_end ge =
      let done : n - x ≡ 0 = omega arith in
      rw done

-- the same as an invariant of such a loop: what is found from x on is what is found at all
module _ {A : Type 0} (n : ℕ) (g : ℕ → Option A) where
  abbrev pub Rest : ℕ → Type 0
  Rest x = first_of n 0 g ≡ first_of (n - x) x g

  pub rest_all : Rest 0
  rest_all = rw (sub-zero n)

  module _ (x : ℕ) (before : Rest x) where
    pub rest_next : x < n → g x ≡ none → Rest (x + 1)
    rest_next lt here = before ∙ first_next n x g lt here

-- what is counted among the first i
pub record Counted (t : ℕ → Bool) (n count i : ℕ) : Type 0 where
  pub within : i ≤ n
  pub sum : count ≡ count_below i t
  pub few : count ≤ i

-- a test as a number
pub one_byte : (b : Bool) → bool_byte b ≡ one_if b
one_byte true = refl
one_byte false = refl

pub byte_le : (b : Bool) → bool_byte b ≤ 1
byte_le true = omega arith
byte_le false = omega arith

module _ (t : ℕ → Bool) (n : ℕ) where
  -- before the loop
  pub count_start : Counted t n 0 0
  unfolding count_below
  count_start = record { within = omega arith; sum = refl; few = omega arith }

  module _ (count i : ℕ) (b : Bool) (before : Counted t n count i) (more : i < n) (here : b ≡ t i) where
    next_sum : count + bool_byte b ≡ count_below (i + 1) t
    unfolding count_below
    next_sum = rw (add-one i, ← here) (omega (arith, one_byte b, before.sum))

    -- one number more
    pub count_next : Counted t n (count + bool_byte b) (i + 1)
    count_next = record { within = omega arith; sum = next_sum; few = omega (arith, byte_le b, before.few) }

    -- the sum stays small
    pub count_small : n < 256 → count + bool_byte b < 256
    count_small h = omega (arith, byte_le b, before.few)

  -- after the loop
  pub count_all : (count i : ℕ) → Counted t n count i → n ≤ i → count ≡ count_below n t
  count_all count i c h = c.sum ∙ ap (λ (k : ℕ). count_below k t) (le_antisymm c.within h)
