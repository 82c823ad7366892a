-- The digits of a number: their budget suffices, and they give the number back.
use Prim.Native.Nat.{ℕ, zero, suc, ◌+◌, ◌*◌, ◌-◌, ◌/◌, ◌%◌, ◌<◌}
use native.Mathlib.Omega.{arith}
use mathlib.Core.Bool.{true, false}
use mathlib.Core.List.{List, [], ◌∷◌, ◌++◌}
use mathlib.Core.Logic.{inl, inr}
use mathlib.Core.Path.{◌≡◌, refl, sym, ◌∙◌}
use borrow.Author.Tests.{ltb-false}
use lib.Dec.{ltb}
use Rattle.scheduler.specs.Runner.{digits, decimal}
use Rattle.plan.proofs.Tests.{either}

-- the last digit, and those before it
module _ (n x : ℕ) where
  one_digit : ltb x 10 ≡ true → digits (suc n) x ≡ (48 + x) ∷ []
  unfolding digits
  one_digit t = rw (t, digits)

  more_digits : ltb x 10 ≡ false → digits (suc n) x ≡ digits n (x / 10) ++ ((48 + x % 10) ∷ [])
  unfolding digits
  more_digits t = rw (t, digits)

-- a tenth of a number above 9 is below it
same_digits : (n m x : ℕ) → x < n → x < m → digits n x ≡ digits m x
same_digits zero m x h k = absurd (omega arith)
same_digits (suc n) zero x h k = absurd (omega arith)
same_digits (suc n) (suc m) x h k = elim (either (ltb x 10)) [
  | inl t ↦ one_digit n x t ∙ sym (one_digit m x t)
  | inr t ↦ rw (more_digits n x t, more_digits m x t, same_digits n m (x / 10) (omega (arith, ltb-false x 10 t)) (omega (arith, ltb-false x 10 t)))
]

pub digits_enough : (n x : ℕ) → x < n → digits n x ≡ decimal x
unfolding decimal
digits_enough n x h = same_digits n (x + 1) x h (omega arith)

-- the number that digits after those of `a` stand for
unfoldable pub value_from : ℕ → List ℕ → ℕ
value_from a [] = a
value_from a (d ∷ ds) = value_from (a * 10 + (d - 48)) ds

value_last : (a d : ℕ) (ds : List ℕ) → value_from a (ds ++ (d ∷ [])) ≡ value_from a ds * 10 + (d - 48)
unfolding value_from
value_last a d [] = refl
value_last a d (x ∷ ds) = value_last (a * 10 + (x - 48)) d ds

value_digits : (n x : ℕ) → x < n → value_from 0 (digits n x) ≡ x
unfolding value_from
value_digits zero x h = absurd (omega arith)
value_digits (suc n) x h = elim (either (ltb x 10)) [
  | inl t ↦ rw (one_digit n x t) (omega arith)
  | inr t ↦ rw (more_digits n x t, value_last, value_digits n (x / 10) (omega (arith, ltb-false x 10 t))) (omega arith)
]

-- the digits give the number back
pub value_decimal : (x : ℕ) → value_from 0 (decimal x) ≡ x
unfolding decimal
value_decimal x = value_digits (x + 1) x (omega arith)
