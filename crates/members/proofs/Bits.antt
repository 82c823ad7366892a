-- Sets as the bits of a number: what the operations on numbers make of the tests.
use Prim.Native.Nat.{ℕ, ◌-◌, ◌*◌, ◌%◌, ◌^◌, ◌≤◌, ◌<◌}
use native.Mathlib.Decide.{ℕ_discrete}
use native.Mathlib.Omega.{arith}
use borrow.Author.Tests.{lt-ltb, le-ltb, ltb-true}
use mathlib.Core.Bool.{Bool, true, false, not, ◌&&◌, ◌||◌, and-true, and-false, and_comm as bool-and-comm}
use mathlib.Core.Path.{◌≡◌, ◌∙◌}
use lib.Bits.{bit_and, bit_or}
use lib.Dec.{eqb, ltb}
use mir.Syntax.{w16}
use Rattle.std.proofs.lemmas.Bool.Decides.{nat_tests}
use Rattle.std.proofs.lemmas.Nat.{one_shl, pow_pos}
use Rattle.std.proofs.lemmas.Nat.Bits.{bit_at-lt, bit_at-zero, bit_at_and, bit_at_or, bit_at_not, bit_at_ones, bit_at_ones_above, bit_at_set_same, bit_at_set_other}
use Rattle.plan.proofs.Tests.{and_left, and_right}
use Rattle.members.specs.Sets.{in_set}

-- the operations
module _ (a b x : ℕ) where
  pub in_or : in_set (bit_or a b) x ≡ (in_set a x || in_set b x)
  unfolding in_set
  in_or = grind (arith, nat_tests, bit_at_or a b x, bit_at-lt a x, bit_at-lt b x)

  pub in_and : in_set (bit_and a b) x ≡ (in_set a x && in_set b x)
  unfolding in_set
  in_and = grind (arith, nat_tests, bit_at_and a b x, bit_at-lt a x, bit_at-lt b x)

  pub in_less : b < 2 ^ 16 → in_set (bit_and a (65535 - b)) x ≡ (in_set a x && not (in_set b x))
  unfolding in_set
  in_less fits = grind (arith, nat_tests, bit_at_and a (65535 - b) x, bit_at_not w16 b x fits, bit_at-lt a x, bit_at-lt b x)

-- no event
pub in_zero : (x : ℕ) → in_set 0 x ≡ false
unfolding in_set
in_zero x = rw bit_at-zero (and-false (ltb x 16))

-- the members are among the sixteen
pub in_below : (m x : ℕ) → in_set m x ≡ true → x < 16
unfolding in_set
in_below m x h = ltb-true x 16 (and_left (ltb x 16) _ h)

pub in_past : (m x : ℕ) → 16 ≤ x → in_set m x ≡ false
unfolding in_set
in_past m x h = rw (le-ltb x 16 h)

-- the set of one event, as code makes it
abbrev pub lone : ℕ → ℕ
lone e = 1 * 2 ^ e % 65536

-- the events below a number, as code makes their set
abbrev pub lower : ℕ → ℕ
lower n = lone n - 1

pub in_lower : (n x : ℕ) → n < 16 → in_set (lower n) x ≡ (ltb x 16 && ltb x n)
unfolding in_set
in_lower n x lt = rw (one_shl n 16 lt) (grind (arith, nat_tests, bit_at_ones n x, bit_at_ones_above n x))

-- all sixteen
pub in_full : (x : ℕ) → in_set 65535 x ≡ ltb x 16
unfolding in_set
in_full x = grind (arith, nat_tests, bit_at_ones 16 x)

pub in_all : (n x : ℕ) → 16 ≤ n → in_set 65535 x ≡ (ltb x 16 && ltb x n)
in_all n x ge = in_full x ∙ grind (arith, nat_tests)

-- one event more
pub in_more : (m e x : ℕ) → e < 16 → in_set (bit_or m (lone e)) x ≡ (eqb x e || in_set m x)
unfolding in_set
in_more m e x lt = elim (ℕ_discrete x e) [
  | yes is ↦ grind (arith, nat_tests, bit_at_set_same w16 m e lt)
  | no ne ↦ grind (arith, nat_tests, bit_at_set_other w16 m e lt x ne)
]

pub in_lone : (e x : ℕ) → e < 16 → in_set (lone e) x ≡ eqb x e
in_lone e x lt = in_more 0 e x lt ∙ rw (in_zero x) (grind (arith, nat_tests))

pub lone_some : (n : ℕ) → n < 16 → 1 ≤ lone n
lone_some n lt = rw (one_shl n 16 lt) (pow_pos n)

-- one event more, where told to
module _ (m e : ℕ) (is : Bool) (x : ℕ) where
  pub in_with : (is && ltb e 16) ≡ true
      → in_set (bit_or m (lone e)) x ≡ ((eqb x e && (ltb e 16 && is)) || in_set m x)
  in_with h =
      in_more m e x (ltb-true e 16 (and_right is (ltb e 16) h))
      ∙ rw (and_right is (ltb e 16) h, and_left is (ltb e 16) h, and-true)

  pub in_kept : (is && ltb e 16) ≡ false → in_set m x ≡ ((eqb x e && (ltb e 16 && is)) || in_set m x)
  in_kept h = rw (bool-and-comm (ltb e 16) is, h, and-false)

-- a set made by adding one event to none
pub in_one : (e one : ℕ)
    → e < 16
    → ((x : ℕ) → in_set one x ≡ ((eqb x e && (ltb e 16 && true)) || in_set 0 x))
    → (x : ℕ)
    → in_set one x ≡ eqb x e
in_one e one lt is x = is x ∙ rw (lt-ltb e 16 lt, in_zero x) (grind (arith, nat_tests))
