-- A number's decimal digits: their text, and how many there are.
use Prim.Native.Nat.{ℕ, ◌+◌, ◌/◌, ◌%◌, ◌≤◌, ◌<◌}
use native.Mathlib.Numerals.{add-one}
use native.Mathlib.Omega.{arith}
use mathlib.Core.List.{[], ◌∷◌, ◌++◌}
use mathlib.Core.Path.{◌≡◌, ◌∙◌, ap}
use lib.ListN.{length, length-append}
use borrow.Author.Tests.{lt-ltb, le-ltb}
use Rattle.scheduler.specs.Runner.{digits, decimal}
use Rattle.scheduler.proofs.Decimals.{digits_enough}

-- a number below 10 is one digit, and any other has the digits of its tenth first
pub decimal_one : (x : ℕ) → x < 10 → decimal x ≡ (48 + x) ∷ []
unfolding decimal digits
decimal_one x h = rw (add-one x, lt-ltb x 10 h, digits)

pub decimal_low : (x : ℕ) → x < 10 → decimal x ≡ (48 + x % 10) ∷ []
decimal_low x h = let same : x ≡ x % 10 = omega arith in decimal_one x h ∙ ap (λ (d : ℕ). (48 + d) ∷ []) same

pub decimal_more : (x : ℕ) → 10 ≤ x → decimal x ≡ decimal (x / 10) ++ ((48 + x % 10) ∷ [])
unfolding decimal digits
decimal_more x h = rw (add-one x, le-ltb x 10 h, digits, digits_enough x (x / 10) (omega arith), decimal)

-- so many digits
pub length_one : (x : ℕ) → x < 10 → length (decimal x) ≡ 1
length_one x h = ap length (decimal_one x h)

pub length_more : (x : ℕ) → 10 ≤ x → length (decimal x) ≡ length (decimal (x / 10)) + 1
length_more x h = ap length (decimal_more x h) ∙ length-append (decimal (x / 10)) ((48 + x % 10) ∷ [])
