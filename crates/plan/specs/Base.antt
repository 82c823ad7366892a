-- Tests over the numbers below a bound, the first number that gives a result, and arrays that can be read and written
-- at any index.
use Rattle.std.specs.Prelude.{◌+◌, ◌&&◌, ◌||◌, ◌∷◌}
use Rattle.plan.specs.Prelude.{ℕ, zero, suc, Bool, true, false, cond, List, [], Option, none, some, eqb, ltb, get_or, set}

-- some i < n passes the test
unfoldable pub any_below : ℕ → (ℕ → Bool) → Bool
any_below zero t = false
any_below (suc n) t = t n || any_below n t

-- every i < n passes the test
unfoldable pub all_below : ℕ → (ℕ → Bool) → Bool
all_below zero t = true
all_below (suc n) t = t n && all_below n t

abbrev pub one_if : Bool → ℕ
one_if true = 1
one_if false = 0

-- how many i < n pass the test
unfoldable pub count_below : ℕ → (ℕ → Bool) → ℕ
count_below zero t = 0
count_below (suc n) t = one_if (t n) + count_below n t

-- the numbers below n that pass the test
unfoldable pub those_below : ℕ → (ℕ → Bool) → List ℕ
those_below zero t = []
those_below (suc n) t = elim (t n) [ true ↦ n ∷ those_below n t | false ↦ those_below n t ]

-- x is in the list
unfoldable pub among : ℕ → List ℕ → Bool
among x [] = false
among x (y ∷ ys) = eqb x y || among x ys

module _ {A : Type 0} where
  abbrev pub or_else : Option A → Option A → Option A
  or_else none b = b
  or_else (some a) b = some a

  -- the value if the test passes, else none
  abbrev pub when : Bool → Option A → Option A
  when true a = a
  when false a = none

  -- the result of g at the first of the n numbers i, i + 1, .. that has one
  unfoldable pub first_of : ℕ → ℕ → (ℕ → Option A) → Option A
  first_of zero i g = none
  first_of (suc n) i g = let later = first_of n (suc i) g in or_else (g i) later

  -- the list of g i, g (i + 1), .., with n elements
  unfoldable pub tabulate : ℕ → ℕ → (ℕ → A) → List A
  tabulate zero i g = []
  tabulate (suc n) i g = g i ∷ tabulate n (suc i) g

  -- element i of an array of n elements, or the default if i is past its end. The bound is tested, so that nothing has
  -- to be known of the list's length
  abbrev pub read_at : ℕ → List A → ℕ → A → A
  read_at n l i d = cond (ltb i n) (get_or l i d) d

  -- the array with a stored at i, or unchanged if i is past its end
  abbrev pub store_at : ℕ → List A → ℕ → A → List A
  store_at n l i a = cond (ltb i n) (set l i a) l

-- the lowest i < n that passes the test
unfoldable pub lowest : ℕ → (ℕ → Bool) → Option ℕ
lowest n t = first_of n 0 (λ i. when (t i) (some i))
