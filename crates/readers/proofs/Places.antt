-- What is read of an array of 16, and what is counted in one, in the words of the readers' answers.
use Rattle.std.proofs.Common.{◌≡◌, ℕ, ◌<◌, ◌+◌, zero, suc, Bool, true, false, ◌&&◌, cond, ltb, List, length, get_or, take, Some, None, option_map, slice_get, count_by, refl, sym, ◌∙◌, ap, arith, lt-ltb, le-ltb, add-one, zero-add}
use native.Mathlib.Decide.{dec_lt}
use Rattle.std.proofs.lemmas.List.{take_all}
use Rattle.std.proofs.lemmas.List.Sums.{count_by_more_yes, count_by_more_no}
use Rattle.std.proofs.lemmas.Option.{slice_get-get_or, slice_get_past}
use Rattle.plan.specs.Base.{read_at, one_if, count_below}
use Rattle.plan.proofs.Arrays.{read_in, read_past}
use Rattle.readers.specs.Readers.{declared_below}

-- a place of an array
pub place_is : {A : Type 0} (n : ℕ) (xs : List A) (i : ℕ) (d : A)
    → length xs ≡ n
    → slice_get xs i ≡ cond (ltb i n) (Some (read_at n xs i d)) None
place_is n xs i d long = elim (dec_lt i n) [
  | yes lt ↦ rw (lt-ltb i n lt) (slice_get-get_or xs i d (omega arith))
  | no ge ↦ rw (le-ltb i n (omega arith)) (slice_get_past xs i (omega arith))
]

-- a place of an array of 16, if it is among the first n
pub declared_is : {A : Type 0} (xs : List A) (n i : ℕ) (d : A)
    → length xs ≡ 16
    → cond (ltb i n) (slice_get xs i) None ≡ cond (declared_below n i) (Some (read_at 16 xs i d)) None
declared_is xs n i d long = rw (place_is 16 xs i d long) (go (ltb i n))
  where
    go : (t : Bool)
        → cond t (cond (ltb i 16) (Some (read_at 16 xs i d)) None) None ≡ cond (t && ltb i 16) (Some (read_at 16 xs i d)) None
    go true = refl
    go false = refl

-- the same of a part of what stands there
pub map_cond : {A B : Type 0} (f : A → B) (t : Bool) (x : A)
    → option_map f (cond t (Some x) None) ≡ cond t (Some (f x)) None
map_cond f true x = refl
map_cond f false x = refl

-- how many of the first n places of an array of 16 pass a test that the blank fails
module _ {A : Type 0} (p : A → Bool) (xs : List A) (d : A) (long : length xs ≡ 16) (blank : p d ≡ false) where
  abbrev passes : ℕ → Bool
  passes i = p (read_at 16 xs i d)

  one_more : (n : ℕ) → count_by p (take (suc n) xs) ≡ one_if (passes n) + count_by p (take n xs)
  one_more n = elim (dec_lt n 16) [
    | yes lt ↦ rw (read_in 16 xs n d lt) (inside (p (get_or xs n d)) refl (omega arith))
    | no ge ↦
        rw (read_past 16 xs n d (omega arith), blank, take_all (suc n) xs (omega arith), take_all n xs (omega arith))
        (sym (zero-add _))
  ]
    where
      inside : (t : Bool) → p (get_or xs n d) ≡ t → n < length xs
          → count_by p (take (suc n) xs) ≡ one_if t + count_by p (take n xs)
      inside true h lt = omega (arith, rw add-one at (count_by_more_yes p xs n d lt h))
      inside false h lt = omega (arith, rw add-one at (count_by_more_no p xs n d lt h))

  pub count_is : (n : ℕ) → count_by p (take n xs) ≡ count_below n passes
  unfolding count_below
  count_is zero = refl
  count_is (suc n) = one_more n ∙ ap (λ k. one_if (passes n) + k) (count_is n)
