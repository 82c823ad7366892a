-- Elements of an array: past its end, and after a store.
use Prim.Native.Nat.{ℕ, ◌≤◌, ◌<◌}
use native.Mathlib.Omega.{arith}
use native.Mathlib.Decide.{dec_lt}
use borrow.Author.Tests.{lt-ltb, le-ltb}
use mathlib.Core.Bool.{Bool, true, false, cond}
use mathlib.Core.List.{List}
use mathlib.Core.Logic.{◌≢◌}
use mathlib.Core.Path.{◌≡◌, refl, ap}
use lib.Dec.{ltb}
use lib.ListN.{length, get_or, set, replicate, length-set, length-replicate, get_or-replicate, get_or-eq_default}
use lib.Seq.{get_or-set_same, get_or-set_other}
use Rattle.plan.specs.Base.{read_at, store_at}

-- below the end stands the element
pub read_in : {A : Type 0} (n : ℕ) (l : List A) (i : ℕ) (d : A) → i < n → read_at n l i d ≡ get_or l i d
read_in n l i d lt = ap (λ t. cond t (get_or l i d) d) (lt-ltb i n lt)

-- past the end stands the default
pub read_past : {A : Type 0} (n : ℕ) (l : List A) (i : ℕ) (d : A) → n ≤ i → read_at n l i d ≡ d
read_past n l i d ge = ap (λ t. cond t (get_or l i d) d) (le-ltb i n ge)

-- an array of blanks reads blank, at its end and past it
module _ {A : Type 0} (n : ℕ) (a : A) (i : ℕ) where
  pub get_blank : get_or (replicate n a) i a ≡ a
  get_blank = elim (dec_lt i n) [
    | yes lt ↦ get_or-replicate n i a a lt
    | no ge ↦ get_or-eq_default (replicate n a) a {n = i} (omega (arith, length-replicate n a))
  ]

  pub read_blank : read_at n (replicate n a) i a ≡ a
  read_blank = go (ltb i n)
    where
      go : (t : Bool) → cond t (get_or (replicate n a) i a) a ≡ a
      go true = get_blank
      go false = refl

-- after a store
module _ {A : Type 0} (n : ℕ) (l : List A) (i : ℕ) (a : A) where
  pub length_store : length (store_at n l i a) ≡ length l
  length_store = go (ltb i n)
    where
      go : (t : Bool) → length (cond t (set l i a) l) ≡ length l
      go true = length-set l i a
      go false = refl

  module _ (d : A) where
    pub read_same : (i < length l) × (i < n) → read_at n (store_at n l i a) i d ≡ a
    read_same h = rw (lt-ltb i n h.1, get_or-set_same l i a d h.0)

    pub get_other : (j : ℕ) → j ≢ i → get_or (store_at n l i a) j d ≡ get_or l j d
    get_other j ne = go (ltb i n)
      where
        go : (t : Bool) → get_or (cond t (set l i a) l) j d ≡ get_or l j d
        go true = get_or-set_other l i j a d ne
        go false = refl

    pub read_other : (j : ℕ) → j ≢ i → read_at n (store_at n l i a) j d ≡ read_at n l j d
    read_other j ne = ap (λ x. cond (ltb j n) x d) (get_other j ne)
