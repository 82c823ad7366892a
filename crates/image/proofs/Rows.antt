-- Bytes after rows are written over them, and bytes taken apart into rows.
use Prim.Native.Nat.{ℕ, zero, suc, ◌+◌, ◌≤◌, ◌<◌}
use native.Mathlib.Omega.{arith}
use native.Mathlib.Nat.{zero-add}
use native.Mathlib.Decide.{ℕ_discrete}
use borrow.Author.Tests.{leb-true, lt-ltb}
use mathlib.Core.Bool.{Bool, true, ◌&&◌, ◌||◌}
use mathlib.Core.List.{List, [], ◌∷◌, ◌++◌}
use mathlib.Core.Logic.{◌⊎◌, inl, inr}
use mathlib.Core.Path.{◌≡◌, refl, sym, ◌∙◌, ap}
use lib.Dec.{leb}
use lib.ListN.{length, get_or, take, drop, replicate, length-set, length-replicate, length-drop, get_or-replicate, take-append-drop}
use lib.Seq.{get_or-set_same, get_or-set_other, ext_get_or, get_or-take, get_or-drop, drop-drop, length-take-le}
use Rattle.plan.specs.Base.{tabulate, read_at}
use Rattle.plan.proofs.Tests.{and_left, and_right, or_either}
use Rattle.theory.proofs.Observation.{get_d_tabulate, as_tabulate}
use Rattle.image.specs.Layout.{byte_at}
use Rattle.image.specs.Internal.Writes.{Row, put_to, written, one}

-- arrays read below their length
module _ {A : Type 0} (n : ℕ) (i : ℕ) (d : A) (lt : i < n) where
  pub read_get : (l : List A) → read_at n l i d ≡ get_or l i d
  read_get l = rw (lt-ltb i n lt)

  pub read_tabulate : (g : ℕ → A) → read_at n (tabulate n 0 g) i d ≡ g i
  read_tabulate g = read_get (tabulate n 0 g) ∙ get_d_tabulate n 0 g i d lt ∙ ap g (zero-add i)

-- one row written: the length stays, and so does every byte outside the row
pub length_put : (at : ℕ) (g : ℕ → ℕ) (l : List ℕ) (n : ℕ) → length (put_to at g l n) ≡ length l
unfolding put_to
length_put at g l zero = refl
length_put at g l (suc n) = length-set (put_to at g l n) (at + n) (g n) ∙ length_put at g l n

put_outside : (at : ℕ) (g : ℕ → ℕ) (l : List ℕ) (n k : ℕ)
    → (k < at) ⊎ (at + n ≤ k)
    → byte_at (put_to at g l n) k ≡ byte_at l k
unfolding put_to
put_outside at g l zero k h = refl
put_outside at g l (suc n) k h =
    get_or-set_other (put_to at g l n) (at + n) k (g n) 0 (elim h [ inl x ↦ λ e. omega (arith, e, x) | inr x ↦ λ e. omega (arith, e, x) ])
    ∙ put_outside at g l n k (elim h [ inl x ↦ inl x | inr x ↦ inr (omega (arith, x)) ])

put_inside : (at : ℕ) (g : ℕ → ℕ) (l : List ℕ) (n i : ℕ)
    → at + n ≤ length l
    → i < n
    → byte_at (put_to at g l n) (at + i) ≡ g i
unfolding put_to
put_inside at g l zero i w h = absurd (omega arith)
put_inside at g l (suc n) i w h = elim (ℕ_discrete i n) [
  | yes e ↦ rw e (get_or-set_same (put_to at g l n) (at + n) (g n) 0 (omega (arith, length_put at g l n)))
  | no f ↦
      get_or-set_other (put_to at g l n) (at + n) (at + i) (g n) 0 (λ e. f (omega (arith, e)))
      ∙ put_inside at g l n i (omega arith) (omega (arith, f))
]

-- rows that stay clear of the places from lo up to hi
abbrev pub is_apart : ℕ → ℕ → Row → Bool
is_apart lo hi r = leb hi r.at || leb (r.at + r.len) lo

abbrev pub are_apart : ℕ → ℕ → List Row → Bool
are_apart lo hi [] = true
are_apart lo hi (r ∷ rs) = is_apart lo hi r && are_apart lo hi rs

-- rows that stay clear of each other and end within n places
abbrev pub are_clear : ℕ → List Row → Bool
are_clear n [] = true
are_clear n (r ∷ rs) = (leb (r.at + r.len) n && are_apart r.at (r.at + r.len) rs) && are_clear n rs

pub length_written : (rs : List Row) (b : List ℕ) → length (written rs b) ≡ length b
unfolding written
length_written [] b = refl
length_written (r ∷ rs) b = length_written rs (put_to r.at r.byte b r.len) ∙ length_put r.at r.byte b r.len

-- a byte that no row covers stays
pub written_apart : (lo hi : ℕ) (rs : List Row) (b : List ℕ) (k : ℕ)
    → are_apart lo hi rs ≡ true
    → (lo ≤ k) × (k < hi)
    → byte_at (written rs b) k ≡ byte_at b k
unfolding written
written_apart lo hi [] b k h w = refl
written_apart lo hi (r ∷ rs) b k h w =
    written_apart lo hi rs (put_to r.at r.byte b r.len) k (and_right (is_apart lo hi r) (are_apart lo hi rs) h) w
    ∙ put_outside r.at r.byte b r.len k
    (elim (or_either (leb hi r.at) (leb (r.at + r.len) lo) (and_left (is_apart lo hi r) (are_apart lo hi rs) h)) [
      | inl x ↦ inl (omega (arith, leb-true hi r.at x, w.1))
      | inr x ↦ inr (omega (arith, leb-true (r.at + r.len) lo x, w.0))
    ])

abbrev pub row_of : List Row → ℕ → Row
row_of rs j = get_or rs j (one 0 0)

-- a byte of row j
pub written_row : (rs : List Row) (j : ℕ) (b : List ℕ) (n i : ℕ)
    → length b ≡ n
    → are_clear n rs ≡ true
    → j < length rs
    → i < (row_of rs j).len
    → byte_at (written rs b) ((row_of rs j).at + i) ≡ (row_of rs j).byte i
unfolding written
written_row [] j b n i z h lt w = absurd (omega arith)
written_row (r ∷ rs) zero b n i z h lt w =
    let here = and_left (leb (r.at + r.len) n && are_apart r.at (r.at + r.len) rs) (are_clear n rs) h in
    let room = leb-true (r.at + r.len) n (and_left (leb (r.at + r.len) n) (are_apart r.at (r.at + r.len) rs) here) in
    let clear = and_right (leb (r.at + r.len) n) (are_apart r.at (r.at + r.len) rs) here in
    written_apart r.at (r.at + r.len) rs (put_to r.at r.byte b r.len) (r.at + i) clear (omega arith, omega arith)
    ∙ put_inside r.at r.byte b r.len i (omega (arith, z, room)) w
written_row (r ∷ rs) (suc j) b n i z h lt w =
    written_row rs j (put_to r.at r.byte b r.len) n i (length_put r.at r.byte b r.len ∙ z)
    (and_right (leb (r.at + r.len) n && are_apart r.at (r.at + r.len) rs) (are_clear n rs) h)
    (omega arith) w

-- one row split off: the bytes from a place on are the row and the bytes after it
pub split_off : (at n : ℕ) (g : ℕ → ℕ) (b rest : List ℕ)
    → at + n ≤ length b
    → ((i : ℕ) → i < n → byte_at b (at + i) ≡ g i)
    → drop (at + n) b ≡ rest
    → drop at b ≡ tabulate n 0 g ++ rest
split_off at n g b rest room h e =
    sym (take-append-drop n (drop at b))
    ∙ ap (λ (x : List ℕ). x ++ drop n (drop at b)) front
    ∙ ap (λ (x : List ℕ). tabulate n 0 g ++ x) (drop-drop n at b ∙ e)
  where
    front : take n (drop at b) ≡ tabulate n 0 g
    front =
        as_tabulate n (take n (drop at b)) g 0 (length-take-le n (drop at b) (omega (arith, length-drop at b)))
        (λ k lt. get_or-take n (drop at b) k 0 lt ∙ get_or-drop at b k 0 ∙ h k lt)

-- the last row, of zeros
pub split_last : (at n : ℕ) (b : List ℕ)
    → length b ≡ at + n
    → ((i : ℕ) → i < n → byte_at b (at + i) ≡ 0)
    → drop at b ≡ replicate n 0
split_last at n b z h =
    ext_get_or 0 (drop at b) (replicate n 0) (len ∙ sym (length-replicate n 0))
    (λ k lt. get_or-drop at b k 0 ∙ h k (omega (arith, len, lt)) ∙ sym (get_or-replicate n k 0 0 (omega (arith, len, lt))))
  where
    len : length (drop at b) ≡ n
    len = length-drop at b ∙ omega (arith, z)
