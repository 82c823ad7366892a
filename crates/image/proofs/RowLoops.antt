-- Loops over rows, at their start and at each turn: bytes that are written from an offset on, and tests of every place.
use Prim.Native.Nat.{ℕ, zero, suc, ◌+◌, ◌*◌, ◌≤◌, ◌<◌}
use native.Mathlib.Numerals.{add-one}
use native.Mathlib.Nat.{le_antisymm, add-zero}
use native.Mathlib.Omega.{arith}
use mathlib.Core.Bool.{Bool, true, false, ◌&&◌, and_comm}
use mathlib.Core.List.{List}
use mathlib.Core.Path.{◌≡◌, refl, sym, ◌∙◌, ap}
use mir.Val.{bool_byte}
use lib.ListN.{length, get_or, set}
use Rattle.std.proofs.Math.Seq.{paste, paste-suc}
use Rattle.std.proofs.lemmas.List.Edits.{paste_none}
use Rattle.plan.specs.Base.{one_if, all_below}
use Rattle.image.specs.Layout.{word_byte, row_byte}
use Rattle.image.specs.Internal.Writes.{put_to}
use Rattle.image.proofs.Words.{row_byte_lem}

-- bytes that are written from an offset on
module _ (at : ℕ) (g : ℕ → ℕ) (l : List ℕ) where
  pub put_none : l ≡ put_to at g l 0
  unfolding put_to
  put_none = refl

  pub put_next : (m : List ℕ) (n a : ℕ) → m ≡ put_to at g l n → a ≡ g n → set m (at + n) a ≡ put_to at g l (n + 1)
  unfolding put_to
  put_next m n a h e =
      rw add-one (ap (λ (x : List ℕ). set x (at + n) a) h ∙ ap (λ (x : ℕ). set (put_to at g l n) (at + n) x) e)

  -- a row of numbers of four bytes each
  put_more : (n m : ℕ) (h : ℕ → ℕ) → ((j : ℕ) → j < m → h j ≡ g (n + j)) → put_to (at + n) h (put_to at g l n) m ≡ put_to at g l (n + m)
  unfolding put_to
  put_more n zero h e = ap (put_to at g l) (sym (add-zero n))
  put_more n (suc m) h e =
      let before = put_more n m h (λ j lt. e j (omega arith)) in
      let place : at + n + m ≡ at + (n + m) = omega arith in
      let next : suc (n + m) ≡ n + suc m = omega arith in
      (λ i. set (before i) (place i) (e m (omega arith) i)) ∙ ap (put_to at g l) next

  put_word : (m k : List ℕ) (n x : ℕ)
      → m ≡ put_to at g l (4 * n)
      → k ≡ put_to (at + 4 * n) (word_byte x) m 4
      → ((j : ℕ) → j < 4 → word_byte x j ≡ g (4 * n + j))
      → k ≡ put_to at g l (4 * (n + 1))
  put_word m k n x h e w =
      let four : 4 * n + 4 ≡ 4 * (n + 1) = omega arith in
      e
      ∙ ap (λ (v : List ℕ). put_to (at + 4 * n) (word_byte x) v 4) h
      ∙ put_more (4 * n) 4 (word_byte x) w
      ∙ ap (put_to at g l) four

pub put_row : (at : ℕ) (f : ℕ → ℕ) (l m k : List ℕ) (n : ℕ)
    → m ≡ put_to at (row_byte f) l (4 * n)
    → k ≡ put_to (at + 4 * n) (word_byte (f n)) m 4
    → k ≡ put_to at (row_byte f) l (4 * (n + 1))
put_row at f l m k n h e = put_word at (row_byte f) l m k n (f n) h e (λ j lt. row_byte_lem f n j lt)

-- as many bytes as a row has
pub put_long : (at : ℕ) (g : ℕ → ℕ) (l : List ℕ) {m : List ℕ} {n k : ℕ} → m ≡ put_to at g l n → n ≡ k → m ≡ put_to at g l k
put_long at g l h e = h ∙ ap (put_to at g l) e

-- bytes that are pasted over those from an offset on
pub put_pasted : (at : ℕ) (s l : List ℕ) (n : ℕ) → n ≤ length s → at + n ≤ length l → paste l at s n ≡ put_to at (λ k. get_or s k 0) l n
unfolding put_to
put_pasted at s l zero le room = sym (paste_none l at s)
put_pasted at s l (suc n) le room =
    sym (paste-suc l at s n 0 (omega arith) (omega arith))
    ∙ ap (λ (x : List ℕ). set x (at + n) (get_or s n 0)) (put_pasted at s l n (omega arith) (omega arith))

-- a mark as a byte
pub mark_one : (b : Bool) → bool_byte b ≡ one_if b
mark_one true = refl
mark_one false = refl

-- tests of every place
module _ (t : ℕ → Bool) where
  pub all_none : true ≡ all_below 0 t
  unfolding all_below
  all_none = refl

  pub all_next : (n : ℕ) (a b : Bool) → b ≡ all_below n t → a ≡ t n → (b && a) ≡ all_below (n + 1) t
  unfolding all_below
  all_next n a b h e = rw add-one (and_comm b a ∙ ap (λ (x : Bool). x && b) e ∙ ap (λ (x : Bool). t n && x) h)

  pub all_all : (k n : ℕ) (b : Bool) → n ≤ k → k ≤ n → b ≡ all_below n t → b ≡ all_below k t
  all_all k n b le ge h = h ∙ ap (λ (x : ℕ). all_below x t) (le_antisymm le ge)
