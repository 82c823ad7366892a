-- Numbers of four bytes, one and in a row, and back.
use Prim.Native.Nat.{ℕ, zero, suc, ◌+◌, ◌*◌, ◌/◌, ◌%◌, ◌<◌}
use native.Mathlib.Omega.{arith}
use native.Mathlib.Nat.{add-zero}
use borrow.Author.Tests.{ltb-true, lt-ltb}
use mathlib.Core.Bool.{true}
use mathlib.Core.List.{List, [], ◌∷◌}
use mathlib.Core.Path.{◌≡◌, refl, sym, ◌∙◌, ap}
use lib.ListN.{get_or}
use Rattle.std.proofs.Common.{w32}
use Rattle.std.specs.Int.{to_le_bytes}
use Rattle.plan.specs.Records.{word_of, word_at}
use Rattle.plan.specs.Calls.{bytes_of}
use Rattle.plan.proofs.CallRecords.{word_back, bytes_back}
use Rattle.plan.specs.Base.{all_below}
use Rattle.plan.proofs.Tests.{all_of}
use Rattle.image.specs.Layout.{byte_at, minute_at, word_byte, row_byte, is_byte, is_word, word_ok}

-- the library's bytes of a number below 2^32
pub low_first : (m : ℕ) → m < 4294967296 → to_le_bytes w32 m ≡ bytes_of m
low_first m lt =
    let top : m / 16777216 % 256 ≡ m / 16777216 = omega arith in
    ap (λ (x : ℕ). m % 256 ∷ m / 256 % 256 ∷ m / 65536 % 256 ∷ x ∷ []) top

-- bytes that show a number say it
pub word_said : (b : List ℕ) (at m : ℕ) → ((k : ℕ) → k < 4 → byte_at b (at + k) ≡ word_byte m k) → word_at b at ≡ m
word_said b at m h =
    let zeroth : byte_at b at ≡ m % 256 = ap (byte_at b) (sym (add-zero at)) ∙ h 0 (omega arith) in
    (λ i. word_of (zeroth i) (h 1 (omega arith) i) (h 2 (omega arith) i) (h 3 (omega arith) i)) ∙ word_back m

pub row_said : (b : List ℕ) (at n : ℕ) (f : ℕ → ℕ)
    → ((i : ℕ) → i < 4 * n → byte_at b (at + i) ≡ row_byte f i)
    → (e : ℕ)
    → e < n
    → word_at b (at + 4 * e) ≡ f e
row_said b at n f h e lt = word_said b (at + 4 * e) (f e) byte
  where
    byte : (k : ℕ) → k < 4 → byte_at b (at + 4 * e + k) ≡ word_byte (f e) k
    byte k lk =
        let there : at + 4 * e + k ≡ at + (4 * e + k) = omega arith in
        let q : (4 * e + k) / 4 ≡ e = omega arith in
        let r : (4 * e + k) % 4 ≡ k = omega arith in
        ap (byte_at b) there ∙ h (4 * e + k) (omega arith) ∙ (λ i. word_byte (f (q i)) (r i))

pub row_byte_lem : (f : ℕ → ℕ) (n j : ℕ) → j < 4 → word_byte (f n) j ≡ row_byte f (4 * n + j)
row_byte_lem f n j lt =
    let q : n ≡ (4 * n + j) / 4 = omega arith in
    let r : j ≡ (4 * n + j) % 4 = omega arith in
    λ i. word_byte (f (q i)) (r i)

-- the lower three of the four from a place on are bytes
abbrev pub Low : List ℕ → ℕ → Type 0
Low b at = (is_byte (byte_at b at) ≡ true) × (is_byte (byte_at b (at + 1)) ≡ true) × (is_byte (byte_at b (at + 2)) ≡ true)

pub word_shown : (b : List ℕ) (at : ℕ) → Low b at → (k : ℕ) → k < 4 → byte_at b (at + k) ≡ word_byte (word_at b at) k
word_shown b at w k lt = sym (ap (λ (l : List ℕ). get_or l k 0) back ∙ go k lt)
  where
    back : bytes_of (word_at b at) ≡ byte_at b at ∷ byte_at b (at + 1) ∷ byte_at b (at + 2) ∷ byte_at b (at + 3) ∷ []
    back =
        bytes_back (byte_at b at) (byte_at b (at + 1)) (byte_at b (at + 2)) (byte_at b (at + 3))
        (ltb-true (byte_at b at) 256 w.0)
        (ltb-true (byte_at b (at + 1)) 256 w.1)
        (ltb-true (byte_at b (at + 2)) 256 w.2)

    go : (k : ℕ) → k < 4 → get_or (byte_at b at ∷ byte_at b (at + 1) ∷ byte_at b (at + 2) ∷ byte_at b (at + 3) ∷ []) k 0 ≡ byte_at b (at + k)
    go zero lt = ap (byte_at b) (sym (add-zero at))
    go (suc zero) lt = refl
    go (suc (suc zero)) lt = refl
    go (suc (suc (suc zero))) lt = refl
    go (suc (suc (suc (suc k)))) lt = absurd (omega arith)

pub row_shown : (b : List ℕ) (at n : ℕ)
    → ((e : ℕ) → e < n → Low b (at + 4 * e))
    → (i : ℕ)
    → i < 4 * n
    → byte_at b (at + i) ≡ row_byte (λ e. word_at b (at + 4 * e)) i
row_shown b at n h i lt =
    let there : at + i ≡ at + 4 * (i / 4) + i % 4 = omega arith in
    ap (byte_at b) there ∙ word_shown b (at + 4 * (i / 4)) (h (i / 4) (omega arith)) (i % 4) (omega arith)

-- the lower three bytes of a number are bytes, and of a number below 2^32 all four
pub word_low : (m : ℕ) → (is_byte (word_byte m 0) ≡ true) × (is_byte (word_byte m 1) ≡ true) × (is_byte (word_byte m 2) ≡ true)
word_low m = (lt-ltb (m % 256) 256 (omega arith), lt-ltb (m / 256 % 256) 256 (omega arith), lt-ltb (m / 65536 % 256) 256 (omega arith))

pub word_byte_lem : (m k : ℕ) → is_word m ≡ true → k < 4 → is_byte (word_byte m k) ≡ true
word_byte_lem m zero h lt = (word_low m).0
word_byte_lem m (suc zero) h lt = (word_low m).1
word_byte_lem m (suc (suc zero)) h lt = (word_low m).2
word_byte_lem m (suc (suc (suc zero))) h lt = lt-ltb (m / 16777216) 256 (omega (arith, ltb-true m 4294967296 h))
word_byte_lem m (suc (suc (suc (suc k)))) h lt = absurd (omega arith)

-- the lower three bytes of every number of four bytes pass their test, since all bytes do
pub words_pass : (b : List ℕ) → ((k : ℕ) → byte_at b k < 256) → all_below 33 (word_ok b) ≡ true
unfolding word_ok
words_pass b h = all_of 33 (word_ok b) (λ e lt.
    rw (
      lt-ltb (byte_at b (minute_at + 4 * e)) 256 (h (minute_at + 4 * e)),
      lt-ltb (byte_at b (minute_at + 4 * e + 1)) 256 (h (minute_at + 4 * e + 1)),
      lt-ltb (byte_at b (minute_at + 4 * e + 2)) 256 (h (minute_at + 4 * e + 2)),
    ) refl)
