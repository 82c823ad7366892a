-- Every number of a state's image is a byte, where the state's own numbers are.
use Prim.Native.Nat.{ℕ, zero, suc, ◌+◌, ◌/◌, ◌%◌, ◌≤◌, ◌<◌}
use native.Mathlib.Omega.{arith}
use borrow.Author.Tests.{ltb-true, lt-ltb}
use mathlib.Core.Bool.{Bool, true, ◌&&◌}
use mathlib.Core.List.{List, [], ◌∷◌, ◌++◌}
use mathlib.Core.Path.{◌≡◌, refl}
use lib.Dec.{ltb}
use lib.ListN.{replicate}
use lib.Pow.{are_bytes}
use Rattle.image.specs.Types.{Fate, State, Rule, Order, Need, Conditional}
use Rattle.plan.specs.Base.{one_if, tabulate, all_below}
use Rattle.plan.specs.Fates.{fate_number}
use Rattle.plan.specs.Plans.{event_count, rule_count, step_of, attributes_of, rule_at, window_at}
use Rattle.plan.proofs.Tests.{and_left, and_right, and_both, all_at}
use Rattle.theory.proofs.Conjunctions.{and_three, and_four}
use Rattle.scheduler.specs.State.{fate_of, broken_at, closed_at, line_count}
use Rattle.image.specs.Layout.{rule_kind, rule_a, rule_b, rule_c, place_of, word_byte, row_byte, image_of, is_byte, is_word, place_fits, fits}
use Rattle.image.proofs.Numbers.{fate_low, mark_low}
use Rattle.image.proofs.Words.{word_byte_lem}
use Rattle.image.proofs.Images.{and_six}

bytes_append : (l m : List ℕ) → are_bytes l ≡ true → are_bytes m ≡ true → are_bytes (l ++ m) ≡ true
bytes_append [] m h k = k
bytes_append (x ∷ l) m h k =
    and_both (ltb x 256) (are_bytes (l ++ m)) (and_left (ltb x 256) (are_bytes l) h)
    (bytes_append l m (and_right (ltb x 256) (are_bytes l) h) k)

bytes_tabulate : (n i : ℕ) (g : ℕ → ℕ)
    → ((k : ℕ) → (i ≤ k) × (k < i + n) → is_byte (g k) ≡ true)
    → are_bytes (tabulate n i g) ≡ true
unfolding tabulate
bytes_tabulate zero i g h = refl
bytes_tabulate (suc n) i g h =
    and_both (ltb (g i) 256) (are_bytes (tabulate n (suc i) g)) (h i (omega arith, omega arith))
    (bytes_tabulate n (suc i) g (λ k w. h k (omega (arith, w.0), omega (arith, w.1))))

bytes_zeros : (n : ℕ) → are_bytes (replicate n 0) ≡ true
bytes_zeros zero = refl
bytes_zeros (suc n) = bytes_zeros n

-- a list of bytes, and one row more
record AllBytes (l : List ℕ) : Type 0 where
  are : are_bytes l ≡ true

then : {l : List ℕ} (n : ℕ) (g : ℕ → ℕ)
    → AllBytes l
    → ((k : ℕ) → k < n → is_byte (g k) ≡ true)
    → AllBytes (l ++ tabulate n 0 g)
then {l} n g h at = record { are = bytes_append l (tabulate n 0 g) h.are (bytes_tabulate n 0 g (λ k w. at k (omega (arith, w.1)))) }

then_zeros : {l : List ℕ} (n : ℕ) → AllBytes l → AllBytes (l ++ replicate n 0)
then_zeros {l} n h = record { are = bytes_append l (replicate n 0) h.are (bytes_zeros n) }

fate_byte_lem : (x : Fate) → is_byte (fate_number x) ≡ true
fate_byte_lem x = lt-ltb (fate_number x) 256 (omega (arith, ltb-true (fate_number x) 6 (fate_low x)))

mark_byte_lem : (b : Bool) → is_byte (one_if b) ≡ true
mark_byte_lem b = lt-ltb (one_if b) 256 (omega (arith, ltb-true (one_if b) 2 (mark_low b)))

kind_byte_lem : (r : Rule) → is_byte (rule_kind r) ≡ true
kind_byte_lem (Order a b) = refl
kind_byte_lem (Need a b) = refl
kind_byte_lem (Conditional a b c) = refl

module _ (s : State) (h : fits s ≡ true) where
  counts : (is_byte (event_count s.plan) ≡ true)
      × (is_byte (rule_count s.plan) ≡ true)
      × (is_byte (line_count s) ≡ true)
      × (all_below 16 (place_fits s) ≡ true)
  unfolding fits
  counts = and_four (is_byte (event_count s.plan)) (is_byte (rule_count s.plan)) (is_byte (line_count s)) (all_below 16 (place_fits s)) (and_left (is_byte (event_count s.plan) && is_byte (rule_count s.plan) && is_byte (line_count s) && all_below 16 (place_fits s)) (is_word s.minute) h)

  minute_fits : is_word s.minute ≡ true
  unfolding fits
  minute_fits = and_right (is_byte (event_count s.plan) && is_byte (rule_count s.plan) && is_byte (line_count s) && all_below 16 (place_fits s)) (is_word s.minute) h

  -- the tests of a place before those of its window
  abbrev old_fits : ℕ → Bool
  old_fits i =
      is_byte (step_of s.plan i)
      && is_byte (attributes_of s.plan i)
      && is_byte (rule_a (rule_at s.plan i))
      && is_byte (rule_b (rule_at s.plan i))
      && is_byte (rule_c (rule_at s.plan i))
      && is_byte (place_of s i).event

  parts : (i : ℕ) → i < 16 → (old_fits i ≡ true) × (is_word (window_at s.plan i).from ≡ true) × (is_word (window_at s.plan i).until ≡ true)
  unfolding place_fits
  parts i lt = and_three (old_fits i) (is_word (window_at s.plan i).from) (is_word (window_at s.plan i).until) (all_at 16 (place_fits s) counts.3 i lt)

  places : (i : ℕ) → i < 16
      → (is_byte (step_of s.plan i) ≡ true)
      × (is_byte (attributes_of s.plan i) ≡ true)
      × (is_byte (rule_a (rule_at s.plan i)) ≡ true)
      × (is_byte (rule_b (rule_at s.plan i)) ≡ true)
      × (is_byte (rule_c (rule_at s.plan i)) ≡ true)
      × (is_byte (place_of s i).event ≡ true)
  places i lt = and_six
      (is_byte (step_of s.plan i))
      (is_byte (attributes_of s.plan i))
      (is_byte (rule_a (rule_at s.plan i)))
      (is_byte (rule_b (rule_at s.plan i)))
      (is_byte (rule_c (rule_at s.plan i)))
      (is_byte (place_of s i).event)
      (parts i lt).0

  image_all : AllBytes (image_of s)
  unfolding image_of
  image_all =
      let p = s.plan in
      let head : AllBytes (1 ∷ event_count p ∷ rule_count p ∷ line_count s ∷ []) = record { are = rw (counts.0, counts.1, counts.2) } in
      let steps = then 16 (λ e. step_of p e) head (λ i lt. (places i lt).0) in
      let attributes = then 16 (λ e. attributes_of p e) steps (λ i lt. (places i lt).1) in
      let kinds = then 16 (λ i. rule_kind (rule_at p i)) attributes (λ i lt. kind_byte_lem (rule_at p i)) in
      let firsts = then 16 (λ i. rule_a (rule_at p i)) kinds (λ i lt. (places i lt).2) in
      let seconds = then 16 (λ i. rule_b (rule_at p i)) firsts (λ i lt. (places i lt).3) in
      let thirds = then 16 (λ i. rule_c (rule_at p i)) seconds (λ i lt. (places i lt).4) in
      let fates = then 16 (λ e. fate_number (fate_of s e)) thirds (λ i lt. fate_byte_lem (fate_of s i)) in
      let marks = then 16 (λ i. one_if (broken_at s i)) fates (λ i lt. mark_byte_lem (broken_at s i)) in
      let shuts = then 8 (λ k. one_if (closed_at s k)) marks (λ k lt. mark_byte_lem (closed_at s k)) in
      let lines = then 16 (λ n. (place_of s n).event) shuts (λ i lt. (places i lt).5) in
      let all = then 16 (λ n. fate_number (place_of s n).fate) lines (λ i lt. fate_byte_lem (place_of s i).fate) in
      let minutes = then 4 (λ k. word_byte s.minute k) all (λ k lt. word_byte_lem s.minute k minute_fits lt) in
      let froms = then 64 (λ i. row_byte (λ e. (window_at p e).from) i) minutes (λ i lt. word_byte_lem (window_at p (i / 4)).from (i % 4) (parts (i / 4) (omega arith)).1 (omega arith)) in
      let untils = then 64 (λ i. row_byte (λ e. (window_at p e).until) i) froms (λ i lt. word_byte_lem (window_at p (i / 4)).until (i % 4) (parts (i / 4) (omega arith)).2 (omega arith)) in
      then_zeros 80 untils

  pub image_bytes : are_bytes (image_of s) ≡ true
  image_bytes = image_all.are
