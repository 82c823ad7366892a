-- The runner's call records: what stands at an offset, and that a list's records are read back as the list.
use Prim.Native.Nat.{ℕ, zero, suc, ◌+◌, ◌-◌, ◌*◌, ◌/◌, ◌%◌, ◌≤◌, ◌<◌}
use native.Mathlib.Numerals.{add-one}
use native.Mathlib.Omega.{arith}
use mathlib.Core.Bool.{Bool, true, false, ◌&&◌}
use mathlib.Core.List.{List, [], ◌∷◌}
use mathlib.Core.Path.{◌≡◌, refl, sym, ◌∙◌, ap}
use borrow.Author.Tests.{ne_eqb}
use lib.Dec.{ltb}
use lib.ListN.{length, get_or, drop, drop_of_length-le}
use lib.Seq.{drop-cons}
use lib.Pow.{are_bytes}
use Rattle.plan.specs.Prelude.{Call, Submit, Close, Finish, Advance, CallRead, Listed, End, Bad}
use Rattle.plan.specs.Calls.{bytes_of, call_size, call_of, first_call, and_then, decode_up_to, decode, encode}
use Rattle.plan.specs.Records.{word_of}
use Rattle.plan.proofs.Tests.{and_left, and_right, and_both, clash}

-- a kind with a byte after it
module _ (k x : ℕ) where
  pub of_submit : k ≡ 16 → Listed (Submit x) ≡ call_of k x
  of_submit h = rw h

  pub of_close : k ≡ 17 → Listed (Close x) ≡ call_of k x
  of_close h = rw h

  pub of_finish : k ≡ 18 → Listed Finish ≡ call_of k x
  of_finish h = rw h

-- 18 alone, whatever follows
pub finish_first : (b : List ℕ) → first_call (18 ∷ b) ≡ Listed Finish
unfolding first_call
finish_first [] = refl
finish_first (x ∷ b) = refl

-- a kind that no call of the runner has
pub of_another : (k x : ℕ) → (k ≡ 16 → ⊥) → (k ≡ 17 → ⊥) → (k ≡ 18 → ⊥) → Bad ≡ call_of k x
of_another k x p q r = rw (ne_eqb k 16 p, ne_eqb k 17 q, ne_eqb k 18 r, call_of)

another_first : (k : ℕ) (b : List ℕ) → (k ≡ 16 → ⊥) → (k ≡ 17 → ⊥) → (k ≡ 18 → ⊥) → Bad ≡ first_call (k ∷ b)
unfolding first_call
another_first k [] p q r = rw (ne_eqb k 18 r, first_call)
another_first k (x ∷ b) p q r = of_another k x p q r

-- the record at an offset: none is left, or one of a kind k, where x is the byte after it
module _ (b : List ℕ) (at : ℕ) where
  pub none_left : length b ≤ at → End ≡ first_call (drop at b)
  unfolding first_call
  none_left h = rw (drop_of_length-le b h)

  -- two bytes are left, or more
  pub more_left : (r : CallRead)
      → at < length b
      → (length b - at ≡ 1 → ⊥)
      → r ≡ call_of (get_or b at 0) (get_or b (at + 1) 0)
      → r ≡ first_call (drop at b)
  unfolding first_call
  more_left r some_left more is =
      let next : drop (suc at) b ≡ get_or b (at + 1) 0 ∷ drop (suc (suc at)) b = rw (add-one at) (drop-cons b (suc at) 0 (omega arith)) in
      let here : drop at b ≡ get_or b at 0 ∷ get_or b (at + 1) 0 ∷ drop (suc (suc at)) b = drop-cons b at 0 some_left ∙ rw next in
      is ∙ ap first_call (sym here)

  module _ (k : ℕ) (some_left : at < length b) (is : k ≡ get_or b at 0) where
    here : drop at b ≡ k ∷ drop (suc at) b
    here = drop-cons b at 0 some_left ∙ ap (λ (n : ℕ). n ∷ drop (suc at) b) (sym is)

    pub finish_left : k ≡ 18 → Listed Finish ≡ first_call (drop at b)
    finish_left h = rw (here, h) (sym (finish_first (drop (suc at) b)))

    pub another_left : (k ≡ 16 → ⊥) → (k ≡ 17 → ⊥) → (k ≡ 18 → ⊥) → Bad ≡ first_call (drop at b)
    another_left p q r = rw here (another_first k (drop (suc at) b) p q r)

    pub cut_left : length b ≤ at + 1 → (k ≡ 18 → ⊥) → Bad ≡ first_call (drop at b)
    unfolding first_call
    cut_left h r =
        let none : drop (suc at) b ≡ [] = drop_of_length-le b {i = suc at} (omega arith) in
        rw (here, none, ne_eqb k 18 r, first_call)

    module _ (x : ℕ) (more : at + 1 < length b) (next : x ≡ get_or b (at + 1) 0) where
      pub submit_left : k ≡ 16 → Listed (Submit x) ≡ first_call (drop at b)
      submit_left h =
          more_left (Listed (Submit x)) some_left (λ one. omega (arith, more, one)) (rw (← next, ← is, h))

      pub close_left : k ≡ 17 → Listed (Close x) ≡ first_call (drop at b)
      close_left h =
          more_left (Listed (Close x)) some_left (λ one. omega (arith, more, one)) (rw (← next, ← is, h))

-- the branches of the decoding
module _ (first : List ℕ → CallRead) (n : ℕ) (b : List ℕ) where
  pub decode_listed : (c : Call)
      → first b ≡ Listed c
      → decode_up_to first (suc n) b ≡ and_then c (decode_up_to first n (drop (call_size c) b))
  unfolding decode_up_to
  decode_listed c h = rw (h, decode_up_to)

  pub decode_end : first b ≡ End → decode_up_to first (suc n) b ≡ record { calls = []; cut = false }
  unfolding decode_up_to
  decode_end h = rw (h, decode_up_to)

  pub decode_bad : first b ≡ Bad → decode_up_to first (suc n) b ≡ record { calls = []; cut = true }
  unfolding decode_up_to
  decode_bad h = rw (h, decode_up_to)

-- the numbers in a list's calls are bytes, and none moves the minute: the calls that the runner's file can list
unfoldable pub byte_numbers : List Call → Bool
byte_numbers [] = true
byte_numbers (Submit e ∷ cs) = ltb e 256 && byte_numbers cs
byte_numbers (Close k ∷ cs) = ltb k 256 && byte_numbers cs
byte_numbers (Finish ∷ cs) = byte_numbers cs
byte_numbers (Advance m ∷ cs) = false

-- with a budget of as many records as calls, or more
read_back : (n : ℕ) (cs : List Call)
    → byte_numbers cs ≡ true
    → length (encode cs) ≤ n
    → decode_up_to first_call n (encode cs) ≡ record { calls = cs; cut = false }
unfolding decode_up_to encode first_call byte_numbers
read_back zero [] b h = refl
read_back (suc n) [] b h = refl
read_back zero (Submit e ∷ cs) b h = absurd (omega arith)
read_back zero (Close k ∷ cs) b h = absurd (omega arith)
read_back zero (Finish ∷ cs) b h = absurd (omega arith)
read_back zero (Advance m ∷ cs) b h = absurd (clash b refl)
read_back (suc n) (Submit e ∷ cs) b h = ap (and_then (Submit e)) (read_back n cs (and_right (ltb e 256) (byte_numbers cs) b) (omega arith))
read_back (suc n) (Close k ∷ cs) b h = ap (and_then (Close k)) (read_back n cs (and_right (ltb k 256) (byte_numbers cs) b) (omega arith))
read_back (suc n) (Finish ∷ cs) b h =
    decode_listed first_call n (18 ∷ encode cs) Finish (finish_first (encode cs))
    ∙ ap (and_then Finish) (read_back n cs b (omega arith))
read_back (suc n) (Advance m ∷ cs) b h = absurd (clash b refl)

pub decode_encode : (cs : List Call) → byte_numbers cs ≡ true → decode (encode cs) ≡ record { calls = cs; cut = false }
unfolding decode
decode_encode cs b = read_back (length (encode cs)) cs b (omega arith)

-- their records are bytes
pub encode_bytes : (cs : List Call) → byte_numbers cs ≡ true → are_bytes (encode cs) ≡ true
unfolding encode byte_numbers
encode_bytes [] b = refl
encode_bytes (Submit e ∷ cs) b =
    and_both (ltb e 256) (are_bytes (encode cs)) (and_left (ltb e 256) (byte_numbers cs) b) (encode_bytes cs (and_right (ltb e 256) (byte_numbers cs) b))
encode_bytes (Close k ∷ cs) b =
    and_both (ltb k 256) (are_bytes (encode cs)) (and_left (ltb k 256) (byte_numbers cs) b) (encode_bytes cs (and_right (ltb k 256) (byte_numbers cs) b))
encode_bytes (Finish ∷ cs) b = encode_bytes cs b
encode_bytes (Advance m ∷ cs) b = absurd (clash b refl)

-- four bytes give their number back, and a number its four bytes
pub word_back : (m : ℕ) → word_of (m % 256) (m / 256 % 256) (m / 65536 % 256) (m / 16777216) ≡ m
word_back m = omega arith

lowest : (a t : ℕ) → a < 256 → (a + 256 * t) % 256 ≡ a
lowest a t h = omega arith

above : (a t : ℕ) → a < 256 → (a + 256 * t) / 256 ≡ t
above a t h = omega arith

above_two : (a b t : ℕ) → a < 256 → b < 256 → (a + 256 * (b + 256 * t)) / 65536 ≡ t
above_two a b t h k = omega arith

above_three : (a b c t : ℕ) → a < 256 → b < 256 → c < 256 → (a + 256 * (b + 256 * (c + 256 * t))) / 16777216 ≡ t
above_three a b c t h k l = omega arith

pub bytes_back : (a b c d : ℕ) → a < 256 → b < 256 → c < 256 → bytes_of (word_of a b c d) ≡ a ∷ b ∷ c ∷ d ∷ []
bytes_back a b c d ha hb hc =
    let p = lowest a (b + 256 * (c + 256 * d)) ha in
    let q = ap (λ (x : ℕ). x % 256) (above a (b + 256 * (c + 256 * d)) ha) ∙ lowest b (c + 256 * d) hb in
    let r = ap (λ (x : ℕ). x % 256) (above_two a b (c + 256 * d) ha hb) ∙ lowest c d hc in
    let s = above_three a b c d ha hb hc in
    λ i. p i ∷ q i ∷ r i ∷ s i ∷ []

-- the bytes that list these calls
pub decoded : (cs : List Call)
    → byte_numbers cs ≡ true
    → (b : List ℕ) × (are_bytes b ≡ true) × (decode b ≡ record { calls = cs; cut = false })
decoded cs h = (encode cs, encode_bytes cs h, decode_encode cs h)
