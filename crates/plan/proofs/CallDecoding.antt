-- Decoding call records: any budget that passes the bytes does, and a record is taken from the front.
use Prim.Native.Nat.{ℕ, zero, suc, ◌≤◌}
use native.Mathlib.Omega.{arith}
use mathlib.Core.Bool.{Bool, true, false}
use borrow.Author.Tests.{ltb-false}
use mathlib.Core.List.{List, [], ◌∷◌}
use mathlib.Core.Logic.{inl, inr}
use mathlib.Core.Path.{◌≡◌, refl, sym, ◌∙◌, ap}
use lib.Dec.{eqb, ltb}
use lib.ListN.{length, drop, length-drop}
use Rattle.plan.specs.Prelude.{Call, Submit, Close, Finish, Advance, CallRead, Listed, End, Bad}
use Rattle.plan.specs.Calls.{call_size, call_of, first_call, advance_in, any_call_first, Decoded, and_then, decode_up_to, decode, decode_all}
use Rattle.plan.proofs.Tests.{either}
use Rattle.plan.proofs.CallRecords.{decode_listed, decode_end, decode_bad}

-- a record takes a byte or more; one of the runner's at most two, and they are there
pub size_some : (c : Call) → 1 ≤ call_size c
size_some (Submit e) = omega arith
size_some (Close k) = omega arith
size_some Finish = omega arith
size_some (Advance m) = omega arith

size_few : (k x : ℕ) (c : Call) → call_of k x ≡ Listed c → call_size c ≤ 2
size_few k x c h = go (eqb k 16) refl (eqb k 17) refl (eqb k 18) refl
  where
    go : (t : Bool) → eqb k 16 ≡ t → (u : Bool) → eqb k 17 ≡ u → (v : Bool) → eqb k 18 ≡ v → call_size c ≤ 2
    go true e u f v g = let same : Submit x ≡ c = cc (rw (e, call_of) at h) in rw (← same) (omega arith)
    go false e true f v g = let same : Close x ≡ c = cc (rw (e, f, call_of) at h) in rw (← same) (omega arith)
    go false e false f true g = let same : Finish ≡ c = cc (rw (e, f, g, call_of) at h) in rw (← same) (omega arith)
    go false e false f false g = absurd (let z : ◌≡◌ {A = ℕ} 0 1 = cc (rw (e, f, g, call_of) at h) in omega arith)

listed_inside : (b : List ℕ) (c : Call) → first_call b ≡ Listed c → call_size c ≤ length b
unfolding first_call
listed_inside [] c h = absurd (let z : ◌≡◌ {A = ℕ} 0 1 = cc in omega arith)
listed_inside (k ∷ []) c h = go (eqb k 18) refl
  where
    go : (t : Bool) → eqb k 18 ≡ t → call_size c ≤ 1
    go true e = let same : Finish ≡ c = cc (rw (e, first_call) at h) in rw (← same) (omega arith)
    go false e = absurd (let z : ◌≡◌ {A = ℕ} 0 1 = cc (rw (e, first_call) at h) in omega arith)
listed_inside (k ∷ x ∷ b) c h = omega (arith, size_few k x c h)

-- so are those of a move of the minute
advance_size : (m : ℕ) (c : Call) → Listed (Advance m) ≡ Listed c → call_size c ≡ 5
advance_size m c h = let same : Advance m ≡ c = cc in rw (← same) refl

advance_inside : (b : List ℕ) (c : Call) → advance_in b ≡ Listed c → call_size c ≤ suc (length b)
unfolding advance_in
advance_inside b c h = elim (either (ltb (length b) 4)) [
  | inl t ↦ absurd (let z : ◌≡◌ {A = ℕ} 0 1 = cc (rw (t, advance_in) at h) in omega arith)
  | inr f ↦ omega (arith, advance_size _ c (rw (f, advance_in) at h), ltb-false (length b) 4 f)
]

any_inside : (b : List ℕ) (c : Call) → any_call_first b ≡ Listed c → call_size c ≤ length b
unfolding any_call_first
any_inside [] c h = absurd (let z : ◌≡◌ {A = ℕ} 0 1 = cc in omega arith)
any_inside (k ∷ b) c h = elim (either (eqb k 19)) [
  | inl t ↦ advance_inside b c (rw (t, any_call_first) at h)
  | inr f ↦ listed_inside (k ∷ b) c (rw (f, any_call_first) at h)
]

-- what a reading of the first record has: no bytes are their end, and a record is there
record Reads (first : List ℕ → CallRead) : Type 0 where
  empty : first [] ≡ End
  inside : (b : List ℕ) (c : Call) → first b ≡ Listed c → call_size c ≤ length b

runner_reads : Reads first_call
unfolding first_call
runner_reads = record { empty = refl; inside = listed_inside }

any_reads : Reads any_call_first
unfolding any_call_first
any_reads = record { empty = refl; inside = any_inside }

module _ (first : List ℕ → CallRead) (reads : Reads first) where
  -- nothing is left
  empty_decoding : (m : ℕ) → decode_up_to first m [] ≡ record { calls = []; cut = false }
  unfolding decode_up_to
  empty_decoding zero = refl
  empty_decoding (suc m) = decode_end first m [] reads.empty

  none_decoded : (n m : ℕ) (b : List ℕ) → length b ≤ 0 → decode_up_to first n b ≡ decode_up_to first m b
  none_decoded n m [] h = empty_decoding n ∙ sym (empty_decoding m)
  none_decoded n m (x ∷ b) h = absurd (omega arith)

  -- two budgets that pass the bytes decode the same
  same_decoding : (n m : ℕ) (b : List ℕ) → length b ≤ n → length b ≤ m → decode_up_to first n b ≡ decode_up_to first m b
  same_decoding zero m b h k = none_decoded zero m b h
  same_decoding (suc n) zero b h k = none_decoded (suc n) zero b k
  same_decoding (suc n) (suc m) b h k = go (first b) refl (same_decoding n m)
    where
      shorter : (c : Call) (l : ℕ) → length b ≤ suc l → length (drop (call_size c) b) ≤ l
      shorter c l few = omega (arith, size_some c, length-drop (call_size c) b)

      go : (r : CallRead)
          → first b ≡ r
          → ((l : List ℕ) → length l ≤ n → length l ≤ m → decode_up_to first n l ≡ decode_up_to first m l)
          → decode_up_to first (suc n) b ≡ decode_up_to first (suc m) b
      go (Listed c) e rec =
          decode_listed first n b c e
          ∙ ap (and_then c) (rec (drop (call_size c) b) (shorter c n h) (shorter c m k))
          ∙ sym (decode_listed first m b c e)
      go End e rec = decode_end first n b e ∙ sym (decode_end first m b e)
      go Bad e rec = decode_bad first n b e ∙ sym (decode_bad first m b e)

  bad_inside : (b : List ℕ) → first b ≡ Bad → 1 ≤ length b
  bad_inside [] h = absurd (let z : ◌≡◌ {A = ℕ} 0 1 = cc reads.empty in omega arith)
  bad_inside (k ∷ b) h = omega arith

-- the budgets of `decode` and of `decode_all` suffice
pub decode_enough : (n : ℕ) (b : List ℕ) → length b ≤ n → decode_up_to first_call n b ≡ decode b
unfolding decode
decode_enough n b h = same_decoding first_call runner_reads n (length b) b h (omega arith)

pub decode_all_enough : (n : ℕ) (b : List ℕ) → length b ≤ n → decode_up_to any_call_first n b ≡ decode_all b
unfolding decode_all
decode_all_enough n b h = same_decoding any_call_first any_reads n (length b) b h (omega arith)

-- a decoding by its records, of a reading of the first one
pub record Decodes (first : List ℕ → CallRead) (decoding : List ℕ → Decoded) : Type 0 where
  pub listed_inside : (b : List ℕ) (c : Call) → first b ≡ Listed c → call_size c ≤ length b
  pub bad_inside : (b : List ℕ) → first b ≡ Bad → 1 ≤ length b
  pub at_call : (b : List ℕ) (c : Call) → first b ≡ Listed c → decoding b ≡ and_then c (decoding (drop (call_size c) b))
  pub at_end : (b : List ℕ) → first b ≡ End → decoding b ≡ record { calls = []; cut = false }
  pub at_bad : (b : List ℕ) → first b ≡ Bad → decoding b ≡ record { calls = []; cut = true }

module _ (first : List ℕ → CallRead) (reads : Reads first) (decoding : List ℕ → Decoded) where
  by_records : ((n : ℕ) (b : List ℕ) → length b ≤ n → decode_up_to first n b ≡ decoding b) → Decodes first decoding
  by_records enough = record {
    listed_inside = reads.inside;
    bad_inside = bad_inside first reads;
    at_call = λ b c h.
        sym (enough (suc (length b)) b (omega arith))
        ∙ decode_listed first (length b) b c h
        ∙ ap (and_then c) (enough (length b) (drop (call_size c) b) (omega (arith, length-drop (call_size c) b)));
    at_end = λ b h. sym (enough (suc (length b)) b (omega arith)) ∙ decode_end first (length b) b h;
    at_bad = λ b h. sym (enough (suc (length b)) b (omega arith)) ∙ decode_bad first (length b) b h;
  }

pub decodes : Decodes first_call decode
decodes = by_records first_call runner_reads decode decode_enough

pub decodes_all : Decodes any_call_first decode_all
decodes_all = by_records any_call_first any_reads decode_all decode_all_enough
