-- Call records of every kind: what stands at an offset, that a list's records are read back as the list, and that what
-- the runner's reading lists is listed here too.
use Prim.Native.Nat.{ℕ, zero, suc, ◌+◌, ◌-◌, ◌/◌, ◌%◌, ◌≤◌, ◌<◌}
use native.Mathlib.Numerals.{add-one}
use native.Mathlib.Omega.{arith}
use native.Mathlib.Decide.{ℕ_discrete, dec_lt}
use mathlib.Core.Bool.{Bool, true, false, ◌&&◌}
use mathlib.Core.List.{List, [], ◌∷◌, ◌++◌}
use mathlib.Core.Path.{◌≡◌, refl, sym, ◌∙◌, ap}
use borrow.Author.Tests.{ne_eqb, le-ltb, lt-ltb, ltb-true}
use lib.Dec.{ltb}
use lib.ListN.{length, get_or, take, drop, length-drop}
use lib.Seq.{drop-cons, get_or-drop, take_all}
use lib.Pow.{are_bytes}
use Rattle.plan.specs.Prelude.{Call, Submit, Close, Finish, Advance, CallRead, Listed, End, Bad}
use Rattle.plan.specs.Calls.{bytes_of, call_bytes, call_size, first_call, advance_in, any_call_first, Decoded, and_then, decode, decode_all, encode}
use Rattle.plan.specs.Records.{word_at}
use Rattle.plan.proofs.Tests.{and_left, and_right, and_both, clash}
use Rattle.plan.proofs.ByteReads.{past_end}
use Rattle.plan.proofs.CallRecords.{finish_first, word_back}
use Rattle.plan.proofs.CallDecoding.{size_some, decodes, decodes_all}

-- a kind byte other than 19, or none
another_kind : (b : List ℕ) → (get_or b 0 0 ≡ 19 → ⊥) → first_call b ≡ any_call_first b
unfolding first_call any_call_first
another_kind [] ne = refl
another_kind (k ∷ b) ne = rw (ne_eqb k 19 ne, any_call_first)

-- the record at an offset: by the byte there, and for kind 19 by the bytes after it
module _ (b : List ℕ) (at : ℕ) where
  pub kind_inside : get_or b at 0 ≡ 19 → at < length b
  kind_inside h = elim (dec_lt at (length b)) [
    | yes lt ↦ lt
    | no ge ↦ absurd (omega (arith, h, past_end b at (omega arith)))
  ]

  pub any_advance : (r : CallRead) → get_or b at 0 ≡ 19 → r ≡ advance_in (drop (at + 1) b) → r ≡ any_call_first (drop at b)
  unfolding any_call_first
  any_advance r h is =
      let here : drop at b ≡ 19 ∷ drop (suc at) b = drop-cons b at 0 (kind_inside h) ∙ ap (λ (k : ℕ). k ∷ drop (suc at) b) h in
      is ∙ ap (λ (k : ℕ). advance_in (drop k b)) (add-one at) ∙ ap any_call_first (sym here)

  pub any_other : (r : CallRead) → (get_or b at 0 ≡ 19 → ⊥) → r ≡ first_call (drop at b) → r ≡ any_call_first (drop at b)
  any_other r ne is =
      let here : get_or (drop at b) 0 0 ≡ get_or b at 0 = get_or-drop at b 0 0 ∙ ap (λ (k : ℕ). get_or b k 0) (omega arith) in
      is ∙ another_kind (drop at b) (λ h. ne (sym here ∙ h))

-- the bytes after kind 19, as the code takes them: fewer than four, and four
pub rest_of : (b : List ℕ) (n : ℕ) → take (length b - n) (drop n b) ≡ drop n b
rest_of b n = take_all (length b - n) (drop n b) (omega (arith, length-drop n b))

pub advance_cut : (rest : List ℕ) → length rest < 4 → Bad ≡ advance_in rest
unfolding advance_in
advance_cut rest few = rw (lt-ltb (length rest) 4 few, advance_in)

pub advance_whole : (rest : List ℕ) (m : ℕ) → 4 ≤ length rest → m ≡ word_at rest 0 → Listed (Advance m) ≡ advance_in rest
unfolding advance_in
advance_whole rest m long is = rw (le-ltb (length rest) 4 long, is, advance_in)

-- every call is read back from its record, whatever follows
pub call_back : (c : Call) (b : List ℕ) → any_call_first (call_bytes c ++ b) ≡ Listed c
unfolding any_call_first advance_in first_call
call_back (Submit e) b = refl
call_back (Close k) b = refl
call_back Finish b = finish_first b
call_back (Advance m) b =
    rw (le-ltb (length (bytes_of m ++ b)) 4 (omega arith), advance_in) (ap (λ (v : ℕ). Listed (Advance v)) (word_back m))

-- the rest of the bytes after it
rest_back : (c : Call) (b : List ℕ) → drop (call_size c) (call_bytes c ++ b) ≡ b
rest_back (Submit e) b = refl
rest_back (Close k) b = refl
rest_back Finish b = refl
rest_back (Advance m) b = refl

-- every list is the decoding of its records
no_bytes : any_call_first [] ≡ End
unfolding any_call_first
no_bytes = refl

pub decode_all_encode : (cs : List Call) → decode_all (encode cs) ≡ record { calls = cs; cut = false }
unfolding encode
decode_all_encode [] = decodes_all.at_end [] no_bytes
decode_all_encode (c ∷ cs) =
    decodes_all.at_call (call_bytes c ++ encode cs) c (call_back c (encode cs))
    ∙ ap (λ (b : List ℕ). and_then c (decode_all b)) (rest_back c (encode cs))
    ∙ ap (and_then c) (decode_all_encode cs)

-- the numbers of a list's calls fit their records
abbrev pub fits : Call → Bool
fits (Submit e) = ltb e 256
fits (Close k) = ltb k 256
fits Finish = true
fits (Advance m) = ltb m 4294967296

unfoldable pub all_fit : List Call → Bool
all_fit [] = true
all_fit (c ∷ cs) = fits c && all_fit cs

-- and so the records are bytes
call_bytes_lem : (c : Call) (b : List ℕ) → fits c ≡ true → are_bytes b ≡ true → are_bytes (call_bytes c ++ b) ≡ true
call_bytes_lem (Submit e) b h k = and_both (ltb e 256) (are_bytes b) h k
call_bytes_lem (Close e) b h k = and_both (ltb e 256) (are_bytes b) h k
call_bytes_lem Finish b h k = k
call_bytes_lem (Advance m) b h k =
    let top = ltb-true m 4294967296 h in
    let a = lt-ltb (m % 256) 256 (omega arith) in
    let b = lt-ltb (m / 256 % 256) 256 (omega arith) in
    let c = lt-ltb (m / 65536 % 256) 256 (omega arith) in
    rw (a, b, c, lt-ltb (m / 16777216) 256 (omega arith)) k

encode_all_bytes : (cs : List Call) → all_fit cs ≡ true → are_bytes (encode cs) ≡ true
unfolding encode all_fit
encode_all_bytes [] h = refl
encode_all_bytes (c ∷ cs) h =
    call_bytes_lem c (encode cs) (and_left (fits c) (all_fit cs) h) (encode_all_bytes cs (and_right (fits c) (all_fit cs) h))

-- the bytes that list these calls
pub decoded_all : (cs : List Call)
    → all_fit cs ≡ true
    → (b : List ℕ) × (are_bytes b ≡ true) × (decode_all b ≡ record { calls = cs; cut = false })
decoded_all cs h = (encode cs, encode_all_bytes cs h, decode_all_encode cs)

-- the runner's records, and the end, are read alike
nineteen_bad : (b : List ℕ) → first_call (19 ∷ b) ≡ Bad
unfolding first_call
nineteen_bad [] = refl
nineteen_bad (x ∷ b) = refl

alike : (b : List ℕ) → (first_call b ≡ Bad → ⊥) → first_call b ≡ any_call_first b
alike [] h = another_kind [] (λ q. absurd (omega arith))
alike (k ∷ b) h = elim (ℕ_discrete k 19) [
  | yes q ↦ absurd (h (ap (λ (j : ℕ). first_call (j ∷ b)) q ∙ nineteen_bad b))
  | no ne ↦ another_kind (k ∷ b) ne
]

pub narrow_back : (b : List ℕ) (c : Call) → first_call b ≡ Listed c → any_call_first b ≡ Listed c
narrow_back b c h = sym (alike b (λ q. let z : ◌≡◌ {A = ℕ} 0 1 = cc in omega arith)) ∙ h

end_back : (b : List ℕ) → first_call b ≡ End → any_call_first b ≡ End
end_back b h = sym (alike b (λ q. let z : ◌≡◌ {A = ℕ} 0 1 = cc in omega arith)) ∙ h

-- what the runner's reading lists is listed here first, and where that reads to the end, this reads the same
pub record Widens (runners all : Decoded) : Type 0 where
  pub more : List Call
  pub first_calls : all.calls ≡ runners.calls ++ more
  pub whole : runners.cut ≡ false → all ≡ runners

widened_call : (c : Call) (d a : Decoded) → Widens d a → Widens (and_then c d) (and_then c a)
widened_call c d a w = record {
  more = w.more;
  first_calls = ap (λ (cs : List Call). c ∷ cs) w.first_calls;
  whole = λ h. ap (and_then c) (w.whole h);
}

widened_end : (b : List ℕ) → first_call b ≡ End → Widens (decode b) (decode_all b)
widened_end b e =
    let d = decodes.at_end b e in
    let a = decodes_all.at_end b (end_back b e) in
    rw (d, a) (record { more = []; first_calls = refl; whole = λ h. refl })

widened_bad : (b : List ℕ) → first_call b ≡ Bad → Widens (decode b) (decode_all b)
widened_bad b e =
    rw (decodes.at_bad b e) (record { more = (decode_all b).calls; first_calls = refl; whole = λ h. absurd (clash refl h) })

widened_up_to : (n : ℕ) (b : List ℕ) → length b ≤ n → Widens (decode b) (decode_all b)
widened_up_to zero b h = go (first_call b) refl
  where
    go : (r : CallRead) → first_call b ≡ r → Widens (decode b) (decode_all b)
    go (Listed c) e = absurd (omega (arith, size_some c, decodes.listed_inside b c e))
    go End e = widened_end b e
    go Bad e = widened_bad b e
widened_up_to (suc n) b h = go (first_call b) refl (widened_up_to n)
  where
    go : (r : CallRead)
        → first_call b ≡ r
        → ((l : List ℕ) → length l ≤ n → Widens (decode l) (decode_all l))
        → Widens (decode b) (decode_all b)
    go (Listed c) e rec =
        let rest = drop (call_size c) b in
        let few : length rest ≤ n = omega (arith, size_some c, length-drop (call_size c) b) in
        rw (decodes.at_call b c e, decodes_all.at_call b c (narrow_back b c e))
        (widened_call c (decode rest) (decode_all rest) (rec rest few))
    go End e rec = widened_end b e
    go Bad e rec = widened_bad b e

pub widened : (b : List ℕ) → Widens (decode b) (decode_all b)
widened b = widened_up_to (length b) b (omega arith)
