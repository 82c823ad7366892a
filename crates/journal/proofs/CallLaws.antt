-- The laws of the scheduler's records: a record has the length of its kind, it is read as its call, and a whole record
-- is its call's. The codec is the one that lists of calls are read with.
use Prim.Native.Nat.{ℕ, zero, suc, ◌≤◌, ◌<◌}
use native.Mathlib.Omega.{arith}
use native.Mathlib.Decide.{ℕ_discrete}
use borrow.Author.Tests.{ltb-true, le-ltb, ne_eqb}
use mathlib.Core.Bool.{true, false}
use mathlib.Core.List.{List, [], ◌∷◌, append-nil}
use Rattle.std.specs.declared.option.Option.TheVariants.{Some as some}
use mathlib.Core.Path.{◌≡◌, refl, sym, ◌∙◌, ap, subst}
use lib.Dec.{eqb, ltb}
use lib.ListN.{length, get_or, take}
use lib.Pow.{are_bytes}
use Rattle.plan.specs.Calls.{call_bytes, call_size, first_call, advance_in, any_call_first}
use Rattle.plan.specs.Records.{word_of}
use Rattle.plan.proofs.Tests.{and_left, and_right}
use Rattle.plan.proofs.CallRecords.{of_another, finish_first, bytes_back}
use Rattle.plan.proofs.AnyCalls.{call_back}
use Rattle.journal.specs.Types.{Call, Submit, Close, Finish, Advance, CallRead, Listed, End, Bad}
use Rattle.journal.specs.Records.{Front, Whole, Short, Other, as_front, size, front, Recorded, AllRecorded}
use Rattle.journal.specs.Calls.{record_length, listed_call, calls}
use Rattle.journal.proofs.Fronts.{Lawful, front_other, front_whole}

-- whole records, by their kind
data RecordIs : List ℕ → Type 0 where
  submits : (e : ℕ) → RecordIs (16 ∷ e ∷ [])
  closes : (i : ℕ) → RecordIs (17 ∷ i ∷ [])
  finishes : RecordIs (18 ∷ [])
  advances : (a b c d : ℕ) → RecordIs (19 ∷ a ∷ b ∷ c ∷ d ∷ [])

submit_is : (r : List ℕ) → length r ≡ 1 → RecordIs (16 ∷ r)
submit_is [] h = absurd (omega arith)
submit_is (e ∷ []) h = submits e
submit_is (e ∷ x ∷ r) h = absurd (omega arith)

close_is : (r : List ℕ) → length r ≡ 1 → RecordIs (17 ∷ r)
close_is [] h = absurd (omega arith)
close_is (e ∷ []) h = closes e
close_is (e ∷ x ∷ r) h = absurd (omega arith)

finish_is : (r : List ℕ) → length r ≡ 0 → RecordIs (18 ∷ r)
finish_is [] h = finishes
finish_is (x ∷ r) h = absurd (omega arith)

advance_is : (r : List ℕ) → length r ≡ 4 → RecordIs (19 ∷ r)
advance_is [] h = absurd (omega arith)
advance_is (a ∷ []) h = absurd (omega arith)
advance_is (a ∷ b ∷ []) h = absurd (omega arith)
advance_is (a ∷ b ∷ c ∷ []) h = absurd (omega arith)
advance_is (a ∷ b ∷ c ∷ d ∷ []) h = advances a b c d
advance_is (a ∷ b ∷ c ∷ d ∷ x ∷ r) h = absurd (omega arith)

-- a kind that is no call's
pub no_length : (x : ℕ) → (x ≡ 16 → ⊥) → (x ≡ 17 → ⊥) → (x ≡ 18 → ⊥) → (x ≡ 19 → ⊥) → record_length x ≡ 0
no_length x a b c d = rw (ne_eqb x 16 a, ne_eqb x 17 b, ne_eqb x 18 c, ne_eqb x 19 d, record_length)

record_is : (x : ℕ) (r : List ℕ) → length (x ∷ r) ≡ record_length x → RecordIs (x ∷ r)
record_is x r l = elim (ℕ_discrete x 16) [
  | yes e ↦ subst (λ (i : ℕ). RecordIs (i ∷ r)) (sym e) (submit_is r (omega (arith, ap record_length e)))
  | no a ↦ elim (ℕ_discrete x 17) [
    | yes e ↦ subst (λ (i : ℕ). RecordIs (i ∷ r)) (sym e) (close_is r (omega (arith, ap record_length e)))
    | no b ↦ elim (ℕ_discrete x 18) [
      | yes e ↦ subst (λ (i : ℕ). RecordIs (i ∷ r)) (sym e) (finish_is r (omega (arith, ap record_length e)))
      | no c ↦ elim (ℕ_discrete x 19) [
        | yes e ↦ subst (λ (i : ℕ). RecordIs (i ∷ r)) (sym e) (advance_is r (omega (arith, ap record_length e)))
        | no d ↦ absurd (omega (arith, no_length x a b c d))
      ]
    ]
  ]
]

-- the call of such a record
abbrev is_call : {r : List ℕ} → RecordIs r → Call
is_call (submits e) = Submit e
is_call (closes i) = Close i
is_call finishes = Finish
is_call (advances a b c d) = Advance (word_of a b c d)

is_read : {r : List ℕ} (i : RecordIs r) → any_call_first r ≡ Listed (is_call i)
unfolding any_call_first first_call advance_in
is_read (submits e) = refl
is_read (closes i) = refl
is_read finishes = refl
is_read (advances a b c d) = refl

is_long : {r : List ℕ} (i : RecordIs r) → size calls (is_call i) ≡ length r
is_long (submits e) = refl
is_long (closes i) = refl
is_long finishes = refl
is_long (advances a b c d) = refl

byte_at : (r : List ℕ) (i : ℕ) → are_bytes r ≡ true → get_or r i 0 < 256
byte_at [] i h = omega arith
byte_at (x ∷ r) zero h = ltb-true x 256 (and_left (ltb x 256) (are_bytes r) h)
byte_at (x ∷ r) (suc i) h = byte_at r i (and_right (ltb x 256) (are_bytes r) h)

is_bytes : {r : List ℕ} (i : RecordIs r) → are_bytes r ≡ true → call_bytes (is_call i) ≡ r
is_bytes (submits e) h = refl
is_bytes (closes i) h = refl
is_bytes finishes h = refl
is_bytes (advances a b c d) h =
    let r : List ℕ = 19 ∷ a ∷ b ∷ c ∷ d ∷ [] in
    ap (λ (l : List ℕ). 19 ∷ l) (bytes_back a b c d (byte_at r 1 h) (byte_at r 2 h) (byte_at r 3 h))

-- a whole record that is a call's
record Told (r : List ℕ) (c : Call) : Type 0 where
  form : RecordIs r
  same : is_call form ≡ c

told : (r : List ℕ) (c : Call) → length r ≡ record_length (get_or r 0 0) → listed_call (any_call_first r) ≡ some c → Told r c
unfolding any_call_first
told [] c l h = absurd (let z : ◌≡◌ {A = ℕ} 0 1 = cc in omega arith)
told (x ∷ r) c l h =
    let i = record_is x r l in
    let e : some (is_call i) ≡ some c = sym (ap listed_call (is_read i)) ∙ h in
    record { form = i; same = cc }

same_size : (r : List ℕ) (c : Call) → length r ≡ record_length (get_or r 0 0) → listed_call (any_call_first r) ≡ some c → size calls c ≡ length r
same_size r c l h = let t = told r c l h in ap (size calls) (sym t.same) ∙ is_long t.form

same_bytes : (r : List ℕ) (c : Call)
    → length r ≡ record_length (get_or r 0 0)
    → are_bytes r ≡ true
    → listed_call (any_call_first r) ≡ some c
    → call_bytes c ≡ r
same_bytes r c l e h = let t = told r c l h in ap call_bytes (sym t.same) ∙ is_bytes t.form e

record_some : (c : Call) → 1 ≤ length (call_bytes c)
record_some (Submit e) = omega arith
record_some (Close i) = omega arith
record_some Finish = omega arith
record_some (Advance m) = omega arith

record_kind : (c : Call) → record_length (get_or (call_bytes c) 0 0) ≡ length (call_bytes c)
record_kind (Submit e) = refl
record_kind (Close i) = refl
record_kind Finish = refl
record_kind (Advance m) = refl

pub lawful : Lawful calls
lawful = record {
  some_bytes = record_some;
  kind = record_kind;
  same_size = same_size;
  same_bytes = same_bytes;
}

-- every call's record is read as that call
pub recorded : (c : Call) → Recorded calls c
recorded c = ap (λ (r : List ℕ). listed_call (any_call_first r)) (sym (append-nil (call_bytes c))) ∙ ap listed_call (call_back c [])

pub all_recorded : (cs : List Call) → AllRecorded calls cs
all_recorded [] = tt
all_recorded (c ∷ cs) = (recorded c, all_recorded cs)

-- the size that the code takes
pub size_same : (c : Call) → call_size c ≡ size calls c
size_same (Submit e) = refl
size_same (Close i) = refl
size_same Finish = refl
size_same (Advance m) = refl

-- a journal's records are read as a list's are. Only what a list calls bad is told apart: a record of a call's kind is
-- cut, one of another kind is no call's
abbrev pub other_or_cut : ℕ → Front Call
other_or_cut n = elim (eqb n 0) [ true ↦ Other | false ↦ Short ]

abbrev pub front_read : List ℕ → CallRead → Front Call
front_read b (Listed c) = Whole c
front_read b End = Short
front_read b Bad = other_or_cut (record_length (get_or b 0 0))

-- a record of a call's kind that is all there
whole_front : (x : ℕ) (r : List ℕ) (n : ℕ) (c : Call)
    → record_length x ≡ suc n
    → suc n ≤ length (x ∷ r)
    → any_call_first (take (suc n) (x ∷ r)) ≡ Listed c
    → any_call_first (x ∷ r) ≡ Listed c
    → front calls (x ∷ r) ≡ front_read (x ∷ r) (any_call_first (x ∷ r))
whole_front x r n c long fits part all =
    front_whole calls x r (omega arith) (omega arith)
    ∙ ap (λ (m : ℕ). as_front (listed_call (any_call_first (take m (x ∷ r))))) long
    ∙ ap (λ (i : CallRead). as_front (listed_call i)) part
    ∙ ap (front_read (x ∷ r)) (sym all)

front_nineteen : (r : List ℕ) → front calls (19 ∷ r) ≡ front_read (19 ∷ r) (any_call_first (19 ∷ r))
unfolding any_call_first advance_in front
front_nineteen [] = refl
front_nineteen (a ∷ []) = refl
front_nineteen (a ∷ b ∷ []) = refl
front_nineteen (a ∷ b ∷ c ∷ []) = refl
front_nineteen (a ∷ b ∷ c ∷ d ∷ r) =
    let m = word_of a b c d in
    let all : any_call_first (19 ∷ a ∷ b ∷ c ∷ d ∷ r) ≡ Listed (Advance m) =
    rw (le-ltb (length (a ∷ b ∷ c ∷ d ∷ r)) 4 (omega arith), advance_in) in
    whole_front 19 (a ∷ b ∷ c ∷ d ∷ r) 4 (Advance m) refl (omega arith) refl all

front_eighteen : (r : List ℕ) → front calls (18 ∷ r) ≡ front_read (18 ∷ r) (any_call_first (18 ∷ r))
unfolding any_call_first first_call
front_eighteen r = whole_front 18 r 0 Finish refl (omega arith) refl (finish_first r)

front_seventeen : (r : List ℕ) → front calls (17 ∷ r) ≡ front_read (17 ∷ r) (any_call_first (17 ∷ r))
unfolding any_call_first first_call front
front_seventeen [] = refl
front_seventeen (i ∷ r) = whole_front 17 (i ∷ r) 1 (Close i) refl (omega arith) refl refl

front_sixteen : (r : List ℕ) → front calls (16 ∷ r) ≡ front_read (16 ∷ r) (any_call_first (16 ∷ r))
unfolding any_call_first first_call front
front_sixteen [] = refl
front_sixteen (e ∷ r) = whole_front 16 (e ∷ r) 1 (Submit e) refl (omega arith) refl refl

bad_kind : (x : ℕ) (r : List ℕ) → (x ≡ 16 → ⊥) → (x ≡ 17 → ⊥) → (x ≡ 18 → ⊥) → (x ≡ 19 → ⊥) → any_call_first (x ∷ r) ≡ Bad
unfolding any_call_first first_call
bad_kind x [] a b c d = rw (ne_eqb x 19 d, any_call_first, ne_eqb x 18 c, first_call)
bad_kind x (y ∷ r) a b c d = rw (ne_eqb x 19 d, any_call_first) (sym (of_another x y a b c))

front_else : (x : ℕ) (r : List ℕ) → (x ≡ 16 → ⊥) → (x ≡ 17 → ⊥) → (x ≡ 18 → ⊥) → (x ≡ 19 → ⊥)
    → front calls (x ∷ r) ≡ front_read (x ∷ r) (any_call_first (x ∷ r))
front_else x r a b c d =
    let none = no_length x a b c d in
    front_other calls x r none
    ∙ sym (ap (front_read (x ∷ r)) (bad_kind x r a b c d) ∙ ap other_or_cut none)

pub front_read_lem : (b : List ℕ) → front calls b ≡ front_read b (any_call_first b)
unfolding any_call_first front
front_read_lem [] = refl
front_read_lem (x ∷ r) = elim (ℕ_discrete x 16) [
  | yes e ↦ subst (λ (i : ℕ). front calls (i ∷ r) ≡ front_read (i ∷ r) (any_call_first (i ∷ r))) (sym e) (front_sixteen r)
  | no a ↦ elim (ℕ_discrete x 17) [
    | yes e ↦ subst (λ (i : ℕ). front calls (i ∷ r) ≡ front_read (i ∷ r) (any_call_first (i ∷ r))) (sym e) (front_seventeen r)
    | no b ↦ elim (ℕ_discrete x 18) [
      | yes e ↦ subst (λ (i : ℕ). front calls (i ∷ r) ≡ front_read (i ∷ r) (any_call_first (i ∷ r))) (sym e) (front_eighteen r)
      | no c ↦ elim (ℕ_discrete x 19) [
        | yes e ↦ subst (λ (i : ℕ). front calls (i ∷ r) ≡ front_read (i ∷ r) (any_call_first (i ∷ r))) (sym e) (front_nineteen r)
        | no d ↦ front_else x r a b c d
      ]
    ]
  ]
]
