-- Records in code: what stands at an offset, and a call's bytes.
use Prim.Native.Nat.{ℕ}
use native.Mathlib.Omega.{arith}
use mathlib.Core.List.{List, ◌++◌}
use mathlib.Core.Path.{◌≡◌, refl, sym, ◌∙◌, ap}
use lib.ListN.{get_or, take, drop}
use lib.Seq.{get_or-drop}
use Rattle.std.specs.Prelude.{Result, Ok}
use Rattle.plan.specs.Calls.{call_bytes, call_size, any_call_first}
use Rattle.recorder.specs.Types.{Call, Submit, Close, Finish, Advance, CallRead, Bad, NoRecord, CallRecord}
use Rattle.journal.specs.Records.{front}
use Rattle.journal.specs.Calls.{record_length, calls, record_of, record_in}
use Rattle.journal.specs.Answers.{record_read}
use Rattle.journal.proofs.CallLaws.{other_or_cut, front_read, front_read_lem}

-- a record that a list's reading calls bad, by its kind
pub read_bad : (b : List ℕ) (at : ℕ) (read : CallRead) (x : ℕ) (r : Result Call NoRecord)
    → read ≡ any_call_first (drop at b)
    → read ≡ Bad
    → x ≡ get_or b at 0
    → r ≡ record_read (other_or_cut (record_length x))
    → r ≡ record_read (front calls (drop at b))
read_bad b at read x r is h e q =
    let kind : x ≡ get_or (drop at b) 0 0 = e ∙ sym (get_or-drop at b 0 0 ∙ ap (λ (i : ℕ). get_or b i 0) (omega arith)) in
    q
    ∙ ap (λ (k : ℕ). record_read (other_or_cut (record_length k))) kind
    ∙ ap record_read (ap (front_read (drop at b)) (sym h ∙ is) ∙ sym (front_read_lem (drop at b)))

-- a call's record
whole_bytes : (c : Call) → take (call_size c) (record_of c).bytes ≡ call_bytes c
whole_bytes (Submit e) = refl
whole_bytes (Close i) = refl
whole_bytes Finish = refl
whole_bytes (Advance m) = refl

module _ (r : CallRecord) (c : Call) (is : r ≡ record_of c) where
  pub record_size_lem : r.size ≡ call_size c
  record_size_lem = ap (λ (x : CallRecord). x.size) is

  pub record_bytes : take r.size r.bytes ≡ call_bytes c
  record_bytes = ap (λ (x : CallRecord). take x.size x.bytes) is ∙ whole_bytes c

-- in the bytes that are lent
pub record_put : (c : Call) (old : List ℕ) → record_in (Ok c) old ≡ take (record_of c).size (record_of c).bytes ++ drop (record_of c).size old
unfolding record_in
record_put c old = ap (λ (l : List ℕ). l ++ drop (call_size c) old) (sym (whole_bytes c))
