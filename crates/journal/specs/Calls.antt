-- The scheduler's calls in a journal: their records, and calls that a host asks for by a kind and a number.
use Rattle.std.specs.Prelude.{ℕ, true, false, cond, List, [], ◌∷◌, ◌++◌, eqb, ltb, drop, Result, Ok, Err}
use Rattle.std.specs.declared.option.Option.{Option}
use Rattle.std.specs.declared.option.Option.TheVariants.{None as none, Some as some}
use Rattle.plan.specs.Calls.{call_bytes, call_size, any_call_first}
use Rattle.scheduler.specs.State.{first_state}
use Rattle.scheduler.specs.Answers.{call_fault, call}
use Rattle.journal.specs.Types.{Call, Submit, Close, Finish, Advance, CallRead, Listed, End, Bad, CallFault, State, CallRecord, NoCall}
use Rattle.journal.specs.Records.{Keeping}

-- how many bytes a record of a kind has; 0 for a kind that is no call's (13.2)
abbrev pub record_length : ℕ → ℕ
record_length x = elim (eqb x 16) [
  | true ↦ 2
  | false ↦ elim (eqb x 17) [
    | true ↦ 2
    | false ↦ elim (eqb x 18) [ true ↦ 1 | false ↦ elim (eqb x 19) [ true ↦ 5 | false ↦ 0 ] ]
  ]
]

abbrev pub listed_call : CallRead → Option Call
listed_call (Listed c) = some c
listed_call End = none
listed_call Bad = none

-- what a journal of the scheduler's calls records: with the codec that `replay` reads (13.2, 16.1)
abbrev pub calls : Keeping State Call CallFault
calls = record {
  first = first_state;
  fault = call_fault;
  make = λ s c. (call s c).state;
  bytes = call_bytes;
  long = record_length;
  call_of = λ r. listed_call (any_call_first r);
}

-- a call's record in eight bytes, with 0 behind it, and how many bytes it has (16.11)
abbrev pub padded : Call → List ℕ
padded (Submit e) = call_bytes (Submit e) ++ (0 ∷ 0 ∷ 0 ∷ 0 ∷ 0 ∷ 0 ∷ [])
padded (Close k) = call_bytes (Close k) ++ (0 ∷ 0 ∷ 0 ∷ 0 ∷ 0 ∷ 0 ∷ [])
padded Finish = call_bytes Finish ++ (0 ∷ 0 ∷ 0 ∷ 0 ∷ 0 ∷ 0 ∷ 0 ∷ [])
padded (Advance m) = call_bytes (Advance m) ++ (0 ∷ 0 ∷ 0 ∷ [])

abbrev pub record_of : Call → CallRecord
record_of c = record { bytes = padded c; size = call_size c }

-- what asks for no call is turned down by a number: 2 for a kind that is no call's, 9 for a number that does not fit its
-- byte (16.12)
abbrev pub no_call : ℕ → NoCall
no_call n = record { number = n }

-- what a host asks for by a kind and a number. A finish has no number, and what is given for it is not looked at
-- (16.12)
unfoldable pub asked_call : ℕ → ℕ → Result Call NoCall
asked_call k n = elim (eqb k 18) [
  | true ↦ Ok Finish
  | false ↦ elim (eqb k 19) [
    | true ↦ Ok (Advance n)
    | false ↦ elim (eqb k 16) [
      | true ↦ cond (ltb n 256) (Ok (Submit n)) (Err (no_call 9))
      | false ↦ elim (eqb k 17) [ true ↦ cond (ltb n 256) (Ok (Close n)) (Err (no_call 9)) | false ↦ Err (no_call 2) ]
    ]
  ]
]

-- the record of what a host asks for, in the eight bytes that it lends; and how many bytes it has, 0 where it is none
-- (16.11)
unfoldable pub record_in : Result Call NoCall → List ℕ → List ℕ
record_in (Ok c) r = call_bytes c ++ drop (call_size c) r
record_in (Err f) r = r

unfoldable pub record_size : Result Call NoCall → ℕ
record_size (Ok c) = call_size c
record_size (Err f) = 0
