-- Call records: the bytes of a call, and the calls that bytes list.
use Rattle.std.specs.Prelude.{◌/◌, ◌%◌, ◌∷◌, ◌++◌, ◌≤◌, ◌<◌, ◌≡◌}
use Rattle.plan.specs.Prelude.{ℕ, zero, suc, Bool, true, false, List, [], eqb, ltb, get_or, drop, length, Call, Submit, Close, Finish, Advance, CallRead, Listed, End, Bad}
use Rattle.plan.specs.Records.{word_at}

-- a number as four bytes, the lowest first (3.5)
abbrev pub bytes_of : ℕ → List ℕ
bytes_of m = m % 256 ∷ m / 256 % 256 ∷ m / 65536 % 256 ∷ m / 16777216 ∷ []

-- a call's record: a byte for the kind, then the number, one byte, or four for a minute. A finish (wind up) has no
-- number (13.2)
abbrev pub call_bytes : Call → List ℕ
call_bytes (Submit e) = 16 ∷ e ∷ []
call_bytes (Close k) = 17 ∷ k ∷ []
call_bytes Finish = 18 ∷ []
call_bytes (Advance m) = 19 ∷ bytes_of m

-- the bytes from an offset up to another are the records of finishes, one each (13.2)
abbrev pub Finishes : List ℕ → ℕ → ℕ → Type 0
Finishes b from past = (i : ℕ) → from ≤ i → i < past → get_or b i 0 ≡ 18

-- how many bytes the record of a call has (13.2)
abbrev pub call_size : Call → ℕ
call_size (Submit e) = 2
call_size (Close k) = 2
call_size Finish = 1
call_size (Advance m) = 5

-- the call of a record of kind k, where x is the byte after the kind. A finish does not use x (13.2)
abbrev pub call_of : ℕ → ℕ → CallRead
call_of k x = elim (eqb k 16) [
  | true ↦ Listed (Submit x)
  | false ↦ elim (eqb k 17) [
    | true ↦ Listed (Close x)
    | false ↦ elim (eqb k 18) [ true ↦ Listed Finish | false ↦ Bad ]
  ]
]

-- the record at the front of the runner's bytes, of kind 16 to 18. A record that is cut, or of another kind, is bad
-- (13.3)
unfoldable pub first_call : List ℕ → CallRead
first_call [] = End
first_call (k ∷ []) = elim (eqb k 18) [ true ↦ Listed Finish | false ↦ Bad ]
first_call (k ∷ x ∷ b) = call_of k x

-- the advance (move of the minute) that the four bytes after kind 19 give; with fewer bytes the record is cut (13.2)
unfoldable pub advance_in : List ℕ → CallRead
advance_in b = elim (ltb (length b) 4) [ true ↦ Bad | false ↦ Listed (Advance (word_at b 0)) ]

-- the record at the front of bytes that may list every call: one of kind 19, or one of the runner's kinds (13.2)
unfoldable pub any_call_first : List ℕ → CallRead
any_call_first [] = End
any_call_first (k ∷ b) = elim (eqb k 19) [ true ↦ advance_in b | false ↦ first_call (k ∷ b) ]

-- the calls that bytes list, and whether reading ended at a bad record (13.3)
pub record Decoded : Type 0 where
  pub calls : List Call
  pub cut : Bool

abbrev pub and_then : Call → Decoded → Decoded
and_then c d = record { calls = c ∷ d.calls; cut = d.cut }

-- reads record after record, each with `first`, up to the end or to the first bad one. It reads at most n records; the
-- two functions below allow enough (13.3)
unfoldable pub decode_up_to : (List ℕ → CallRead) → ℕ → List ℕ → Decoded
decode_up_to first zero b = record { calls = []; cut = false }
decode_up_to first (suc n) b = elim (first b) [
  | Listed c ↦ and_then c (decode_up_to first n (drop (call_size c) b))
  | End ↦ record { calls = []; cut = false }
  | Bad ↦ record { calls = []; cut = true }
]

-- reads the runner's bytes (13.3)
unfoldable pub decode : List ℕ → Decoded
decode b = decode_up_to first_call (length b) b

-- reads bytes that may list every call (13.2)
unfoldable pub decode_all : List ℕ → Decoded
decode_all b = decode_up_to any_call_first (length b) b

-- the records of a list of calls, one after another (13.2)
unfoldable pub encode : List Call → List ℕ
encode [] = []
encode (c ∷ cs) = call_bytes c ++ encode cs
