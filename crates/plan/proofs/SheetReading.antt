-- The branches of reading record after record; and the reader's budget suffices: more changes nothing.
use Prim.Native.Nat.{ℕ, zero, suc, ◌+◌, ◌<◌}
use native.Mathlib.Omega.{arith}
use mathlib.Core.Bool.{true, false}
use mathlib.Core.List.{List}
use Rattle.std.specs.declared.option.Option.TheVariants.{None as none, Some as some}
use mathlib.Core.Path.{◌≡◌, refl, sym, ap}
use borrow.Author.Tests.{le-leb}
use lib.Dec.{eqb}
use lib.ListN.{length, get_or}
use Rattle.plan.specs.Prelude.{Plan, Record, SheetFault, Cut}
use Rattle.plan.specs.Plans.{empty_plan}
use Rattle.plan.specs.Faults.{first_fault}
use Rattle.plan.specs.Records.{body_length, record_at, declare, record_fault}
use Rattle.plan.specs.Sheets.{PlanReading, whole, faulty, read_from, read_plan}

-- the branches of `read_from`
module _ (n : ℕ) (b : List ℕ) (at : ℕ) (p : Plan) where
  abbrev here : Record
  here = record_at b at

  pub read_fault : (f : SheetFault) → record_fault p (length b) at here ≡ some f → read_from (suc n) b at p ≡ faulty f at
  unfolding read_from
  read_fault f h = rw (h, read_from)

  pub read_end : record_fault p (length b) at here ≡ none → eqb here.kind 5 ≡ true
      → read_from (suc n) b at p ≡ whole p (at + 1)
  unfolding read_from
  read_end h k = rw (h, k, read_from)

  pub read_next : record_fault p (length b) at here ≡ none → eqb here.kind 5 ≡ false
      → read_from (suc n) b at p ≡ read_from n b (at + 1 + body_length here.kind) (declare p here)
  unfolding read_from
  read_next h k = rw (h, k, read_from)

-- past the sheet's end there is no record
past_sheet : (n : ℕ) (b : List ℕ) (at : ℕ) (p : Plan) → length b < at → read_from n b at p ≡ faulty Cut at
unfolding read_from record_fault first_fault
past_sheet zero b at p h = refl
past_sheet (suc n) b at p h = rw (le-leb (length b) at (omega arith), read_from, record_fault, first_fault)

-- what the record at an offset comes to, where `later` is what the records after it come to
abbrev record_then : List ℕ → ℕ → Plan → PlanReading → PlanReading
record_then b at p later = elim (record_fault p (length b) at (record_at b at)) [
  | some f ↦ faulty f at
  | none ↦ elim (eqb (get_or b at 0) 5) [ true ↦ whole p (at + 1) | false ↦ later ]
]

-- each record takes a byte or more: two budgets that pass what is left of the sheet read the same
same_reading : (n m : ℕ) (b : List ℕ) (at : ℕ) (p : Plan)
    → length b < n + at
    → length b < m + at
    → read_from n b at p ≡ read_from m b at p
unfolding read_from
same_reading zero m b at p h k = sym (past_sheet m b at p (omega arith))
same_reading (suc n) zero b at p h k = past_sheet (suc n) b at p (omega arith)
same_reading (suc n) (suc m) b at p h k =
    ap (record_then b at p) (same_reading n m b (at + 1 + body_length (get_or b at 0)) (declare p (record_at b at)) (omega arith) (omega arith))

pub read_enough : (n : ℕ) (b : List ℕ) → length b < n → read_from n b 0 empty_plan ≡ read_plan b
unfolding read_plan
read_enough n b h = same_reading n (length b + 1) b 0 empty_plan (omega arith) (omega arith)
