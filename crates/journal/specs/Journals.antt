-- A journal: opening it, and appending a call's record to it.
use Rattle.std.specs.Prelude.{ℕ, ◌+◌, ◌-◌, true, false, List, ◌++◌, ltb, length, take, drop}
use Rattle.std.specs.declared.option.Option.TheVariants.{None as none, Some as some}
use Rattle.plan.specs.Sheets.{whole, faulty, read_plan}
use Rattle.journal.specs.Types.{SheetFault}
use Rattle.journal.specs.Records.{Keeping, Ran, size, run, records}

-- what opening gives (16.2, 16.4, 16.5)
pub data Opening (S : Type 0) : Type 0 where
  Opens : S → ℕ → ℕ → Opening S  -- the state, the offset behind the last whole record, how many bytes are left over
  Broken : S → ℕ → Opening S  -- 17: the state before the bad record, and its offset
  Unread : SheetFault → ℕ → Opening S  -- the sheet's own fault, and its offset

-- a run of records that begin at an offset, in a journal of some length (16.2, 16.4)
unfoldable pub opened_at : {S : Type 0} → ℕ → ℕ → Ran S → Opening S
opened_at at len r = elim r.bad [
  | false ↦ Opens r.state (at + r.used) (len - (at + r.used))
  | true ↦ Broken r.state (at + r.used)
]

-- what appending answers (16.6)
pub data Appending (F : Type 0) : Type 0 where
  Appended : ℕ → ℕ → Appending F  -- the record's offset, and the new length
  TooLong : Appending F  -- 14: the stated length is above the buffer's
  BadSheet : SheetFault → ℕ → Appending F  -- the journal does not open: its sheet's fault
  BadRecord : ℕ → Appending F  -- 17: the journal does not open
  TurnedDown : F → ℕ → Appending F  -- the call's own fault, and the offset behind the last whole record
  NoRoom : ℕ → Appending F  -- 14: the record does not fit behind that offset

-- bytes with others written over them from an offset on
abbrev pub overwritten : List ℕ → ℕ → List ℕ → List ℕ
overwritten b at r = take at b ++ r ++ drop (at + length r) b

module _ {S C F : Type 0} (k : Keeping S C F) where
  -- the journal of a sheet and of the calls that were accepted on it (16.1)
  abbrev pub journal_of : List ℕ → List C → List ℕ
  journal_of sheet cs = sheet ++ records k cs

  -- the plan is read from the front, whatever follows it; then record after record (16.2)
  unfoldable pub open_journal : List ℕ → Opening S
  open_journal b = elim (read_plan b) [
    | whole p at ↦ opened_at at (length b) (run k (k.first p) (drop at b))
    | faulty f at ↦ Unread f at
  ]

  -- a record behind an offset, in a buffer of some length (16.6)
  unfoldable pub room_for : ℕ → ℕ → C → Appending F
  room_for room end c = elim (ltb room (end + size k c)) [ true ↦ NoRoom end | false ↦ Appended end (end + size k c) ]

  -- the tests after the stated length: the journal, the call, the room (16.6)
  unfoldable pub append_to : ℕ → C → Opening S → Appending F
  append_to room c o = elim o [
    | Unread f at ↦ BadSheet f at
    | Broken s at ↦ BadRecord at
    | Opens s end left ↦ elim (k.fault s c) [ some f ↦ TurnedDown f end | none ↦ room_for room end c ]
  ]

  -- appending to the journal in the first `len` bytes of a buffer (16.6)
  unfoldable pub append : List ℕ → ℕ → C → Appending F
  append buffer len c = elim (ltb (length buffer) len) [
    | true ↦ TooLong
    | false ↦ append_to (length buffer) c (open_journal (take len buffer))
  ]

  -- the buffer after it: the record behind the last whole one, over leftover bytes; where nothing is appended, the
  -- buffer as it was (16.7)
  unfoldable pub written_by : List ℕ → C → Appending F → List ℕ
  written_by buffer c a = elim a [
    | Appended at n ↦ overwritten buffer at (k.bytes c)
    | TooLong ↦ buffer
    | BadSheet f at ↦ buffer
    | BadRecord at ↦ buffer
    | TurnedDown f at ↦ buffer
    | NoRoom at ↦ buffer
  ]

  abbrev pub buffer_after : List ℕ → ℕ → C → List ℕ
  buffer_after buffer len c = written_by buffer c (append buffer len c)
