-- What the code answers, and the numbers of the answers.
use Rattle.std.specs.Prelude.{ℕ, cond, List, ltb, length, take, Result, Ok, Err}
use Rattle.plan.specs.Faults.{refusal, sheet_fault_number, call_fault_number}
use Rattle.scheduler.specs.State.{empty_state}
use Rattle.journal.specs.Types.{Call, CallFault, State, NoRecord, NoCall, Opened, JournalFault, Journal, Appended as AppendedRecord, AppendFault, AppendReply}
use Rattle.journal.specs.Records.{Front, Whole, Short, Other}
use Rattle.journal.specs.Journals.{Opening, Opens, Broken, Unread, Appending, Appended, TooLong, BadSheet, BadRecord, TurnedDown, NoRoom, open_journal, append, buffer_after}
use Rattle.journal.specs.Calls.{calls}

abbrev pub record_read : Front Call → Result Call NoRecord
record_read (Whole c) = Ok c
record_read Short = Err NoRecord.Short
record_read Other = Err NoRecord.Other

-- a journal that does not open for its sheet gives the empty state (16.5)
abbrev pub journal_read : Opening State → Journal
journal_read (Opens s end left) = record { verdict = Ok (record { end = end; left = left }); state = s }
journal_read (Broken s at) = record { verdict = Err (JournalFault.Broken at); state = s }
journal_read (Unread f at) = record { verdict = Err (JournalFault.Unread (refusal f at)); state = empty_state }

-- the number of a journal that does not open, and the offset of its fault (16.4, 16.5)
abbrev pub fault_number : JournalFault → ℕ
fault_number (JournalFault.Broken at) = 17
fault_number (JournalFault.Unread r) = sheet_fault_number r.fault

abbrev pub fault_offset : JournalFault → ℕ
fault_offset (JournalFault.Broken at) = at
fault_offset (JournalFault.Unread r) = r.at

-- the number that opening gives: 0 where the journal opens (16.2, 16.4, 16.5)
abbrev pub journal_number : Result Opened JournalFault → ℕ
journal_number (Ok o) = 0
journal_number (Err f) = fault_number f

-- the offset behind the last whole record, or that of the fault (16.2, 16.4, 16.5)
abbrev pub journal_offset : Result Opened JournalFault → ℕ
journal_offset (Ok o) = o.end
journal_offset (Err f) = fault_offset f

-- how many bytes are left over; 0 where the journal does not open (16.2)
abbrev pub journal_left : Result Opened JournalFault → ℕ
journal_left (Ok o) = o.left
journal_left (Err f) = 0

abbrev pub append_answer : Appending CallFault → Result AppendedRecord AppendFault
append_answer (Appended at n) = Ok (record { at = at; len = n })
append_answer TooLong = Err AppendFault.TooLong
append_answer (BadSheet f at) = Err (AppendFault.Unopened (JournalFault.Unread (refusal f at)))
append_answer (BadRecord at) = Err (AppendFault.Unopened (JournalFault.Broken at))
append_answer (TurnedDown f at) = Err (AppendFault.TurnedDown f at)
append_answer (NoRoom at) = Err (AppendFault.NoRoom at)

-- the number of an answer, the length of a journal of `len` bytes after it, and the offset: 0 with a stated length that
-- is too long (16.6, 16.7)
abbrev pub fault_reply : ℕ → AppendFault → AppendReply
fault_reply len AppendFault.TooLong = record { number = 14; len = len; at = 0 }
fault_reply len (AppendFault.Unopened f) = record { number = fault_number f; len = len; at = fault_offset f }
fault_reply len (AppendFault.TurnedDown f at) = record { number = call_fault_number f; len = len; at = at }
fault_reply len (AppendFault.NoRoom at) = record { number = 14; len = len; at = at }

abbrev pub reply_of : ℕ → Result AppendedRecord AppendFault → AppendReply
reply_of len (Ok a) = record { number = 0; len = a.len; at = a.at }
reply_of len (Err f) = fault_reply len f

-- the answer to what is no call, with number n: the journal's number comes first (16.12)
abbrev pub refusal_of : ℕ → ℕ → Result Opened JournalFault → AppendReply
refusal_of n len (Ok o) = record { number = n; len = len; at = o.end }
refusal_of n len (Err f) = fault_reply len (AppendFault.Unopened f)

-- appending what a host asks for to the journal in the first `len` bytes of a buffer. What is no call is turned down
-- where a call would be: after the stated length and the journal, before the room (16.12)
module _ (buffer : List ℕ) (len : ℕ) where
  unfoldable pub asked_reply : Result Call NoCall → AppendReply
  asked_reply (Ok c) = reply_of len (append_answer (append calls buffer len c))
  asked_reply (Err f) =
      cond (ltb (length buffer) len)
      (fault_reply len AppendFault.TooLong)
      (refusal_of f.number len (journal_read (open_journal calls (take len buffer))).verdict)

  -- the buffer after it (16.7)
  unfoldable pub buffer_asked : Result Call NoCall → List ℕ
  buffer_asked (Ok c) = buffer_after calls buffer len c
  buffer_asked (Err f) = buffer
