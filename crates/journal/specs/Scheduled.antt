-- What is claimed of a journal of the scheduler's calls.
use Rattle.std.specs.Prelude.{ℕ, ◌+◌, ◌≤◌, ◌<◌, true, List, ◌++◌, ◌≡◌, length, take, Ok, Err}
use Rattle.std.proofs.Math.Pow.{are_bytes}
use Rattle.plan.specs.Calls.{call_bytes, call_size}
use Rattle.scheduler.specs.Coherent.{coherent}
use Rattle.scheduler.specs.Sheet.{read_sheet, admitted}
use Rattle.scheduler.specs.Answers.{call}
use Rattle.scheduler.specs.Lists.{scheduler, after, turned_down}
use Rattle.scheduler.specs.Demand.{Demand3, seen}
use Rattle.journal.specs.Types.{Call, State, JournalFault, Journal}
use Rattle.journal.specs.Journals.{Opens, Appended, journal_of, open_journal, append, buffer_after}
use Rattle.journal.specs.Calls.{calls}

-- in a buffer that begins with a journal's whole part, appending the call answers its end, and what the journal then is
-- (16.11)
pub record RecordAppended (part : List ℕ) (end : ℕ) (c : Call) (rest : List ℕ) : Type 0 where
  pub answer : append calls (part ++ rest) end c ≡ Appended end (end + call_size c)
  pub bytes : take (end + call_size c) (buffer_after calls (part ++ rest) end c) ≡ part ++ call_bytes c

-- a host keeps the state to which a journal opens, makes a call on it that is accepted, and stores the call's record
-- behind the last whole one. What it has then opens to the state after the call, and with only part of the record
-- stored to the state before it. It is what appending leaves (16.11)
pub record StoresRecord (b : List ℕ) (s : State) (end : ℕ) (c : Call) : Type 0 where
  pub opens : open_journal calls (take end b ++ call_bytes c) ≡ Opens (call s c).state (end + call_size c) 0
  pub torn : (n : ℕ) → n < call_size c → open_journal calls (take end b ++ take n (call_bytes c)) ≡ Opens s end n
  pub appends : (rest : List ℕ) → call_size c ≤ length rest → RecordAppended (take end b) end c rest

-- a journal up to an offset, behind its last whole record or before a bad one, holds an admitted sheet and calls that
-- were all accepted. The state is the one after them, the guarantee (demand 3) is true of them, and number 12 does not
-- apply (16.9)
pub record HoldsCalls (b : List ℕ) (t : State) (end : ℕ) : Type 0 where
  pub sheet_end : ℕ
  pub first : State
  pub made : List Call
  pub before : sheet_end ≤ end
  pub inside : end ≤ length b
  pub admits : read_sheet (take sheet_end b) ≡ admitted first
  pub accepted : turned_down first made ≡ 0
  pub written : are_bytes b ≡ true → take end b ≡ journal_of calls (take sheet_end b) made
  pub state : t ≡ after scheduler first made
  pub demand3 : Demand3 first.plan (seen scheduler first made) t
  pub hangs : coherent t ≡ true

-- so does every journal that opens, and one with a bad record up to there (16.9)
pub record JournalHolds (b : List ℕ) (r : Journal) : Type 0 where
  pub opened : (end left : ℕ) → r.verdict ≡ Ok (record { end = end; left = left }) → HoldsCalls b r.state end
  pub broken : (at : ℕ) → r.verdict ≡ Err (JournalFault.Broken at) → HoldsCalls b r.state at
