-- What `open_journal` promises besides its result: an admitted sheet and accepted calls, of which demand 3 is true.
use Prim.Native.Nat.{ℕ}
use mathlib.Core.List.{List}
use mathlib.Core.Path.{◌≡◌}
use Rattle.recorder.specs.Types.{Journal}
use Rattle.journal.specs.Journals.{open_journal}
use Rattle.journal.specs.Calls.{calls}
use Rattle.journal.specs.Answers.{journal_read}
use Rattle.journal.specs.Scheduled.{JournalHolds}
use Rattle.journal.proofs.Scheduled.{opens_holds, broken_holds}
use Rattle.recorder.proofs.AppendSteps.{was_opened, was_broken}

pub journal_holds : (b : List ℕ) (r : Journal) → r ≡ journal_read (open_journal calls b) → JournalHolds b r
journal_holds b r is = record {
  opened = λ end left h. opens_holds b r.state end left (was_opened (open_journal calls b) r is (record { end = end; left = left }) h);
  broken = λ at h. broken_holds b r.state at (was_broken (open_journal calls b) r is at h);
}
