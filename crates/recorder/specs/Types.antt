-- The types that `plan`, `scheduler` and `journal` declare, under one name each.
pub use Rattle.journal.specs.Types.{Plan, Call, Submit, Close, Finish, Advance, CallRead, Listed, End, Bad, SheetFault, Cut, BadKind, Full, BadStep, BadAttributes, BadNames, Unenforceable, Extra, BadWindow, CallFault, Answer, Refusal, State, Reading, Reply}
pub use Rattle.journal.specs.declared.record.NoRecord.{NoRecord}
pub use Rattle.journal.specs.declared.record.CallRecord.{CallRecord}
pub use Rattle.journal.specs.declared.record.NoCall.{NoCall}
pub use Rattle.journal.specs.declared.open.Opened.{Opened}
pub use Rattle.journal.specs.declared.open.JournalFault.{JournalFault}
pub use Rattle.journal.specs.declared.open.Journal.{Journal}
pub use Rattle.journal.specs.declared.append.Appended.{Appended}
pub use Rattle.journal.specs.declared.append.AppendFault.{AppendFault}
pub use Rattle.journal.specs.declared.append.AppendReply.{AppendReply}
