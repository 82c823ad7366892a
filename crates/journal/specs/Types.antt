-- The types that `plan`, `scheduler` and this crate declare, under one name each.
pub use Rattle.plan.specs.declared.plan.Plan.{Plan}
pub use Rattle.plan.specs.declared.record.Record.{Record}
pub use Rattle.plan.specs.declared.calls.Call.{Call}
pub use Rattle.plan.specs.declared.calls.Call.TheVariants.{Submit, Close, Finish, Advance}
pub use Rattle.plan.specs.declared.calls.CallRead.{CallRead}
pub use Rattle.plan.specs.declared.calls.CallRead.TheVariants.{Listed, End, Bad}
pub use Rattle.plan.specs.declared.answer.SheetFault.{SheetFault}
pub use Rattle.plan.specs.declared.answer.SheetFault.TheVariants.{Cut, BadKind, Full, BadStep, BadAttributes, BadNames, Unenforceable, Extra, BadWindow}
pub use Rattle.plan.specs.declared.answer.CallFault.{CallFault}
pub use Rattle.plan.specs.declared.answer.CallFault.TheVariants.{Unknown, AlreadyClosed, NotClosed, Incoherent, TooLong, NoRoom, Backward}
pub use Rattle.plan.specs.declared.answer.Answer.{Answer}
pub use Rattle.plan.specs.declared.answer.Refusal.{Refusal}
pub use Rattle.scheduler.specs.declared.state.State.{State}
pub use Rattle.scheduler.specs.declared.reply.Reading.{Reading}
pub use Rattle.scheduler.specs.declared.reply.Reply.{Reply}
pub use Rattle.scheduler.specs.declared.reply.Outcome.{Outcome}
pub use Rattle.journal.specs.declared.record.NoRecord.{NoRecord}
pub use Rattle.journal.specs.declared.record.CallRecord.{CallRecord}
pub use Rattle.journal.specs.declared.record.NoCall.{NoCall}
pub use Rattle.journal.specs.declared.open.Opened.{Opened}
pub use Rattle.journal.specs.declared.open.JournalFault.{JournalFault}
pub use Rattle.journal.specs.declared.open.Journal.{Journal}
pub use Rattle.journal.specs.declared.append.Appended.{Appended}
pub use Rattle.journal.specs.declared.append.AppendFault.{AppendFault}
pub use Rattle.journal.specs.declared.append.AppendReply.{AppendReply}
