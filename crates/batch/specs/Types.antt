-- The types that `plan`, `scheduler` and this crate declare, under one name each.
pub use Rattle.plan.specs.declared.fate.Fate.{Fate}
pub use Rattle.plan.specs.declared.fate.Fate.TheVariants.{Open, Held, Done, Refused, Lapsed, Forced}
pub use Rattle.plan.specs.declared.plan.Plan.{Plan}
pub use Rattle.plan.specs.declared.calls.Call.{Call}
pub use Rattle.plan.specs.declared.calls.Call.TheVariants.{Submit, Close, Finish, Advance}
pub use Rattle.plan.specs.declared.answer.CallFault.{CallFault}
pub use Rattle.plan.specs.declared.answer.CallFault.TheVariants.{Unknown, AlreadyClosed, NotClosed, Incoherent, TooLong, NoRoom, Backward}
pub use Rattle.plan.specs.declared.answer.Answer.{Answer}
pub use Rattle.plan.specs.declared.answer.Answer.TheVariants.{Is, Made, TurnedDown}
pub use Rattle.scheduler.specs.declared.state.State.{State}
pub use Rattle.scheduler.specs.declared.reply.Reply.{Reply}
pub use Rattle.batch.specs.declared.entry.BatchEntry.{BatchEntry}
