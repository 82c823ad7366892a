-- The types that `plan` and `scheduler` declare, under one name each.
pub use Rattle.plan.specs.declared.calls.Call.{Call}
pub use Rattle.plan.specs.declared.calls.Call.TheVariants.{Submit, Close, Finish}
pub use Rattle.plan.specs.declared.calls.CallRead.{CallRead}
pub use Rattle.plan.specs.declared.calls.CallRead.TheVariants.{Listed, End, Bad}
pub use Rattle.plan.specs.declared.answer.Refusal.{Refusal}
pub use Rattle.scheduler.specs.declared.state.State.{State}
pub use Rattle.scheduler.specs.declared.reply.Reading.{Reading}
pub use Rattle.scheduler.specs.declared.reply.Reply.{Reply}
pub use Rattle.scheduler.specs.declared.reply.Outcome.{Outcome}
