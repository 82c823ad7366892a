-- The types that `plan` and `scheduler` declare, under one name each.
pub use Rattle.plan.specs.declared.fate.Fate.{Fate}
pub use Rattle.plan.specs.declared.fate.Fate.TheVariants.{Open, Held, Done, Refused, Lapsed, Forced}
pub use Rattle.plan.specs.declared.history.Entry.{Entry}
pub use Rattle.plan.specs.declared.answer.SheetFault.{SheetFault}
pub use Rattle.plan.specs.declared.answer.SheetFault.TheVariants.{Cut, BadKind, Full, BadStep, BadAttributes, BadNames, Unenforceable, Extra, BadWindow}
pub use Rattle.plan.specs.declared.answer.Refusal.{Refusal}
pub use Rattle.std.specs.declared.result.Result.{Result}
pub use Rattle.std.specs.declared.result.Result.TheVariants.{Ok, Err}
pub use Rattle.scheduler.specs.declared.state.State.{State}
pub use Rattle.scheduler.specs.declared.reply.Outcome.{Outcome}
