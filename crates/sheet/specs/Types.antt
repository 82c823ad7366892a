-- The types that `plan`, `scheduler` and this crate declare, under one name each.
pub use Rattle.plan.specs.declared.event.Event.{Event}
pub use Rattle.plan.specs.declared.rule.Rule.{Rule}
pub use Rattle.plan.specs.declared.rule.Rule.TheVariants.{Order, Need, Conditional}
pub use Rattle.plan.specs.declared.rule.RuleLine.{RuleLine}
pub use Rattle.plan.specs.declared.plan.Plan.{Plan}
pub use Rattle.plan.specs.declared.record.Record.{Record}
pub use Rattle.plan.specs.declared.answer.SheetFault.{SheetFault}
pub use Rattle.plan.specs.declared.answer.SheetFault.TheVariants.{Cut, BadKind, Full, BadStep, BadAttributes, BadNames, Unenforceable, Extra, BadWindow}
pub use Rattle.plan.specs.declared.answer.Refusal.{Refusal}
pub use Rattle.scheduler.specs.declared.state.State.{State}
pub use Rattle.scheduler.specs.declared.reply.Reading.{Reading}
pub use Rattle.sheet.specs.declared.kind.Kind.{Kind}
pub use Rattle.sheet.specs.declared.reader.Reader.{Reader}
