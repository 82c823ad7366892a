-- The names that the definitions use: those of the library, passed on unchanged, and the types that the code declares.
pub use Rattle.std.specs.Prelude.{ℕ, zero, suc, Bool, true, false, not, cond, List, [], eqb, ltb, leb, length, get_or, take, drop, set, replicate}
pub use Rattle.std.specs.declared.option.Option.{Option}
pub use Rattle.std.specs.declared.option.Option.TheVariants.{None as none, Some as some}
pub use Rattle.plan.specs.declared.fate.Fate.{Fate}
pub use Rattle.plan.specs.declared.fate.Fate.TheVariants.{Open, Held, Done, Refused, Lapsed, Forced}
pub use Rattle.plan.specs.declared.fate.Standing.{Standing}
pub use Rattle.plan.specs.declared.event.Event.{Event}
pub use Rattle.plan.specs.declared.rule.Rule.{Rule}
pub use Rattle.plan.specs.declared.rule.Rule.TheVariants.{Order, Need, Conditional}
pub use Rattle.plan.specs.declared.rule.RuleLine.{RuleLine}
pub use Rattle.plan.specs.declared.window.Window.{Window}
pub use Rattle.plan.specs.declared.plan.Plan.{Plan}
pub use Rattle.plan.specs.declared.history.Entry.{Entry}
pub use Rattle.plan.specs.declared.record.Record.{Record}
pub use Rattle.plan.specs.declared.calls.Call.{Call}
pub use Rattle.plan.specs.declared.calls.Call.TheVariants.{Submit, Close, Finish, Advance}
pub use Rattle.plan.specs.declared.calls.CallRead.{CallRead}
pub use Rattle.plan.specs.declared.calls.CallRead.TheVariants.{Listed, End, Bad}
pub use Rattle.plan.specs.declared.answer.SheetFault.{SheetFault}
pub use Rattle.plan.specs.declared.answer.SheetFault.TheVariants.{Cut, BadKind, Full, BadStep, BadAttributes, BadNames, Unenforceable, Extra, BadWindow}
pub use Rattle.plan.specs.declared.answer.CallFault.{CallFault}
pub use Rattle.plan.specs.declared.answer.CallFault.TheVariants.{Unknown, AlreadyClosed, NotClosed, Incoherent, TooLong, NoRoom, Backward}
pub use Rattle.plan.specs.declared.answer.Answer.{Answer}
pub use Rattle.plan.specs.declared.answer.Answer.TheVariants.{Is, Made, TurnedDown}
pub use Rattle.plan.specs.declared.answer.Refusal.{Refusal}
pub use Rattle.std.specs.declared.result.Result.{Result}
pub use Rattle.std.specs.declared.result.Result.TheVariants.{Ok, Err}
