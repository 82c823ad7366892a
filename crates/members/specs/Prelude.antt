-- The names that the definitions use: the library's, and the types that the crates below and this one declare.
pub use Rattle.std.specs.Prelude.{ℕ, zero, suc, Bool, true, false, not, List, eqb, ltb}
pub use Rattle.std.specs.declared.option.Option.{Option}
pub use Rattle.std.specs.declared.option.Option.TheVariants.{None as none, Some as some}
pub use Rattle.plan.specs.declared.fate.Fate.{Fate}
pub use Rattle.plan.specs.declared.fate.Standing.{Standing}
pub use Rattle.plan.specs.declared.event.Event.{Event}
pub use Rattle.plan.specs.declared.rule.Rule.{Rule}
pub use Rattle.plan.specs.declared.rule.Rule.TheVariants.{Order, Need, Conditional}
pub use Rattle.plan.specs.declared.rule.RuleLine.{RuleLine}
pub use Rattle.plan.specs.declared.plan.Plan.{Plan}
pub use Rattle.plan.specs.declared.window.Window.{Window}
pub use Rattle.members.specs.declared.times.Times.{Times}
pub use Rattle.members.specs.declared.view.View.{View}
pub use Rattle.members.specs.declared.view.Facts.{Facts}
pub use Rattle.members.specs.declared.ground.Ground.{Ground}
pub use Rattle.members.specs.declared.closed.Members.{Members}
