-- The names that the definitions use: the library's, and the types that `plan` declares.
pub use Rattle.std.specs.Prelude.{ℕ, zero, suc, Bool, true, false, not, cond, List, [], eqb, ltb, length}
pub use Rattle.std.specs.declared.option.Option.{Option}
pub use Rattle.std.specs.declared.option.Option.TheVariants.{None as none, Some as some}
pub use Rattle.std.specs.Option.{option_map as map_option}
pub use Rattle.plan.specs.declared.fate.Fate.{Fate}
pub use Rattle.plan.specs.declared.fate.Fate.TheVariants.{Open, Held, Done, Refused, Lapsed, Forced}
pub use Rattle.plan.specs.declared.rule.Rule.{Rule}
pub use Rattle.plan.specs.declared.rule.Rule.TheVariants.{Order, Need, Conditional}
pub use Rattle.plan.specs.declared.plan.Plan.{Plan}
