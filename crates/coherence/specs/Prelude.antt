-- The names that the definitions use: the library's, and the types that `plan` and this crate declare.
pub use Rattle.std.specs.Prelude.{ℕ, Bool, true, false, not, List, eqb, ltb, leb}
pub use Rattle.plan.specs.declared.fate.Fate.{Fate}
pub use Rattle.plan.specs.declared.fate.Fate.TheVariants.{Open}
pub use Rattle.plan.specs.declared.fate.Standing.{Standing}
pub use Rattle.plan.specs.declared.event.Event.{Event}
pub use Rattle.plan.specs.declared.rule.Rule.{Rule}
pub use Rattle.plan.specs.declared.rule.Rule.TheVariants.{Order, Need, Conditional}
pub use Rattle.plan.specs.declared.rule.RuleLine.{RuleLine}
pub use Rattle.plan.specs.declared.window.Window.{Window}
pub use Rattle.plan.specs.declared.plan.Plan.{Plan}
pub use Rattle.plan.specs.declared.history.Entry.{Entry}
pub use Rattle.coherence.specs.declared.listing.Listing.{Listing}
