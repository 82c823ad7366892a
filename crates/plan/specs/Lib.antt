-- The definitions of a plan that a reader has to believe; each file stands before those that use it.
pub mod Prelude
pub mod Base
pub mod Fates
pub mod Plans
pub mod Rules
pub mod Histories
pub mod Faults
pub mod Records
pub mod Sheets
pub mod Calls
