-- What theorems prove and no function's contract says.
pub mod HeldFirst
pub mod Marks
pub mod Waiting
pub mod Windows
pub mod Exact
