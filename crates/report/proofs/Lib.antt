-- Lemmas on the texts of a report, and on how long it can be.
pub mod Digits
pub mod Splits
pub mod Bounds
