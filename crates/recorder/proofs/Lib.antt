-- Lemmas for the proofs of this crate's functions.
pub mod RecordSteps
pub mod OpenSteps
pub mod AppendSteps
pub mod Promises
