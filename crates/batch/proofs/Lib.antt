-- The lemmas that the functions' proofs cite, the theorems on batches, and rows by computation.
pub mod EntryTurns
pub mod Verdicts
pub mod BatchLoop
pub mod Batches
pub mod KeptBatches
pub mod Cases
