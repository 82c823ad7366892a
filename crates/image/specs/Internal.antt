-- Definitions that only the code's own contracts and proofs cite: nothing here has to be believed.
pub mod Tests
pub mod Writes
