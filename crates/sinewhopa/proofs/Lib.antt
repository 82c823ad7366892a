-- The lemmas that the functions' proofs cite.
pub mod KeptReports
