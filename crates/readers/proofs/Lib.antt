-- The lemmas that the functions' proofs cite, and rows of what the readers answer.
pub mod Cases
pub mod Places
