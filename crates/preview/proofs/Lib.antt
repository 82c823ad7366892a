-- The lemmas that the functions' proofs cite, the theorems on previews, and rows by computation.
pub mod Replies
pub mod Growth
pub mod KeptPreviews
pub mod Cases
