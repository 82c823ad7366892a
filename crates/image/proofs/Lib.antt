-- The image of a state: the theorems, and the lemmas that the functions' proofs cite.
pub mod Rows
pub mod Numbers
pub mod Words
pub mod Bytes
pub mod RowLoops
pub mod Made
pub mod Images
pub mod ImageCalls
pub mod ByteNumbers
pub mod CodeSteps
pub mod Cases
