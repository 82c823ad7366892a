-- What a caller reads of a state.
pub mod Readers
