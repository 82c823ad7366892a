-- What the private functions of a search promise. None of it has to be believed.
pub mod Prelude
pub mod Sets
pub mod Times
pub mod Growing
pub mod Lacking
