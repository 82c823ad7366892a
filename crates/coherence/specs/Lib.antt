-- What the passes of number 12 promise. What number 12 asks of a state is said in `scheduler`, which proves that `coheres`
-- of its parts is the same.
pub mod Prelude
pub mod Cohering
pub mod Listings
