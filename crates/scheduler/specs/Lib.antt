-- The definitions of a state and its calls that a reader has to believe, in the specification's order. `Internal` is
-- for private functions.
pub mod Prelude
pub mod State
pub mod Rules
pub mod Orders
pub mod Calls
pub mod Coherent
pub mod Answers
pub mod Sheet
pub mod Lists
pub mod Runner
pub mod Demand
pub mod Grounds
pub mod Doing
pub mod Internal
