-- Lemmas over the definitions of `scheduler`, lowest first; the marked cases last.
pub mod Laws
pub mod CoherentParts
pub mod Branches
pub mod Searching
pub mod LeastSets
pub mod Sizes
pub mod SearchLoops
pub mod Timings
pub mod Settling
pub mod SettleLoops
pub mod Grounds
pub mod Doing
pub mod Courses
pub mod Decimals
pub mod CallLoops
pub mod CallSteps
pub mod Cases
