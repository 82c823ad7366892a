-- Lemmas over the definitions of `members`, lowest first.
pub mod Bits
pub mod Lowest
pub mod PlaceReads
pub mod Views
pub mod Clocking
pub mod ViewAfter
pub mod RuleSets
pub mod Blocking
pub mod Targets
pub mod Growing
pub mod Sparing
