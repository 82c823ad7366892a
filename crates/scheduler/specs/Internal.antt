-- Definitions that only private functions' contracts cite: nothing here has to be believed.
pub mod GroundOf
pub mod Hopeful
pub mod Marked
pub mod Placed
pub mod Timing
