-- Definitions that only private functions' contracts cite: nothing here has to be believed.
pub mod Records
pub mod Progress
pub mod Place
