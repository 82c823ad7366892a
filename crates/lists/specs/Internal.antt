-- Definitions that only private functions' contracts cite: nothing here has to be believed.
pub mod Underway
pub mod Codecs
