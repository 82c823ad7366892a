-- Lemmas over the definitions of `coherence`, lowest first.
pub mod Lines
pub mod Listings
pub mod CoherentTests
pub mod WindowTests
