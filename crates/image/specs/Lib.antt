-- A state as 384 bytes, and the calls on it.
pub mod Types
pub mod Layout
pub mod Calls
pub mod Internal
