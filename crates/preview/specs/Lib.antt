-- Previews: what a submit (hand in) would settle, on a state and on a kept one.
pub mod Types
pub mod Preview
pub mod Kept
