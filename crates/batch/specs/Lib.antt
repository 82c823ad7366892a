-- Batches: submits (hand-ins) and closings that are made together, on a state and on a kept one.
pub mod Types
pub mod Batch
pub mod Kept
pub mod Internal
