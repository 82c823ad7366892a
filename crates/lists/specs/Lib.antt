-- The types' names; what `run` promises is defined in `scheduler`.
pub mod Types
pub mod Internal
