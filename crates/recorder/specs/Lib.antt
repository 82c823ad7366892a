-- The types' names, and what the private functions promise; what the public ones promise is defined in `journal`.
pub mod Types
pub mod Internal
