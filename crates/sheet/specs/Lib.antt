-- Names for types, and what private functions answer. What a sheet comes to is defined in `plan` and `scheduler`.
pub mod Types
pub mod Internal
