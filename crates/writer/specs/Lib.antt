-- A state written out as a sheet, and the same on a kept state; `Internal` is for private functions.
pub mod Types
pub mod Writing
pub mod Kept
pub mod Internal
