-- Names for types. What a report is stands in `scheduler`, what a buffer holds after it in `pages`; `Internal` is for
-- private functions.
pub mod Types
pub mod Internal
