-- A journal: its records, opening it, appending to it, and what is claimed of it; the scheduler's calls in it.
pub mod Types
pub mod Records
pub mod Journals
pub mod Claims
pub mod Calls
pub mod Scheduled
pub mod Answers
