-- The theorems on journals.
pub mod Fronts
pub mod Runs
pub mod Sheets
pub mod Openings
pub mod Cuts
pub mod Appends
pub mod CallLaws
pub mod Scheduled
pub mod Cases
pub mod Guards
