-- Lemmas on sheets written out, the theorems on them, and cases.
pub mod Declared
pub mod Joining
pub mod Putting
pub mod Padded
pub mod ReadingBack
pub mod Sheets
pub mod Replies
pub mod KeptSheets
pub mod Cases
