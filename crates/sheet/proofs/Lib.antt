-- The lemmas that the functions' proofs cite.
pub mod RecordLaws
pub mod Rooms
pub mod Reading
pub mod ReaderOwned
pub mod ArrayStore
pub mod PlanStored
pub mod KindLaws
