-- Lemmas over the definitions of `plan`, lowest first; the rows by computation last.
pub mod Tests
pub mod Arrays
pub mod ByteReads
pub mod Fates
pub mod RuleReads
pub mod Loops
pub mod Lines
pub mod Tables
pub mod Windows
pub mod FaultlessRecords
pub mod Steps
pub mod SheetReading
pub mod CallRecords
pub mod CallDecoding
pub mod AnyCalls
pub mod Cases
pub mod FormatCases
