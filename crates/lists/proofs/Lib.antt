-- The loops over a list, what its run promises, and rows by computation.
pub mod Running
pub mod Promises
pub mod ReplayCases
