-- The lemmas: what is done together with an event, and in which order.
pub mod Grounds
pub mod Lowest
pub mod Closure
pub mod Doing
pub mod Running
pub mod Cutting
pub mod Exchange
pub mod Taking
