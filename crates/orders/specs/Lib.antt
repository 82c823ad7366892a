-- Sets of events that the rules ask for together, and orders within one. Of these only `Sequences` has to be believed: no
-- promise of a public function speaks of the others.
pub mod Prelude
pub mod Sequences
pub mod Closed
pub mod Leasts
pub mod Runs
pub mod Stepwise
