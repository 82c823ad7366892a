-- What a search may be told of the events that are at hand.
use Rattle.std.specs.Prelude.{◌<◌, ◌≡◌}
use Rattle.scheduler.specs.Prelude.{ℕ, true, false, none, State}
use Rattle.plan.specs.Plans.{event_count}
use Rattle.plan.specs.Rules.{ready}
use Rattle.orders.specs.Closed.{Events}
use Rattle.scheduler.specs.State.{fate_of, in_time}
use Rattle.scheduler.specs.Orders.{chosen}

-- the events of the set are declared, at hand and in time, and any other event at hand has no order
pub record Hopeful (s : State) (able : Events) : Type 0 where
  pub hand : (x : ℕ) → able x ≡ true → (x < event_count s.plan) × (ready s.plan (fate_of s) x ≡ true) × (in_time s x ≡ true)
  pub others : (x : ℕ)
      → x < event_count s.plan
      → ready s.plan (fate_of s) x ≡ true
      → able x ≡ false
      → chosen s x ≡ none
