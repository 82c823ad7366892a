-- Held events first: the search that looks at orders without forced events before the others.
use Rattle.std.specs.Prelude.{ℕ, ◌≤◌, ◌<◌, Bool, true, false, List, ◌≡◌, length}
use Rattle.std.specs.declared.option.Option.{Option}
use Rattle.scheduler.specs.declared.state.State.{State}
use Rattle.plan.specs.Base.{first_of, or_else}
use Rattle.plan.specs.Fates.{is_held}
use Rattle.plan.specs.Plans.{event_count}
use Rattle.plan.specs.Rules.{ready}
use Rattle.orders.specs.Closed.{Events}
use Rattle.orders.specs.Leasts.{least_set}
use Rattle.scheduler.specs.State.{fate_of, in_time}
use Rattle.scheduler.specs.Rules.{stands}
use Rattle.scheduler.specs.Orders.{Viable, order_of}

-- the order is viable for e, and no viable order is shorter (7.9)
pub record Shortest (s : State) (e : ℕ) (o : List ℕ) : Type 0 where
  pub viable : Viable s e o
  pub least : (q : List ℕ) → Viable s e q → length o ≤ length q

-- for each length, the shortest first: the first order whose events pass the test, or else the first of all orders
-- (7.9)
unfoldable pub first_among : (ℕ → Bool) → State → ℕ → Option (List ℕ)
first_among candidate s e = first_of 6 1 (λ k.
    let all = order_of (λ c. true) k s e false in
    or_else (order_of candidate k s e false) all)

-- the search looks at orders of events that are held in s before orders that force an open event (7.9)
unfoldable pub held_first : State → ℕ → Option (List ℕ)
held_first s e = first_among (λ c. is_held (fate_of s c)) s e

-- the least closed set of e: the events that have to be done with it (7.10)
abbrev pub members : State → ℕ → Events
members s e = least_set s.plan (stands s) (fate_of s) e

-- the event is declared, ready, and in time (7.2, 7.3)
abbrev pub AtHand : State → ℕ → Type 0
AtHand s x = (x < event_count s.plan) × (ready s.plan (fate_of s) x ≡ true) × (in_time s x ≡ true)
