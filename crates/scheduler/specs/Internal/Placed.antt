-- The rest of an order in the search's array.
use Rattle.std.specs.Prelude.{◌+◌, ◌∷◌}
use Rattle.scheduler.specs.Prelude.{ℕ, List, [], Option, none, some, length, set, replicate, State}
use Rattle.scheduler.specs.declared.order.Found.{Found}
use Rattle.scheduler.specs.declared.order.Place.{Place}
use Rattle.scheduler.specs.Orders.{places_of, blank_place}

-- no event of an order placed yet
abbrev pub blank_order : ℕ → Found
blank_order n = record { places = replicate 6 blank_place; len = n }

-- the rest of an order's places from place i on: it stands at i and after, among blank ones
unfoldable pub placed : ℕ → List Place → List Place
placed i [] = replicate 6 blank_place
placed i (p ∷ o) = set (placed (i + 1) o) i p

-- the rest of an order, from a state on, and the length is the whole order's
abbrev pub placed_order : State → ℕ → List ℕ → Found
placed_order s i o = record { places = placed i (places_of s o); len = i + length o }

unfoldable pub found_from : State → ℕ → Option (List ℕ) → Option Found
found_from s i none = none
found_from s i (some o) = some (placed_order s i o)
