-- Viable orders, and the chosen one.
use Rattle.std.specs.Prelude.{◌≤◌, ◌<◌, ◌&&◌, ◌||◌, ◌∷◌, ◌⊎◌, ◌≡◌}
use Rattle.scheduler.specs.Prelude.{ℕ, zero, suc, Bool, true, false, not, List, [], List-as-Memᴰ, Option, none, some, map_option, eqb, length, get_or, Fate, State}
use Rattle.plan.specs.Base.{first_of, when, any_below, tabulate}
use Rattle.plan.specs.Fates.{is_open, done_as}
use Rattle.plan.specs.Plans.{event_count}
use Rattle.plan.specs.Rules.{ready}
use Rattle.orders.specs.Sequences.{Ahead}
use Rattle.scheduler.specs.declared.order.Found.{Found}
use Rattle.scheduler.specs.declared.order.Place.{Place}
use Rattle.scheduler.specs.State.{fate_of, in_time, settle_as}
use Rattle.scheduler.specs.Rules.{forbidden, owing}

-- the event is ready, no standing rule forbids it now, and its window allows it now (7.3)
unfoldable pub may_do : State → ℕ → Bool
may_do s c = ready s.plan (fate_of s) c && not (forbidden s c) && in_time s c

-- how an order settles an event: forced if it is open when its turn comes, else done (7.12)
abbrev pub fate_at_turn : State → ℕ → Fate
fate_at_turn s c = done_as (is_open (fate_of s c))

-- one event of an order is done (7.1)
abbrev pub do_one : State → ℕ → State
do_one s c = settle_as (fate_at_turn s c) s c

-- an order is run: its events are done, one after another (7.1)
unfoldable pub do_all : State → List ℕ → State
do_all s [] = s
do_all s (c ∷ o) = do_all (do_one s c) o

-- each event is declared and may be done in the state that those before it leave, and at the end no rule owes (7.3)
abbrev pub Runs : State → List ℕ → Type 0
Runs s [] = owing s ≡ false
Runs s (c ∷ o) = (c < event_count s.plan) × (may_do s c ≡ true) × Runs (do_one s c) o

-- no number occurs twice (7.3)
abbrev pub Different : List ℕ → Type 0
Different [] = Unit {0}
Different (c ∷ o) = (List-as-Memᴰ c o → ⊥) × Different o

-- the order is viable for e: it contains e, has at most six events, none of them twice, and runs (7.3)
pub record Viable (s : State) (e : ℕ) (o : List ℕ) : Type 0 where
  pub contains : List-as-Memᴰ e o
  pub short : length o ≤ 6
  pub different : Different o
  pub runs : Runs s o

-- the order is the chosen one for e: no viable order is shorter, and none of the same length comes before it (7.5)
pub record First (s : State) (e : ℕ) (o : List ℕ) : Type 0 where
  pub viable : Viable s e o
  pub least : (q : List ℕ) → Viable s e q → (length o < length q) ⊎ ((length o ≡ length q) × Ahead o q)

-- The search, proved to find exactly the chosen order. An order is its first event, and then an order that is one event
-- shorter, in the state after that event. The search gives the first order of k events, compared from the front, that
-- meets three conditions: its events pass the test `candidate`; it contains e, unless `had` says that e came earlier;
-- and no rule owes after it (7.4)
unfoldable pub order_of : (ℕ → Bool) → ℕ → State → ℕ → Bool → Option (List ℕ)
order_of candidate zero s e had = when (had && not (owing s)) (some [])
order_of candidate (suc k) s e had = first_of (event_count s.plan) 0 (λ c.
    let later = map_option (λ o. c ∷ o) (order_of candidate k (do_one s c) e (had || eqb c e)) in
    when (candidate c && may_do s c) later)

-- the chosen order for e: lengths 1 to 6 are tried, and the first that has an order gives it (7.5)
unfoldable pub chosen : State → ℕ → Option (List ℕ)
chosen s e = first_of 6 1 (λ k. order_of (λ c. true) k s e false)

-- the places of an order: its events, and which of them are open when their turn comes (7.12)
unfoldable pub places_of : State → List ℕ → List Place
places_of s [] = []
places_of s (c ∷ o) = record { event = c; opened = is_open (fate_of s c) } ∷ places_of (do_one s c) o

-- a place behind an order: zero, and not open
abbrev pub blank_place : Place
blank_place = record { event = 0; opened = false }

-- an order as code gives it: its places from the front and blank ones after them, and its length (7.5, 7.12)
abbrev pub found_events : State → List ℕ → Found
found_events s o = record { places = tabulate 6 0 (λ i. get_or (places_of s o) i blank_place); len = length o }

-- the order, if there is one (7.5)
unfoldable pub found_order : State → Option (List ℕ) → Option Found
found_order s none = none
found_order s (some o) = some (found_events s o)

-- some order of k events can be run, contains e, unless `had` says that e came earlier, and leaves no rule owing (7.3)
unfoldable pub some_order : ℕ → State → ℕ → Bool → Bool
some_order zero s e had = had && not (owing s)
some_order (suc k) s e had = any_below (event_count s.plan) (λ c.
    let later = some_order k (do_one s c) e (had || eqb c e) in
    may_do s c && later)

-- e has a viable order: the test tries all orders (7.3)
unfoldable pub has_viable : State → ℕ → Bool
has_viable s e = any_below 6 (λ k. some_order (suc k) s e false)
