-- What one pass over the lines of a history tells of its events.
use Rattle.std.specs.Prelude.{◌&&◌, ◌≡◌, Option, MatchOption}
use Rattle.coherence.specs.Prelude.{ℕ, Bool, true, false, not, List, ltb, Entry, Listing}
use Rattle.plan.specs.Base.{all_below, read_at}
use Rattle.plan.specs.Fates.{Fates, is_settled}
use Rattle.plan.specs.Histories.{done_in, done_in_turn, declared_only, listed_as}

-- the place of an event that is not done in the history is 0, and the others have places in the order in which they
-- are done (6.8)
pub record Placed (h : List Entry) (place : ℕ → ℕ) : Type 0 where
  pub done : (e : ℕ) → done_in h e ≡ ltb 0 (place e)
  pub turn : (a b : ℕ) → done_in_turn h a b ≡ (ltb 0 (place a) && ltb (place a) (place b))

-- the place that an array gives e
abbrev pub place_in : List ℕ → ℕ → ℕ
place_in places e = read_at 16 places e 0

-- the history lists the events as their fates f ask for, but for the settled ones that are not marked as listed (10.4)
abbrev pub Marked : List Entry → Fates → List Bool → Type 0
Marked h f listed = (e : ℕ) → listed_as h e (f e) ≡ not (is_settled (f e) && not (read_at 16 listed e false))

-- every line names one of n declared events, the events are marked, and what is done has its place (10.4)
pub record Told (h : List Entry) (n : ℕ) (f : Fates) (l : Listing) : Type 0 where
  pub declared : declared_only h n ≡ true
  pub events : Marked h f l.listed
  pub placed : Placed h (place_in l.places)

-- the pass tells that; where it tells nothing, a line shows that the history does not go with the events and their fates
-- (10.4)
abbrev pub Listed : List Entry → ℕ → Fates → Option Listing → Type 0
Listed h n f r = MatchOption r ((declared_only h n && all_below n (λ e. listed_as h e (f e))) ≡ false) (Told h n f)
