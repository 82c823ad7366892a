-- A test of every number below a bound.
use Rattle.std.specs.Prelude.{ℕ, ◌≡◌, ◌<◌, Bool}
use Rattle.plan.specs.Base.{all_below}

-- r says whether all of the n numbers pass t, where the call at i says whether i passes it
abbrev pub IsEveryTest : (ℕ → Bool → Type 0) → ℕ → Bool → Type 0
IsEveryTest calls n r =
    (t : ℕ → Bool) → ((i : ℕ) (b : Bool) → i < n → calls i b → b ≡ t i) → r ≡ all_below n t
