-- Lists of events compared from the front.
use Rattle.std.specs.Prelude.{◌<◌, ◌∷◌, ◌⊎◌, ◌≡◌}
use Rattle.orders.specs.Prelude.{ℕ, List, []}

-- compared from the front, o comes before q or is q (7.5)
abbrev pub Ahead : List ℕ → List ℕ → Type 0
Ahead [] q = Unit {0}
Ahead (c ∷ o) [] = ⊥
Ahead (c ∷ o) (d ∷ q) = (c < d) ⊎ ((c ≡ d) × Ahead o q)
