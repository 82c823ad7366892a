-- The records of what stands at a plan's places.
use Rattle.std.specs.Prelude.{ℕ, suc, List, [], ◌∷◌, ◌++◌}

-- the record of each element, the first of which stands at place e
unfoldable pub records : {A : Type 0} → (ℕ → A → List ℕ) → ℕ → List A → List ℕ
records f e [] = []
records f e (x ∷ xs) = f e x ++ records f (suc e) xs
