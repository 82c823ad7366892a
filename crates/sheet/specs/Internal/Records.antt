-- The bytes of a record, and of its kind.
use Rattle.std.specs.Prelude.{ℕ, ◌+◌, List, [], ◌∷◌, get_or}
use Rattle.sheet.specs.declared.kind.Kind.{Kind}
use Rattle.sheet.specs.declared.kind.Kind.TheVariants.{Event, Order, Need, Conditional, End, FourEvents, Window}

-- a kind's byte (3.2)
abbrev pub number_of : Kind → ℕ
number_of k = elim k [
  | Event ↦ 1
  | Order ↦ 2
  | Need ↦ 3
  | Conditional ↦ 4
  | End ↦ 5
  | FourEvents ↦ 6
  | Window ↦ 7
]

-- the four bytes from an offset on; past the sheet's end, zeros
abbrev pub four_bytes_at : List ℕ → ℕ → List ℕ
four_bytes_at b at = get_or b at 0 ∷ get_or b (at + 1) 0 ∷ get_or b (at + 2) 0 ∷ get_or b (at + 3) 0 ∷ []
