-- The rows of a table: whether the first applies, and what it says that none does.
use mathlib.Core.Bool.{Bool, true, false}
use mathlib.Core.List.{List, [], ◌∷◌}
use Rattle.std.specs.declared.option.Option.TheVariants.{None as none, Some as some}
use mathlib.Core.Logic.{inl, inr}
use mathlib.Core.Path.{◌≡◌, refl, sym, ◌∙◌}
use Rattle.plan.specs.Faults.{first_fault}
use Rattle.plan.proofs.Tests.{some_none, either}

module _ {F : Type 0} (b : Bool) (f : F) (rows : List (Bool × F)) where
  -- the first row applies
  pub row_hit : b ≡ true → first_fault ((b, f) ∷ rows) ≡ some f
  unfolding first_fault
  row_hit h = rw (h, first_fault)

  -- it does not
  pub row_miss : b ≡ false → first_fault ((b, f) ∷ rows) ≡ first_fault rows
  unfolding first_fault
  row_miss h = rw (h, first_fault)

  -- no row applies
  pub none_applies : first_fault ((b, f) ∷ rows) ≡ none → (b ≡ false) × (first_fault rows ≡ none)
  none_applies h = elim (either b) [
    | inl t ↦ absurd (some_none (sym (row_hit t) ∙ h))
    | inr t ↦ (t, sym (row_miss t) ∙ h)
  ]

-- a table without rows
pub rows_none : {F : Type 0} → first_fault {F = F} [] ≡ none
unfolding first_fault
rows_none = refl

-- no row of a table applies
abbrev pub NoRow : {F : Type 0} → List (Bool × F) → Type 0
NoRow [] = Unit {0}
NoRow (x ∷ xs) = (x.0 ≡ false) × NoRow xs

pub no_row : {F : Type 0} (l : List (Bool × F)) → first_fault l ≡ none → NoRow l
no_row [] h = tt
no_row (x ∷ xs) h = let q = none_applies x.0 x.1 xs h in (q.0, no_row xs q.1)

pub no_row_none : {F : Type 0} (l : List (Bool × F)) → NoRow l → first_fault l ≡ none
no_row_none [] h = rows_none
no_row_none (x ∷ xs) h = row_miss x.0 x.1 xs h.0 ∙ no_row_none xs h.1
