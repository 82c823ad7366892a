-- Rows that `from_fn` makes.
use Prim.Native.Nat.{ℕ, zero, suc, ◌+◌, ◌≤◌, ◌<◌}
use native.Mathlib.Decide.{ℕ_discrete}
use native.Mathlib.Omega.{arith}
use denote.Param.Members.{Mut}
use mathlib.Core.List.{List}
use mathlib.Core.Path.{◌≡◌, sym, ◌∙◌, ap, subst}
use lib.ListN.{get_or}
use Rattle.std.specs.Fn.{Called}
use Rattle.std.specs.Array.{IsFromFnResult, IsFromFnResultFrom}
use Rattle.plan.specs.Base.{tabulate}
use Rattle.theory.proofs.Observation.{as_tabulate}

-- a closure stays as it is, and at each i below n gives g i
abbrev pub Gives : {F B : Type 0} → Mut F (ℕ × Unit {0}) B → F → ℕ → (ℕ → B) → Type 0
Gives {F} {B} m f n g = (i : ℕ) (y : B) (q : F) → i < n → Called m f (i, tt) y q → (y ≡ g i) × (q ≡ f)

module _ {F B : Type 0} (m : Mut F (ℕ × Unit {0}) B) (f : F) (n : ℕ) (g : ℕ → B) (gives : Gives m f n g) (ys : List B) (d : B) where
  made_from : (t i : ℕ) → i + t ≡ n → IsFromFnResultFrom m f ys i t → (k : ℕ) → i ≤ k → k < n → get_or ys k d ≡ g k
  made_from zero i s h k ge lt = absurd (omega arith)
  made_from (suc t) i s (q, y, at, call, rest) k ge lt =
      let same = gives i y q (omega arith) call in
      elim (ℕ_discrete k i) [
        | yes e ↦ ap (λ (x : ℕ). get_or ys x d) e ∙ at.1 d ∙ same.0 ∙ ap g (sym e)
        | no ne ↦ made_from t (i + 1) (omega arith) (subst (λ (p : F). IsFromFnResultFrom m p ys (i + 1) t) same.1 rest) k (omega (arith, ne)) lt
      ]

module _ {F B : Type 0} {m : Mut F (ℕ × Unit {0}) B} {f : F} {n : ℕ} {ys : List B} (h : IsFromFnResult m f ys n) (g : ℕ → B) (d : B) (gives : Gives m f n g) where
  -- the row by its places, and as a whole
  pub made_at : (k : ℕ) → k < n → get_or ys k d ≡ g k
  made_at k lt = made_from m f n g gives ys d n 0 (omega arith) h.each k (omega arith) lt

  pub made : ys ≡ tabulate n 0 g
  made = as_tabulate n ys g d h.long made_at
