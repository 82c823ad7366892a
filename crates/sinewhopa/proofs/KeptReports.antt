-- The report of a kept state, at the two ends of the function: where the bytes are not sound, and where they are.
use Prim.Native.Nat.{ℕ, ◌≤◌}
use native.Mathlib.Omega.{arith}
use borrow.Author.Tests.{le-leb, not-true, not-false}
use mathlib.Core.Bool.{Bool, true, false, not}
use mathlib.Core.List.{List, []}
use mathlib.Core.Path.{◌≡◌, refl, sym, ◌∙◌, ap}
use lib.ListN.{length}
use Rattle.std.specs.Prelude.{Ok}
use Rattle.scheduler.specs.declared.state.State.{State}
use Rattle.scheduler.specs.Runner.{report}
use Rattle.image.specs.Layout.{state_in}
use Rattle.image.specs.Calls.{is_sound, kept_outcome, report_on}
use Rattle.pages.specs.Filled.{filled}

-- a text's length and what it leaves in a buffer, as a function promises them
abbrev Written : List ℕ → List ℕ → ℕ → List ℕ → Type 0
Written text out r l = (r ≡ length text) × ((l ≡ filled text out) × (r ≤ 320))

-- no text leaves the buffer alone
filled_none : (out : List ℕ) → out ≡ filled [] out
unfolding filled
filled_none out = rw (le-leb 0 (length out) (omega arith), filled)

-- the branches of `report_on`
module _ (b : List ℕ) (n : ℕ) where
  nothing : is_sound b ≡ false → report_on b n ≡ []
  unfolding report_on
  nothing h = rw h

  something : is_sound b ≡ true → report_on b n ≡ report (kept_outcome b n)
  unfolding report_on
  something h = rw h

module _ (b out : List ℕ) (n : ℕ) (t : Bool) (e : t ≡ is_sound b) where
  pub not_reported : not t ≡ true → Written (report_on b n) out 0 out
  not_reported h = rw none (refl, (filled_none out, omega arith))
    where
      none : report_on b n ≡ []
      none = nothing b n (sym e ∙ not-true t h)

  pub reported : not t ≡ false
      → (s : State)
      → s ≡ state_in b
      → (r : ℕ) (l : List ℕ)
      → Written (report (record { verdict = Ok tt; state = s; refused = n })) out r l
      → Written (report_on b n) out r l
  reported h s g r l w = rw same w
    where
      same : report_on b n ≡ report (record { verdict = Ok tt; state = s; refused = n })
      same =
          something b n (sym e ∙ not-false t h)
          ∙ ap (λ (x : State). report (record { verdict = Ok tt; state = x; refused = n })) (sym g)
