-- The event in a place is of a step, and a step has an event, over the array that a loop holds.
use Prim.Native.Nat.{ℕ, ◌≤◌, ◌<◌}
use native.Mathlib.Omega.{arith}
use borrow.Author.Tests.{eq-eqb, ne_eqb}
use mathlib.Core.Bool.{Bool, true, false}
use mathlib.Core.List.{List}
use mathlib.Core.Path.{◌≡◌, sym, ◌∙◌, ap}
use lib.Dec.{eqb}
use Rattle.plan.specs.Prelude.{Event, Plan}
use Rattle.plan.specs.Base.{any_below, read_at}
use Rattle.plan.specs.Plans.{blank_event, event_count, step_of, has_event}
use Rattle.plan.proofs.Loops.{some_hit, none_all}

abbrev pub step_in : List Event → ℕ → ℕ → Bool
step_in events k e = eqb (read_at 16 events e blank_event).step k

-- what the code reads of it decides the test
module _ (events : List Event) (k e : ℕ) (v : Event) (read : v ≡ read_at 16 events e blank_event) where
  pub step_hit : v.step ≡ k → step_in events k e ≡ true
  step_hit h = ap (λ (w : Event). eqb w.step k) (sym read) ∙ eq-eqb v.step k h

  pub step_miss : (v.step ≡ k → ⊥) → step_in events k e ≡ false
  step_miss h = ap (λ (w : Event). eqb w.step k) (sym read) ∙ ne_eqb v.step k h

-- a loop over the events of a plan with this array and count, at its ends
module _ (events : List Event) (count k e : ℕ) (p : Plan) (same : p.events ≡ events) (many : event_count p ≡ count) where
  alike : (i : ℕ) → step_in events k i ≡ eqb (step_of p i) k
  alike i = ap (λ (l : List Event). eqb (read_at 16 l i blank_event).step k) (sym same)

  pub has_some : e < count → step_in events k e ≡ true → true ≡ has_event p k
  unfolding has_event
  has_some lt here = some_hit (event_count p) (step_in events k) (λ d. eqb (step_of p d) k) alike e (omega (arith, many)) here

  pub has_none : e ≤ count → count ≤ e → any_below e (step_in events k) ≡ false → false ≡ has_event p k
  unfolding has_event
  has_none le ge before =
      none_all (event_count p) (step_in events k) (λ d. eqb (step_of p d) k) alike e (omega (arith, many)) (omega (arith, many)) before
