-- The sets of the windows: the loop over the sixteen events that reads them, and the one that asks for any at all.
use Prim.Native.Nat.{ℕ, ◌+◌, ◌≤◌, ◌<◌}
use native.Mathlib.Omega.{arith}
use borrow.Author.Tests.{lt-ltb, ltb-true}
use mathlib.Core.Bool.{Bool, false, ◌&&◌, ◌||◌, cond, and-true, and-false, or_comm}
use mathlib.Core.List.{List}
use mathlib.Core.Logic.{inl, inr}
use mathlib.Core.Path.{◌≡◌, sym, ◌∙◌, ap}
use lib.Dec.{eqb, ltb}
use lib.ListN.{get_or}
use Rattle.plan.specs.Base.{any_below}
use Rattle.plan.specs.Plans.{blank_window, is_window, allowed_in, over_in}
use Rattle.plan.proofs.Tests.{either, any_next, any_false}
use Rattle.members.specs.Prelude.{Window, Times}
use Rattle.members.specs.Sets.{in_set}
use Rattle.members.specs.Times.{window_in, any_window, Clocks}
use Rattle.members.proofs.Bits.{in_zero, in_full}
use Rattle.members.proofs.Views.{Upto, upto_zero, upto_next, upto_all}

module _ (windows : List Window) where
  -- what code reads
  window_read : (e : ℕ) → e < 16 → get_or windows e blank_window ≡ window_in windows e
  window_read e lt = ap (λ t. cond t (get_or windows e blank_window) blank_window) (sym (lt-ltb e 16 lt))

  abbrev pub windowed_in : ℕ → Bool
  windowed_in x = is_window (window_in windows x)

  -- any window below e + 1
  pub any_more : (any : Bool) (e : ℕ)
      → any ≡ any_below e windowed_in
      → e < 16
      → (any || is_window (get_or windows e blank_window)) ≡ any_below (e + 1) windowed_in
  any_more any e before lt =
      rw (window_read e lt, before) (or_comm (any_below e windowed_in) (windowed_in e) ∙ sym (any_next e windowed_in))

  -- without any
  module _ (m : ℕ) (none : any_window windows ≡ false) where
    timely_without : (x : ℕ) → in_set 65535 x ≡ (ltb x 16 && allowed_in (window_in windows x) m)
    unfolding allowed_in
    timely_without x = elim (either (ltb x 16)) [
      | inl t ↦ in_full x ∙ rw (any_false 16 windowed_in none x (ltb-true x 16 t)) (sym (and-true (ltb x 16)))
      | inr t ↦ in_full x ∙ rw t
    ]

    late_without : (x : ℕ) → in_set 0 x ≡ (ltb x 16 && over_in (window_in windows x) m)
    unfolding over_in
    late_without x = elim (either (ltb x 16)) [
      | inl t ↦ in_zero x ∙ rw (any_false 16 windowed_in none x (ltb-true x 16 t)) (sym (and-false (ltb x 16)))
      | inr t ↦ in_zero x ∙ rw t
    ]

    pub clocks_without : Clocks windows m (record { timely = 65535; late = 0 })
    clocks_without = record { timely = timely_without; late = late_without }

module _ (windows : List Window) (m : ℕ) where
  abbrev timely_in : ℕ → Bool
  timely_in x = allowed_in (window_in windows x) m

  abbrev late_in : ℕ → Bool
  late_in x = over_in (window_in windows x) m

  pub record Clocked (timely late e : ℕ) : Type 0 where
    pub within : e ≤ 16
    pub timelies : Upto timely_in timely e
    pub lates : Upto late_in late e

  pub clocked_none : Clocked 0 0 0
  clocked_none = record { within = omega arith; timelies = upto_zero timely_in; lates = upto_zero late_in }

  module _ (timely late e : ℕ) (before : Clocked timely late e) (lt : e < 16) where
    abbrev With : ℕ → ℕ → Bool → Type 0
    With s n b = (x : ℕ) → in_set n x ≡ ((eqb x e && (ltb e 16 && b)) || in_set s x)

    pub clocked_next : (timely' late' : ℕ) (a o : Bool)
        → a ≡ allowed_in (get_or windows e blank_window) m
        → With timely timely' a
        → o ≡ over_in (get_or windows e blank_window) m
        → With late late' o
        → Clocked timely' late' (e + 1)
    clocked_next timely' late' a o is-a in-a is-o in-o =
        let read = window_read windows e lt in
        let timed : a ≡ timely_in e = is-a ∙ ap (λ (w : Window). allowed_in w m) read in
        let ended : o ≡ late_in e = is-o ∙ ap (λ (w : Window). over_in w m) read in
        record {
          within = omega arith;
          timelies = upto_next timely_in timely e before.timelies timely' a lt timed in-a;
          lates = upto_next late_in late e before.lates late' o lt ended in-o;
        }

  pub clocked_all : (t : Times) (e : ℕ) → Clocked t.timely t.late e → 16 ≤ e → Clocks windows m t
  clocked_all t e s ge = record {
    timely = upto_all timely_in t.timely e s.timelies ge s.within;
    late = upto_all late_in t.late e s.lates ge s.within;
  }
