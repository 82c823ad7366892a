-- Windows of time: what is allowed, and what is over for good.
pub use mathlib.Core.Bool.{not-not as not_twice}
use Prim.Native.Nat.{ℕ, ◌≤◌, ◌<◌}
use native.Mathlib.Omega.{arith}
use native.Mathlib.Decide.{dec_lt}
use borrow.Author.Tests.{leb-true, le-leb, ltb-true, lt-ltb}
use mathlib.Core.Bool.{Bool, true, false, not, ◌&&◌, ◌||◌}
use mathlib.Core.Logic.{inl, inr}
use mathlib.Core.Path.{◌≡◌, refl, ap}
use lib.Dec.{eqb, ltb, leb}
use Rattle.plan.specs.Prelude.{Window, Plan}
use Rattle.plan.specs.Plans.{event_count, blank_window, window_at, from_of, until_of, has_window, delayable, allowed_at, over_at, allowed_in, over_in}
use Rattle.plan.specs.Rules.{sound_window, sound_windows}
use Rattle.plan.proofs.Tests.{and_left, and_right, and_both, or_either, clash, either, all_at}
use Rattle.plan.proofs.Arrays.{read_past}

-- past the places there is none
pub window_past : (p : Plan) (e : ℕ) → 16 ≤ e → window_at p e ≡ blank_window
window_past p e ge = read_past 16 p.windows e blank_window ge

pub unwindowed_past : (p : Plan) (e : ℕ) → 16 ≤ e → has_window p e ≡ false
unwindowed_past p e ge = ap (λ (w : Window). not (eqb w.until 0)) (window_past p e ge)

module _ (p : Plan) (e : ℕ) where
  -- without a window every minute is right
  pub unwindowed_allowed : has_window p e ≡ false → (m : ℕ) → allowed_at p m e ≡ true
  unfolding allowed_at allowed_in
  unwindowed_allowed h m = rw h

  pub unwindowed_over : has_window p e ≡ false → (m : ℕ) → over_at p m e ≡ false
  unfolding over_at over_in
  unwindowed_over h m = rw h

  -- with one: from its first minute on, up to but not including its last
  pub allowed_within : (m : ℕ) → has_window p e ≡ true → allowed_at p m e ≡ true → (from_of p e ≤ m) × (m < until_of p e)
  unfolding allowed_at allowed_in
  allowed_within m h a =
      let w : (leb (from_of p e) m && ltb m (until_of p e)) ≡ true = rw h at a in
      (leb-true (from_of p e) m (and_left (leb (from_of p e) m) (ltb m (until_of p e)) w), ltb-true m (until_of p e) (and_right (leb (from_of p e) m) (ltb m (until_of p e)) w))

  pub within_allowed : (m : ℕ) → from_of p e ≤ m → m < until_of p e → allowed_at p m e ≡ true
  unfolding allowed_at allowed_in
  within_allowed m a b = elim (either (has_window p e)) [
    | inr n ↦ unwindowed_allowed n m
    | inl h ↦ rw (h, le-leb (from_of p e) m a, lt-ltb m (until_of p e) b)
  ]

  -- over: at its last minute and after it, for good, and then it is not allowed
  pub over_since : (m : ℕ) → over_at p m e ≡ true → (has_window p e ≡ true) × (until_of p e ≤ m)
  unfolding over_at over_in
  over_since m h = (and_left (has_window p e) (leb (until_of p e) m) h, leb-true (until_of p e) m (and_right (has_window p e) (leb (until_of p e) m) h))

  pub since_over : (m : ℕ) → has_window p e ≡ true → until_of p e ≤ m → over_at p m e ≡ true
  unfolding over_at over_in
  since_over m h le = and_both (has_window p e) (leb (until_of p e) m) h (le-leb (until_of p e) m le)

  pub over_later : (m n : ℕ) → m ≤ n → over_at p m e ≡ true → over_at p n e ≡ true
  over_later m n le h = let w = over_since m h in since_over n w.0 (omega (arith, w.1))

  pub over_disallowed : (m : ℕ) → over_at p m e ≡ true → allowed_at p m e ≡ false
  over_disallowed m h = elim (either (allowed_at p m e)) [
    | inr f ↦ f
    | inl a ↦ let w = over_since m h in let v = allowed_within m w.0 a in absurd (omega (arith, w.1, v.1))
  ]

  -- an event that cannot wait has none
  pub undelayable_unwindowed : sound_window p e ≡ true → delayable p e ≡ false → has_window p e ≡ false
  unfolding sound_window
  undelayable_unwindowed s d = elim (or_either (eqb (from_of p e) 0 && eqb (until_of p e) 0) (ltb e (event_count p) && delayable p e && ltb (from_of p e) (until_of p e)) s) [
    | inl t ↦ ap not (and_right (eqb (from_of p e) 0) (eqb (until_of p e) 0) t)
    | inr t ↦ absurd (clash (and_right (ltb e (event_count p)) (delayable p e) (and_left (ltb e (event_count p) && delayable p e) (ltb (from_of p e) (until_of p e)) t)) d)
  ]

pub blank_sound : (p : Plan) (e : ℕ) → window_at p e ≡ blank_window → sound_window p e ≡ true
unfolding sound_window
blank_sound p e h =
    ap (λ (w : Window). (eqb w.from 0 && eqb w.until 0) || (ltb e (event_count p) && delayable p e && ltb w.from w.until)) h

-- every place of a plan that passes, and those past them
pub windows_sound : (p : Plan) → sound_windows p ≡ true → (e : ℕ) → sound_window p e ≡ true
unfolding sound_windows
windows_sound p h e = elim (dec_lt e 16) [
  | yes lt ↦ all_at 16 (sound_window p) h e lt
  | no ge ↦ blank_sound p e (window_past p e (omega arith))
]
