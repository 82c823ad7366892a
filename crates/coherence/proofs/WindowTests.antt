-- The windows of a plan: the loop over the sixteen places.
use Prim.Native.Nat.{ℕ, ◌<◌}
use mathlib.Core.Bool.{true, false}
use mathlib.Core.List.{List}
use mathlib.Core.Path.{◌≡◌, sym, ◌∙◌, ap₂}
use lib.Dec.{ltb}
use lib.ListN.{get_or}
use Rattle.coherence.specs.Prelude.{Bool, Event, Window, Plan}
use Rattle.plan.specs.Plans.{blank_event, blank_window, event_count}
use Rattle.plan.specs.Rules.{sound_window, sound_windows}
use Rattle.coherence.specs.Cohering.{right_as}
use Rattle.plan.proofs.Tests.{all_of}
use Rattle.plan.proofs.Loops.{all_fail}
use Rattle.plan.proofs.Arrays.{read_in}

-- what the code asks of a place
abbrev pub right_at : ℕ → List Event → List Window → ℕ → Bool
right_at n events windows e = right_as (ltb e n) (get_or events e blank_event).attributes (get_or windows e blank_window)

module _ (p : Plan) where
  right_sound : (e : ℕ) → e < 16 → right_at (event_count p) p.events p.windows e ≡ sound_window p e
  unfolding right_as sound_window
  right_sound e lt =
      ap₂ (λ (v : Event) (w : Window). right_as (ltb e (event_count p)) v.attributes w) (sym (read_in 16 p.events e blank_event lt)) (sym (read_in 16 p.windows e blank_window lt))

  pub window_wrong : (e : ℕ) → e < 16 → right_at (event_count p) p.events p.windows e ≡ false → sound_windows p ≡ false
  unfolding sound_windows
  window_wrong e lt h = all_fail 16 (sound_window p) e lt (sym (right_sound e lt) ∙ h)

  pub windows_right : ((e : ℕ) → e < 16 → right_at (event_count p) p.events p.windows e ≡ true) → sound_windows p ≡ true
  unfolding sound_windows
  windows_right h = all_of 16 (sound_window p) (λ e lt. sym (right_sound e lt) ∙ h e lt)
