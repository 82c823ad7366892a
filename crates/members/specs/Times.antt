-- The windows in the sixteen places of an array: whether there is one, and what sets say of them at a minute.
use Rattle.std.specs.Prelude.{◌&&◌, ◌≡◌}
use Rattle.members.specs.Prelude.{ℕ, Bool, List, ltb, Window, Times}
use Rattle.plan.specs.Base.{any_below, read_at}
use Rattle.plan.specs.Plans.{blank_window, is_window, allowed_in, over_in}
use Rattle.members.specs.Sets.{in_set}

abbrev pub window_in : List Window → ℕ → Window
window_in windows x = read_at 16 windows x blank_window

-- one of the places has a window
abbrev pub any_window : List Window → Bool
any_window windows = any_below 16 (λ x. is_window (window_in windows x))

pub record Clocks (windows : List Window) (m : ℕ) (t : Times) : Type 0 where
  pub timely : (x : ℕ) → in_set t.timely x ≡ (ltb x 16 && allowed_in (window_in windows x) m)
  pub late : (x : ℕ) → in_set t.late x ≡ (ltb x 16 && over_in (window_in windows x) m)
