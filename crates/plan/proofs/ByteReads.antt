-- A byte past the end of bytes is read as 0.
use Prim.Native.Nat.{ℕ, ◌≤◌}
use mathlib.Core.List.{List}
use mathlib.Core.Path.{◌≡◌, sym}
use lib.ListN.{length, get_or, get_or-eq_default}

pub past_end : (b : List ℕ) (at : ℕ) → length b ≤ at → 0 ≡ get_or b at 0
past_end b at h = sym (get_or-eq_default b 0 {n = at} h)
