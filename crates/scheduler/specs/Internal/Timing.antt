-- What sets say of the events that are in time, and of those whose window is over.
use Rattle.std.specs.Prelude.{◌<◌, ◌≡◌}
use Rattle.scheduler.specs.Prelude.{ℕ, State}
use Rattle.members.specs.declared.times.Times.{Times}
use Rattle.members.specs.Sets.{in_set}
use Rattle.scheduler.specs.State.{in_time, too_late}

pub record Timing (s : State) (t : Times) : Type 0 where
  pub timely : (x : ℕ) → x < 16 → in_set t.timely x ≡ in_time s x
  pub late : (x : ℕ) → x < 16 → in_set t.late x ≡ too_late s x
