-- A state that a function was given has arrays of their lengths: what owning it tells.
use mathlib.Core.List.{List}
use mir.Val.{Val}
use denote.Laws.{Is}
use denote.Struct.Declared.{row}
use Rattle.scheduler.specs.contracts.state.State.{the_type}
use Rattle.scheduler.specs.Prelude.{State}
use Rattle.scheduler.specs.State.{Sized}

pub sized : (s : State) {vs : List Val} → Is (row the_type) s vs → Sized s
sized s g = record {
  standings_len = g.1.1.1.0.1.0.1;
  broken_len = g.1.1.1.1.0.1.0.1;
  closed_len = g.1.1.1.1.1.0.1.0.1;
  history_len = g.1.1.1.1.1.1.0.1.0.1;
}
