-- The loop over a journal's records: what is left comes to the whole.
use Rattle.std.specs.Prelude.{ℕ, ◌≤◌, true, List, ◌≡◌, length, drop}
use Rattle.scheduler.specs.declared.state.State.{State}
use Rattle.scheduler.specs.State.{Sized}
use Rattle.scheduler.specs.Coherent.{coherent}
use Rattle.journal.specs.Records.{run}
use Rattle.journal.specs.Journals.{opened_at}
use Rattle.journal.specs.Calls.{calls}

-- at a state and an offset: the records that are left come to what all of them come to, from s and `from` on
pub record Underway (s : State) (b : List ℕ) (from : ℕ) (t : State) (at : ℕ) : Type 0 where
  pub inside : at ≤ length b
  pub same : opened_at at (length b) (run calls t (drop at b)) ≡ opened_at from (length b) (run calls s (drop from b))
  pub passes : coherent t ≡ true
  pub sized : Sized t
