-- A list under way: what the calls that are left come to, and how bytes list calls.
use Rattle.std.specs.Prelude.{ℕ, ◌+◌, ◌≤◌, true, List, Ok, ◌≡◌, length, drop}
use Rattle.plan.specs.Base.{one_if}
use Rattle.plan.specs.Calls.{Decoded, first_call}
use Rattle.plan.proofs.CallDecoding.{Decodes}
use Rattle.scheduler.specs.State.{Sized}
use Rattle.scheduler.specs.Coherent.{coherent}
use Rattle.scheduler.specs.Lists.{scheduler, after, turned_down}
use Rattle.scheduler.specs.Runner.{ran_on}
use Rattle.lists.specs.Types.{Call, CallRead, Listed, State, Outcome}

-- the outcome of a list's calls from a state, with n calls turned down before them
abbrev pub outcome_from : State → ℕ → Decoded → Outcome
outcome_from s n d = record {
  verdict = Ok tt;
  state = after scheduler s d.calls;
  refused = n + (turned_down s d.calls + one_if d.cut);
}

-- the loop over bytes of some decoding, at a state and an offset, with n calls turned down: what is left comes to the
-- whole run, no more calls are counted than bytes are passed, and the state passes number 12
pub record Underway (decoding : List ℕ → Decoded) (s : State) (b : List ℕ) (t : State) (at n : ℕ) : Type 0 where
  pub inside : at ≤ length b
  pub same : outcome_from t n (decoding (drop at b)) ≡ ran_on s (decoding b)
  pub few : n ≤ at
  pub passes : coherent t ≡ true
  pub sized : Sized t

-- how bytes list calls: the reading of their first record, and the calls that they list by it. What the runner's
-- records hold is read alike
pub record IsCodec (first : List ℕ → CallRead) (decoding : List ℕ → Decoded) : Type 0 where
  pub decodes : Decodes first decoding
  pub keeps : (b : List ℕ) (c : Call) → first_call b ≡ Listed c → first b ≡ Listed c
