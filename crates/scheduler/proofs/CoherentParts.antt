-- Number 12 of a state is what `coherence` says of its parts.
use Prim.Native.Nat.{◌≤◌}
use borrow.Author.Tests.{leb-true}
use mathlib.Core.Bool.{true}
use mathlib.Core.Logic.{inl, inr}
use mathlib.Core.Path.{◌≡◌, refl}
use lib.Dec.{leb}
use Rattle.scheduler.specs.Prelude.{State}
use Rattle.plan.specs.Plans.{event_count}
use Rattle.coherence.specs.Cohering.{event_coheres, rule_coheres, coheres}
use Rattle.scheduler.specs.State.{fate_of, line_count, lines}
use Rattle.scheduler.specs.Coherent.{coherent_event, coherent_rule, coherent}
use Rattle.plan.proofs.Tests.{clash, either}

pub coherent_parts : (s : State)
    → coheres s.plan (fate_of s) s.broken s.closed (lines s) (line_count s) ≡ coherent s
unfolding coheres event_coheres rule_coheres coherent coherent_event coherent_rule
coherent_parts s = refl

-- a state that passes has at most 16 events
pub coherent_few : (s : State) → coherent s ≡ true → event_count s.plan ≤ 16
unfolding coherent
coherent_few s h = elim (either (leb (event_count s.plan) 16)) [
  | inl t ↦ leb-true (event_count s.plan) 16 t
  | inr f ↦ absurd (clash h (rw f))
]
