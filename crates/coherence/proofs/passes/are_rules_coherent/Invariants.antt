-- `are_rules_coherent` meets its contract. The loop's invariant: every rule passed has passed the tests.
use Prim.Native.Nat.{ℕ, ◌<◌}
use mathlib.Core.Bool.{true, ◌&&◌}
use mathlib.Core.Path.{◌≡◌}
use Rattle.plan.specs.Fates.{fates_of}
use Rattle.coherence.specs.Listings.{Placed, place_in}
use Rattle.coherence.specs.Prelude.{Entry}
use mathlib.Core.List.{List}
use Rattle.coherence.proofs.CoherentTests.{admits_at, kept_at}
use Rattle.coherence.proofs.passes.are_rules_coherent.Given as goal

abbrev pub invariant-loop-i : goal.invariant-loop-i
invariant-loop-i l =
    (h : List Entry)
    → Placed h (place_in l.places)
    → (k : ℕ)
    → k < l.i
    → (admits_at l.plan l.plan.event_count l.plan.rules k && kept_at l.plan (fates_of l.standings) h l.broken l.plan.rules k) ≡ true
