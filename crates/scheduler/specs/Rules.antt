-- What the standing rules of a state forbid and owe.
use Rattle.std.specs.Prelude.{◌&&◌, ◌||◌}
use Rattle.scheduler.specs.Prelude.{ℕ, Bool, not, Done, State}
use Rattle.plan.specs.Base.{any_below}
use Rattle.plan.specs.Plans.{rule_count, rule_at}
use Rattle.plan.specs.Rules.{bars, forbids, owes}
use Rattle.scheduler.specs.State.{fate_of, broken_at, too_late, settle_as}

-- the rule stands: it is not recorded as broken. A recorded rule neither forbids nor owes (6.1)
abbrev pub stands : State → ℕ → Bool
stands s i = not (broken_at s i)

-- some standing rule forbids e for good (6.4)
unfoldable pub ruled_out : State → ℕ → Bool
ruled_out s e =
    any_below (rule_count s.plan) (λ i. stands s i && bars s.plan (fate_of s) (rule_at s.plan i) e)

-- e is barred: a standing rule forbids it for good, or its window is over (6.4, 6.13)
unfoldable pub barred : State → ℕ → Bool
barred s e = ruled_out s e || too_late s e

-- some standing rule forbids e, for good or for now (6.4)
unfoldable pub forbidden : State → ℕ → Bool
forbidden s e =
    any_below (rule_count s.plan) (λ i. stands s i && forbids s.plan (fate_of s) (rule_at s.plan i) e)

-- some standing rule owes (6.3)
unfoldable pub owing : State → Bool
owing s =
    any_below (rule_count s.plan) (λ i. stands s i && owes s.plan (fate_of s) (rule_at s.plan i))

-- rule i stands, and doing e in s breaks it: it forbids e there, or owes right after e is done (9.5, 11.8). Shown right
-- by case E and the rows on lone events in proofs/Cases, and by demand 3: no protected rule is ever recorded so
unfoldable pub strains : State → ℕ → ℕ → Bool
strains s e i =
    stands s i
    && (forbids s.plan (fate_of s) (rule_at s.plan i) e
    || owes s.plan (fate_of (settle_as Done s e)) (rule_at s.plan i))
