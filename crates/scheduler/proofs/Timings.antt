-- The sets of a state's windows: what one pass over them tells, and that no write of settling changes it.
use Prim.Native.Nat.{ℕ}
use borrow.Author.Tests.{lt-ltb}
use mathlib.Core.Bool.{Bool, ◌&&◌}
use mathlib.Core.List.{List, [], ◌∷◌}
use Rattle.std.specs.declared.option.Option.{Option}
use Rattle.std.specs.declared.option.Option.TheVariants.{None as none, Some as some}
use mathlib.Core.Path.{◌≡◌, refl, sym, ◌∙◌, ap, ap₂}
use Rattle.scheduler.specs.Prelude.{Refused, Plan, State}
use Rattle.plan.specs.Plans.{allowed_at, over_at}
use Rattle.members.specs.declared.times.Times.{Times}
use Rattle.members.specs.Times.{Clocks}
use Rattle.scheduler.specs.State.{in_time, too_late, settle_as}
use Rattle.scheduler.specs.Orders.{fate_at_turn, do_one, do_all}
use Rattle.scheduler.specs.Calls.{to_refuse, to_do, settle_once}
use Rattle.scheduler.specs.Internal.Timing.{Timing}
use Rattle.plan.proofs.Tests.{some_none}
use Rattle.scheduler.proofs.Laws.{plan_settle, minute_settle}
use Rattle.scheduler.proofs.Searching.{plan-do_all}

pub timing_of : (s : State) (t : Times) → Clocks s.plan.windows s.minute t → Timing s t
unfolding allowed_at over_at
timing_of s t k = record {
  timely = λ x lt. k.timely x ∙ ap (λ (b : Bool). b && in_time s x) (lt-ltb x 16 lt);
  late = λ x lt. k.late x ∙ ap (λ (b : Bool). b && too_late s x) (lt-ltb x 16 lt);
}

-- the same plan at the same minute
pub timing_same : (s u : State) (t : Times) → u.plan ≡ s.plan → u.minute ≡ s.minute → Timing s t → Timing u t
timing_same s u t p m k = record {
  timely = λ x lt. k.timely x lt ∙ sym (ap₂ (λ (q : Plan) (n : ℕ). allowed_at q n x) p m);
  late = λ x lt. k.late x lt ∙ sym (ap₂ (λ (q : Plan) (n : ℕ). over_at q n x) p m);
}

pub minute-do_all : (s : State) (o : List ℕ) → (do_all s o).minute ≡ s.minute
unfolding do_all
minute-do_all s [] = refl
minute-do_all s (c ∷ o) = minute-do_all (do_one s c) o ∙ minute_settle (fate_at_turn s c) s c

-- after a turn of settling
pub timing_once : (s u : State) (t : Times) → settle_once s ≡ some u → Timing s t → Timing u t
unfolding settle_once
timing_once s u t h k = go (to_refuse s) refl (to_do s) refl
  where
    go : (r : Option ℕ) → to_refuse s ≡ r → (d : Option (List ℕ)) → to_do s ≡ d → Timing u t
    go (some e) r d q =
        let w : settle_as Refused s e ≡ u = cc (rw (r, settle_once) at h) in
        timing_same s u t (ap (λ (v : State). v.plan) (sym w) ∙ plan_settle Refused s e) (ap (λ (v : State). v.minute) (sym w) ∙ minute_settle Refused s e) k
    go none r none q = absurd (some_none (sym (rw (r, q, settle_once) at h)))
    go none r (some o) q =
        let w : do_all s o ≡ u = cc (rw (r, q, settle_once) at h) in
        timing_same s u t (ap (λ (v : State). v.plan) (sym w) ∙ plan-do_all s o) (ap (λ (v : State). v.minute) (sym w) ∙ minute-do_all s o) k
