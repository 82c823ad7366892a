-- `State::find_held` meets its contract. The loop: what is left of it from e on is the whole answer, and the events that
-- count no more as able have no order.
use Prim.Native.Nat.{ℕ, ◌<◌}
use mathlib.Core.Bool.{Bool, true, ◌&&◌}
use mathlib.Core.Path.{◌≡◌, refl, sym, ◌∙◌, subst}
use Rattle.plan.specs.Fates.{is_held}
use Rattle.plan.specs.Plans.{event_count}
use Rattle.members.specs.declared.view.View.{View}
use Rattle.members.specs.Sets.{in_set, Shows}
use Rattle.scheduler.specs.Prelude.{State}
use Rattle.scheduler.specs.State.{fate_of}
use Rattle.scheduler.specs.Orders.{chosen}
use Rattle.scheduler.specs.Internal.Hopeful.{Hopeful}
use Rattle.plan.proofs.Tests.{and_left}
use Rattle.plan.proofs.Loops.{rest_next}
use Rattle.members.proofs.Bits.{in_below}
use Rattle.scheduler.proofs.SearchLoops.{hopeful_less}
use Rattle.scheduler.proofs.SettleLoops.{held_seen, order_missing, doing_hopeless, doing_passed, held_found, held_none}
use Rattle.scheduler.proofs.state.State.find_held.Goals as goal
use Rattle.scheduler.proofs.state.State.find_held.Goals.{then-is_in+in_default, else-is_in}

-- what the test of an event says: it is among the held ones, so the state has it held
among : (held able e : ℕ) (r : Bool) → r ≡ (in_set held e && in_set able e) → r ≡ true → in_set held e ≡ true
among held able e r is t = and_left (in_set held e) (in_set able e) (sym is ∙ t)

seen : (s : State) (v : View) → Shows s.plan (fate_of s) v
    → (able e : ℕ) → e < event_count s.plan
    → (r : Bool) → r ≡ (in_set v.held e && in_set able e) → r ≡ true
    → is_held (fate_of s e) ≡ true
seen s v shows able e lt r is t = held_seen s v shows e lt _ true refl (among v.held able e r is t)

pub returns-in-Some : goal.returns-in-Some
returns-in-Some c =
    let s = c.args.self.now in
    let told = c.is_in.ensures ∙ c.common.ensures c.loop-e.e in
    let held = seen s c.args.ground.now.view c.requires.grounds.shows c.loop-e.able c.loop-e.e c.loop-e-test.true _ told c.if-is_in.true in
    held_found s c.loop-e.e c.loop-e.invariant.0 c.loop-e-test.true held _ c.in-Some.ensures

pub loop-e-preserved : goal.loop-e-preserved
loop-e-preserved c =
    let s = c.args.self.now in
    let e = c.loop-e.e in
    let able = c.loop-e.able in
    let kept = c.loop-e.invariant in
    let told = c.is_in.ensures ∙ c.common.ensures e in
    let held = c.args.ground.now.view.held in
    elim c.if-is_in.branch [
      | then-is_in+in_default w ↦
          let missing = order_missing s (chosen s e) w.in_default.ensures in
          let here = seen s c.args.ground.now.view c.requires.grounds.shows able e c.loop-e-test.true _ told w.if-is_in.true in
          let below = in_below _ e (among held able e _ told w.if-is_in.true) in (
            rest_next _ _ e kept.0 c.loop-e-test.true (doing_hopeless s e here missing),
            subst (λ (a : ℕ). Hopeful s (in_set a)) (sym w.able-is)
                (hopeful_less s able w.with_if.result w.without-able.result e below w.with_if.ensures w.without-able.ensures kept.1 missing),
          )
      | else-is_in w ↦ (
        rest_next _ _ e kept.0 c.loop-e-test.true
            (doing_passed s c.args.ground.now.view able e c.requires.grounds.shows kept.1 c.loop-e-test.true (sym told ∙ w.if-is_in.false)),
        subst (λ (a : ℕ). Hopeful s (in_set a)) (sym w.able-is) kept.1,
      )
    ]

pub returns : goal.returns
returns c = held_none c.args.self.now c.loop-e.e c.loop-e.invariant.0 c.loop-e-test.false
