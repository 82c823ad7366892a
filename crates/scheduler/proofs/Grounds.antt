-- Demand 2's grounds: every call is a trail of writes, each with its ground.
use Prim.Native.Nat.{ℕ, zero, suc, ◌≤◌, ◌<◌}
use borrow.Author.Tests.{eqb-true, ltb-false, leb-false, not-false}
use mathlib.Core.Bool.{Bool, true, false, ◌&&◌}
use mathlib.Core.List.{List}
use mathlib.Core.Logic.{◌⊎◌, inl, inr}
use Rattle.std.specs.declared.option.Option.{Option}
use Rattle.std.specs.declared.option.Option.TheVariants.{None as none, Some as some}
use mathlib.Core.Path.{◌≡◌, refl, sym, ◌∙◌, ap, subst}
use lib.Dec.{eqb}
use Rattle.scheduler.specs.Prelude.{[], Unknown, Backward, ltb, leb, Incoherent, not, Held, Open, Done, Refused, Lapsed, Plan, State, CallFault, Reply, Call, Submit, Close, Finish, Advance}
use Rattle.plan.specs.Plans.{event_count, rule_count, step_of, rejectable, delayable}
use Rattle.scheduler.specs.State.{fate_of, hold, settle_as, shut, set_minute, Sized}
use Rattle.plan.specs.Fates.{is_open}
use Rattle.scheduler.specs.Orders.{chosen, do_all}
use Rattle.scheduler.specs.Rules.{strains}
use Rattle.scheduler.specs.Calls.{refuses, does, Turns, stay, turn, settle_once, settle, break_if, record_broken, do_alone, decide, submit, lapse, close_step, refuse_held, finish, advance_to}
use Rattle.scheduler.specs.Answers.{call_rows, call_fault, accept, call}
use Rattle.scheduler.specs.Grounds.{by_bar, by_submission, by_finish, Trail, end, held, ordered, alone, refused, shuts, lapsed, moves, Grounded}
use Rattle.plan.proofs.Tests.{and_left, and_right, either}
use Rattle.plan.proofs.Fates.{open_is}
use Rattle.scheduler.proofs.Laws.{plan_hold, fate_hold_same, sized_hold, sized_shut, sized_break, sized_minute, sized_settle}
use Rattle.scheduler.proofs.Branches.{decide_order, decide_refuse, decide_alone, submit_same, submit_delayed, submit_decided, lapse_yes, lapse_no, lowest_held, refuse_none, refuse_some, call_fault_lem, call_accept}
use Rattle.scheduler.proofs.Searching.{sized-do_all, chosen_none, chosen_first}
use Rattle.scheduler.proofs.Settling.{held_tested, lowest_some, once_none, settle_turns, settle_rest, sized_settling}
use Rattle.scheduler.specs.Coherent.{coherent}
use Rattle.scheduler.specs.Lists.{scheduler}
use Rattle.plan.proofs.Tables.{none_applies}
use native.Mathlib.Omega.{arith}
use Rattle.scheduler.proofs.CoherentParts.{coherent_few}

-- one trail after another
pub then : {c : Call} {s t u : State} → Trail c s t → Trail c t u → Trail c s u
then end q = q
then (held e p h r) q = held e p h (then r q)
then (ordered e o h f r) q = ordered e o h f (then r q)
then (alone e p u d j n r) q = alone e p u d j n (then r q)
then (refused e g r) q = refused e g (then r q)
then (shuts k p r) q = shuts k p (then r q)
then (lapsed e p h r) q = lapsed e p h (then r q)
then (moves m p h r) q = moves m p h (then r q)

-- recording rules as broken keeps the lengths
sized-record_broken : (n : ℕ) (s : State) (e : ℕ) (t : State) → Sized t → Sized (record_broken n s e t)
unfolding record_broken
sized-record_broken zero s e t z = z
sized-record_broken (suc n) s e t z = go (strains s e n) (sized-record_broken n s e t z)
  where
    go : (b : Bool) → Sized (record_broken n s e t) → Sized (break_if b (record_broken n s e t) n)
    go true y = sized_break (record_broken n s e t) n y
    go false y = y

pub sized_alone : (s : State) (e : ℕ) → Sized s → Sized (do_alone s e)
unfolding do_alone
sized_alone s e z = sized-record_broken (rule_count s.plan) s e (settle_as Done s e) (sized_settle Done s e z)

-- settling
turns_trail : {c : Call} {s t : State} → Turns s t → Trail c s t
turns_trail stay = end
turns_trail (turn (refuses e l) ts) = refused e (by_bar l.is.0 l.is.1) (turns_trail ts)
turns_trail (turn (does e o nb l f) ts) = ordered e o l.is.0 f (turns_trail ts)

pub settle_trail : (c : Call) (s : State) → Sized s → Trail c s (settle s)
settle_trail c s z = turns_trail (settle_turns s z)

-- an event that isn't delayable, just held
module _ (s : State) (e : ℕ) (z : Sized s) (lt : e < 16) where
  decide_trail : delayable s.plan e ≡ false → Trail (Submit e) (hold s e) (settle (decide (hold s e) e))
  decide_trail d = go (chosen t e) refl (either (rejectable t.plan e))
    where
      t : State
      t = hold s e

      sized : Sized t
      sized = sized_hold s e z

      at : (u : State) → decide t e ≡ u → Sized u → Trail (Submit e) t u → Trail (Submit e) t (settle (decide t e))
      at u q y r = subst (λ v. Trail (Submit e) t (settle v)) (sym q) (then r (settle_trail (Submit e) u y))

      is_held_lem : fate_of t e ≡ Held
      is_held_lem = fate_hold_same s e z lt

      waits : delayable t.plan e ≡ false
      waits = ap (λ (p : Plan). delayable p e) (plan_hold s e) ∙ d

      go : (q : Option (List ℕ))
          → chosen t e ≡ q
          → (rejectable t.plan e ≡ true) ⊎ (rejectable t.plan e ≡ false)
          → Trail (Submit e) t (settle (decide t e))
      go (some o) h r =
          at (do_all t o) (decide_order t e o h) (sized-do_all t o sized) (ordered e o is_held_lem (chosen_first t e sized o h) end)
      go none h (inl r) =
          at
          (settle_as Refused t e)
          (decide_refuse t e h r)
          (sized_settle Refused t e sized)
          (refused e (by_submission refl is_held_lem waits r (chosen_none t e h)) end)
      go none h (inr r) =
          at (do_alone t e) (decide_alone t e h r) (sized_alone t e sized) (alone e refl is_held_lem waits r (chosen_none t e h) end)

-- hand in: an open event is held, and then what follows
module _ (s : State) (e : ℕ) (z : Sized s) (lt : e < 16) where
  pub held_trail : is_open (fate_of s e) ≡ true → Trail (Submit e) (hold s e) (submit s e)
  held_trail found_open = elim (either (delayable s.plan e)) [
    | inl d ↦ subst (Trail (Submit e) (hold s e)) (sym (submit_delayed s e found_open d)) (settle_trail (Submit e) (hold s e) (sized_hold s e z))
    | inr d ↦ subst (Trail (Submit e) (hold s e)) (sym (submit_decided s e found_open d)) (decide_trail s e z lt d)
  ]

  pub submit_trail : Trail (Submit e) s (submit s e)
  submit_trail = elim (either (is_open (fate_of s e))) [
    | inr shut ↦ subst (Trail (Submit e) s) (sym (submit_same s e shut)) end
    | inl found_open ↦ held e refl (open_is (fate_of s e) found_open) (held_trail found_open)
  ]

-- closing a step
lapse_trail : (n e : ℕ) (s : State) (k : ℕ) → Sized s → Trail (Close k) s (lapse n e s k) × Sized (lapse n e s k)
unfolding lapse
lapse_trail zero e s k z = (end, z)
lapse_trail (suc n) e s k z = elim (either (is_open (fate_of s e) && eqb (step_of s.plan e) k)) [
  | inl t ↦
      let r = lapse_trail n (suc e) (settle_as Lapsed s e) k (sized_settle Lapsed s e z) in
      let step : step_of s.plan e ≡ k = eqb-true (step_of s.plan e) k (and_right (is_open (fate_of s e)) (eqb (step_of s.plan e) k) t) in
      let found_open : fate_of s e ≡ Open = open_is (fate_of s e) (and_left (is_open (fate_of s e)) (eqb (step_of s.plan e) k) t) in
      subst (λ t. Trail (Close k) s t × Sized t) (sym (lapse_yes n e s k t)) (lapsed e (ap Close (sym step)) found_open r.0, r.1)
  | inr t ↦ subst (λ t. Trail (Close k) s t × Sized t) (sym (lapse_no n e s k t)) (lapse_trail n (suc e) s k z)
]

pub lapse_sized : (n e : ℕ) (s : State) (k : ℕ) → Sized s → Sized (lapse n e s k)
lapse_sized n e s k z = (lapse_trail n e s k z).1

pub close_trail : (s : State) (k : ℕ) → Sized s → Trail (Close k) s (close_step s k)
unfolding close_step
close_trail s k z =
    let r = lapse_trail (event_count s.plan) 0 (shut s k) k (sized_shut s k z) in
    shuts k refl (then r.0 (settle_trail (Close k) (lapse (event_count s.plan) 0 (shut s k) k) r.1))

-- winding up
refuse_trail : (n : ℕ) (s : State) → Sized s → settle_once s ≡ none → Trail Finish s (refuse_held n s)
unfolding refuse_held
refuse_trail zero s z rest = end
refuse_trail (suc n) s z rest = go (lowest_held s) refl (refuse_trail n)
  where
    go : (q : Option ℕ)
        → lowest_held s ≡ q
        → ((t : State) → Sized t → settle_once t ≡ none → Trail Finish t (refuse_held n t))
        → Trail Finish s (refuse_held (suc n) s)
    go none h rec = subst (Trail Finish s) (sym (refuse_none n s h)) end
    go (some e) h rec =
        let t = settle_as Refused s e in
        let z' = sized_settle Refused s e z in
        subst (Trail Finish s) (sym (refuse_some n s e h))
        (refused e (by_finish refl (lowest_some s (held_tested s) e h) (once_none s z rest))
        (then (settle_trail Finish t z') (rec (settle t) (sized_settling t z') (settle_rest t z'))))

pub finish_trail : (s : State) → Sized s → Trail Finish s (finish s)
unfolding finish
finish_trail s z = then (settle_trail Finish s z) (refuse_trail 16 (settle s) (sized_settling s z) (settle_rest s z))

-- moving the minute, where it is not below
pub move_trail : (s : State) (m : ℕ) → Sized s → s.minute ≤ m → Trail (Advance m) s (advance_to s m)
unfolding advance_to
move_trail s m z h = moves m refl h (settle_trail (Advance m) (set_minute s m) (sized_minute s m z))

move_late : (s : State) (m : ℕ) → call_fault s (Advance m) ≡ none → s.minute ≤ m
unfolding call_fault
move_late s m h =
    let q = none_applies (not (coherent s)) Incoherent (call_rows s (Advance m)) h in
    ltb-false m s.minute (none_applies (ltb m s.minute) Backward [] q.1).0

-- a hand-in that is taken names an event that stands in the arrays
pub submit_low : (s : State) (e : ℕ) → call_fault s (Submit e) ≡ none → e < 16
unfolding call_fault
submit_low s e h =
    let q = none_applies (not (coherent s)) Incoherent (call_rows s (Submit e)) h in
    let unknown = (none_applies (leb (event_count s.plan) e) Unknown [] q.1).0 in
    omega (arith, leb-false (event_count s.plan) e unknown, coherent_few s (not-false (coherent s) q.0))

-- every call that is taken, and every call
accept_trail : (s : State) (c : Call) → Sized s → call_fault s c ≡ none → Trail c s (accept s c).state
unfolding accept
accept_trail s (Submit e) z h = submit_trail s e z (submit_low s e h)
accept_trail s (Close k) z h = close_trail s k z
accept_trail s Finish z h = finish_trail s z
accept_trail s (Advance m) z h = move_trail s m z (move_late s m h)

pub grounded : Grounded scheduler
grounded s c z = go (call_fault s c) refl
  where
    go : (q : Option CallFault) → call_fault s c ≡ q → Trail c s (call s c).state
    go (some f) h = subst (λ (r : Reply). Trail c s r.state) (sym (call_fault_lem s c f h)) end
    go none h = subst (λ (r : Reply). Trail c s r.state) (sym (call_accept s c h)) (accept_trail s c z h)
