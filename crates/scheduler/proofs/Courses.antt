-- What calls change: put back beside the plan it is the state again, since no call changes the plan.
use Prim.Native.Nat.{ℕ, zero, suc}
use mathlib.Core.Bool.{Bool, true, false, ◌&&◌}
use mathlib.Core.List.{List, [], ◌∷◌}
use Rattle.std.specs.declared.option.Option.{Option}
use Rattle.std.specs.declared.option.Option.TheVariants.{None as none, Some as some}
use mathlib.Core.Path.{◌≡◌, refl, sym, ◌∙◌, ap}
use lib.Dec.{eqb}
use Rattle.scheduler.specs.declared.state.Course.{Course}
use Rattle.scheduler.specs.Prelude.{Refused, Lapsed, Plan, State}
use Rattle.plan.specs.Fates.{is_open}
use Rattle.plan.specs.Plans.{event_count, step_of, rejectable, delayable}
use Rattle.scheduler.specs.State.{fate_of, hold, settle_as, shut, set_minute, course_of, with_course}
use Rattle.scheduler.specs.Orders.{chosen, do_one, do_all}
use Rattle.scheduler.specs.Calls.{to_refuse, to_do, settle_once, settle_up_to, settle, decide, submit, lapse, close_step, refuse_held, finish, advance_to}
use Rattle.plan.proofs.Tests.{some_none}
use Rattle.scheduler.proofs.Branches.{up_to-none, up_to-some, decide_order, decide_refuse, decide_alone, submit_same, submit_delayed, submit_decided, lapse_yes, lapse_no, lowest_held, refuse_none, refuse_some}
use Rattle.scheduler.proofs.Laws.{plan_settle, plan_hold, plan_shut, plan_minute}
use Rattle.scheduler.proofs.Searching.{plan-do_all}
use Rattle.scheduler.proofs.Doing.{alone_plan}

pub with_course_lem : (s t : State) (r : Course) → r ≡ course_of t → t.plan ≡ s.plan → with_course s r ≡ t
with_course_lem s t r same p =
    ap (with_course s) same ∙ ap (λ (q : Plan). record { plan = q; standings = t.standings; broken = t.broken; closed = t.closed; history = t.history; history_len = t.history_len; minute = t.minute }) (sym p)

-- no event past the places becomes held
pub hold_none : (s : State) → hold s 16 ≡ s
unfolding hold
hold_none s = refl

-- settling keeps the plan
pub plan_once : (s u : State) → settle_once s ≡ some u → u.plan ≡ s.plan
unfolding settle_once
plan_once s u h = go (to_refuse s) refl (to_do s) refl
  where
    go : (r : Option ℕ) → to_refuse s ≡ r → (d : Option (List ℕ)) → to_do s ≡ d → u.plan ≡ s.plan
    go (some e) r d q =
        let w : settle_as Refused s e ≡ u = cc (rw (r, settle_once) at h) in
        ap (λ (v : State). v.plan) (sym w) ∙ plan_settle Refused s e
    go none r none q = absurd (some_none (sym (rw (r, q, settle_once) at h)))
    go none r (some o) q =
        let w : do_all s o ≡ u = cc (rw (r, q, settle_once) at h) in
        ap (λ (v : State). v.plan) (sym w) ∙ plan-do_all s o

broken-do_all : (s : State) (o : List ℕ) → (do_all s o).broken ≡ s.broken
unfolding do_all settle_as
broken-do_all s [] = refl
broken-do_all s (c ∷ o) = broken-do_all (do_one s c) o

-- a turn of settling records no rule
pub broken_once : (s u : State) → settle_once s ≡ some u → u.broken ≡ s.broken
unfolding settle_once settle_as
broken_once s u h = go (to_refuse s) refl (to_do s) refl
  where
    go : (r : Option ℕ) → to_refuse s ≡ r → (d : Option (List ℕ)) → to_do s ≡ d → u.broken ≡ s.broken
    go (some e) r d q =
        let w : settle_as Refused s e ≡ u = cc (rw (r, settle_once) at h) in
        ap (λ (v : State). v.broken) (sym w)
    go none r none q = absurd (some_none (sym (rw (r, q, settle_once) at h)))
    go none r (some o) q =
        let w : do_all s o ≡ u = cc (rw (r, q, settle_once) at h) in
        ap (λ (v : State). v.broken) (sym w) ∙ broken-do_all s o

plan_up : (n : ℕ) (s : State) → (settle_up_to n s).plan ≡ s.plan
unfolding settle_up_to
plan_up zero s = refl
plan_up (suc n) s = go (settle_once s) refl (λ t. plan_up n t)
  where
    go : (q : Option State) → settle_once s ≡ q → ((t : State) → (settle_up_to n t).plan ≡ t.plan) → (settle_up_to (suc n) s).plan ≡ s.plan
    go none a rec = ap (λ (t : State). t.plan) (up_to-none n s a)
    go (some t) a rec = ap (λ (v : State). v.plan) (up_to-some n s t a) ∙ rec t ∙ plan_once s t a

pub plan_settling : (s : State) → (settle s).plan ≡ s.plan
unfolding settle
plan_settling s = plan_up 16 s

-- so do deciding, lapsing and refusing
pub plan_decide : (s : State) (e : ℕ) → (decide s e).plan ≡ s.plan
plan_decide s e = go (chosen s e) refl (rejectable s.plan e) refl
  where
    go : (q : Option (List ℕ)) → chosen s e ≡ q → (b : Bool) → rejectable s.plan e ≡ b → (decide s e).plan ≡ s.plan
    go (some o) a b r = ap (λ (t : State). t.plan) (decide_order s e o a) ∙ plan-do_all s o
    go none a true r = ap (λ (t : State). t.plan) (decide_refuse s e a r) ∙ plan_settle Refused s e
    go none a false r = ap (λ (t : State). t.plan) (decide_alone s e a r) ∙ alone_plan s e

pub plan_lapsing : (k e : ℕ) (s : State) (j : ℕ) → (lapse k e s j).plan ≡ s.plan
unfolding lapse
plan_lapsing zero e s j = refl
plan_lapsing (suc k) e s j = go (is_open (fate_of s e) && eqb (step_of s.plan e) j) refl (λ t. plan_lapsing k (suc e) t j)
  where
    go : (b : Bool) → (is_open (fate_of s e) && eqb (step_of s.plan e) j) ≡ b → ((t : State) → (lapse k (suc e) t j).plan ≡ t.plan) → (lapse (suc k) e s j).plan ≡ s.plan
    go true a rec = ap (λ (t : State). t.plan) (lapse_yes k e s j a) ∙ rec (settle_as Lapsed s e) ∙ plan_settle Lapsed s e
    go false a rec = ap (λ (t : State). t.plan) (lapse_no k e s j a) ∙ rec s

plan_refusing : (n : ℕ) (s : State) → (refuse_held n s).plan ≡ s.plan
unfolding refuse_held
plan_refusing zero s = refl
plan_refusing (suc n) s = go (lowest_held s) refl (λ t. plan_refusing n t)
  where
    go : (q : Option ℕ) → lowest_held s ≡ q → ((t : State) → (refuse_held n t).plan ≡ t.plan) → (refuse_held (suc n) s).plan ≡ s.plan
    go none a rec = ap (λ (t : State). t.plan) (refuse_none n s a)
    go (some e) a rec =
        ap (λ (t : State). t.plan) (refuse_some n s e a)
        ∙ rec (settle (settle_as Refused s e))
        ∙ plan_settling (settle_as Refused s e)
        ∙ plan_settle Refused s e

-- and every call
pub plan_submit : (s : State) (e : ℕ) → (submit s e).plan ≡ s.plan
plan_submit s e = go (is_open (fate_of s e)) refl (delayable s.plan e) refl
  where
    go : (b : Bool) → is_open (fate_of s e) ≡ b → (d : Bool) → delayable s.plan e ≡ d → (submit s e).plan ≡ s.plan
    go false a d q = ap (λ (t : State). t.plan) (submit_same s e a)
    go true a true q = ap (λ (t : State). t.plan) (submit_delayed s e a q) ∙ plan_settling (hold s e) ∙ plan_hold s e
    go true a false q =
        ap (λ (t : State). t.plan) (submit_decided s e a q)
        ∙ plan_settling (decide (hold s e) e)
        ∙ plan_decide (hold s e) e
        ∙ plan_hold s e

pub plan_close : (s : State) (k : ℕ) → (close_step s k).plan ≡ s.plan
unfolding close_step
plan_close s k =
    plan_settling (lapse (event_count s.plan) 0 (shut s k) k)
    ∙ plan_lapsing (event_count s.plan) 0 (shut s k) k
    ∙ plan_shut s k

pub plan_finish : (s : State) → (finish s).plan ≡ s.plan
unfolding finish
plan_finish s = plan_refusing 16 (settle s) ∙ plan_settling s

pub plan_advance : (s : State) (m : ℕ) → (advance_to s m).plan ≡ s.plan
unfolding advance_to
plan_advance s m = plan_settling (set_minute s m) ∙ plan_minute s m

-- what a call gives of the state, put back beside the plan
pub course_submit : (s : State) (e : ℕ) (r : Course) → r ≡ course_of (submit s e) → with_course s r ≡ submit s e
course_submit s e r h = with_course_lem s (submit s e) r h (plan_submit s e)

pub course_close : (s : State) (k : ℕ) (r : Course) → r ≡ course_of (close_step s k) → with_course s r ≡ close_step s k
course_close s k r h = with_course_lem s (close_step s k) r h (plan_close s k)

pub course_finish : (s : State) (r : Course) → r ≡ course_of (finish s) → with_course s r ≡ finish s
course_finish s r h = with_course_lem s (finish s) r h (plan_finish s)

pub course_advance : (s : State) (m : ℕ) (r : Course) → r ≡ course_of (advance_to s m) → with_course s r ≡ advance_to s m
course_advance s m r h = with_course_lem s (advance_to s m) r h (plan_advance s m)
