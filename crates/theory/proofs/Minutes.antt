-- The minute along the writes of a call: only a move of it changes it, and once.
use Prim.Native.Nat.{ℕ, zero, suc, ◌<◌}
use native.Mathlib.Omega.{arith}
use mathlib.Core.Bool.{Bool, true, false}
use mathlib.Core.Logic.{◌⊎◌, inl, inr}
use mathlib.Core.Path.{◌≡◌, refl, ◌∙◌}
use Rattle.theory.proofs.Types.{Done, Refused, Lapsed, State, Call, Submit, Close, Finish, Advance}
use Rattle.plan.specs.Plans.{rule_count}
use Rattle.scheduler.specs.State.{settle_as, set_minute, Sized}
use Rattle.scheduler.specs.Rules.{strains}
use Rattle.scheduler.specs.Calls.{refuses, does, Turns, stay, turn, break_if, record_broken, do_alone, close_step, submit, finish, advance_to}
use Rattle.scheduler.specs.Grounds.{Trail, end, held, ordered, alone, refused, shuts, lapsed, moves}
use Rattle.scheduler.proofs.Laws.{plan_settle, plan_hold, plan_shut, plan_minute, minute_settle, minute_hold, minute_shut, minute_break, minute_moved, sized_minute}
use Rattle.scheduler.proofs.Searching.{plan-do_all}
use Rattle.scheduler.proofs.Timings.{minute-do_all}
use Rattle.scheduler.proofs.Settling.{settle_turns}
use Rattle.scheduler.proofs.Doing.{alone_plan}
use Rattle.scheduler.proofs.Grounds.{close_trail, finish_trail, submit_trail}

minute_record : (n : ℕ) (s : State) (e : ℕ) (t : State) → (record_broken n s e t).minute ≡ t.minute
unfolding record_broken
minute_record zero s e t = refl
minute_record (suc n) s e t = go (strains s e n) (minute_record n s e t)
  where
    go : (b : Bool) → (record_broken n s e t).minute ≡ t.minute → (break_if b (record_broken n s e t) n).minute ≡ t.minute
    go true h = minute_break (record_broken n s e t) n ∙ h
    go false h = h

pub minute_alone : (s : State) (e : ℕ) → (do_alone s e).minute ≡ s.minute
unfolding do_alone
minute_alone s e = minute_record (rule_count s.plan) s e (settle_as Done s e) ∙ minute_settle Done s e

minute_turns : {s t : State} → Turns s t → t.minute ≡ s.minute
minute_turns stay = refl
minute_turns (turn {s} (refuses e l) ts) = minute_turns ts ∙ minute_settle Refused s e
minute_turns (turn {s} (does e o nb l f) ts) = minute_turns ts ∙ minute-do_all s o

-- at the end of a trail it is the one before it, or the one that the call moves it to
pub trail_minute : {c : Call} {s t : State} → Trail c s t → (t.minute ≡ s.minute) ⊎ ((m : ℕ) × (c ≡ Advance m) × (t.minute ≡ m))
trail_minute end = inl refl
trail_minute (held {s} e p h r) = elim (trail_minute r) [ inl q ↦ inl (q ∙ minute_hold s e) | inr q ↦ inr q ]
trail_minute (ordered {s} e o h f r) = elim (trail_minute r) [ inl q ↦ inl (q ∙ minute-do_all s o) | inr q ↦ inr q ]
trail_minute (alone {s} e p u d j n r) = elim (trail_minute r) [ inl q ↦ inl (q ∙ minute_alone s e) | inr q ↦ inr q ]
trail_minute (refused {s} e g r) = elim (trail_minute r) [ inl q ↦ inl (q ∙ minute_settle Refused s e) | inr q ↦ inr q ]
trail_minute (shuts {s} k p r) = elim (trail_minute r) [ inl q ↦ inl (q ∙ minute_shut s k) | inr q ↦ inr q ]
trail_minute (lapsed {s} e p h r) = elim (trail_minute r) [ inl q ↦ inl (q ∙ minute_settle Lapsed s e) | inr q ↦ inr q ]
trail_minute (moves {s} m p h r) = elim (trail_minute r) [ inl q ↦ inr (m, p, q ∙ minute_moved s m) | inr q ↦ inr q ]

-- the plan stays
pub trail_plan : {c : Call} {s t : State} → Trail c s t → t.plan ≡ s.plan
trail_plan end = refl
trail_plan (held {s} e p h r) = trail_plan r ∙ plan_hold s e
trail_plan (ordered {s} e o h f r) = trail_plan r ∙ plan-do_all s o
trail_plan (alone {s} e p u d j n r) = trail_plan r ∙ alone_plan s e
trail_plan (refused {s} e g r) = trail_plan r ∙ plan_settle Refused s e
trail_plan (shuts {s} k p r) = trail_plan r ∙ plan_shut s k
trail_plan (lapsed {s} e p h r) = trail_plan r ∙ plan_settle Lapsed s e
trail_plan (moves {s} m p h r) = trail_plan r ∙ plan_minute s m

-- the calls
module _ (s : State) (z : Sized s) where
  pub minute_submit : (e : ℕ) → e < 16 → (submit s e).minute ≡ s.minute
  minute_submit e lt = elim (trail_minute (submit_trail s e z lt)) [
    | inl q ↦ q
    | inr q ↦ absurd (let w : Submit e ≡ Advance q.0 = q.1 in let v : ◌≡◌ {A = ℕ} 0 1 = cc in omega arith)
  ]

  pub minute_close : (k : ℕ) → (close_step s k).minute ≡ s.minute
  minute_close k = elim (trail_minute (close_trail s k z)) [
    | inl q ↦ q
    | inr q ↦ absurd (let w : Close k ≡ Advance q.0 = q.1 in let v : ◌≡◌ {A = ℕ} 0 1 = cc in omega arith)
  ]

  pub minute_move : (m : ℕ) → (advance_to s m).minute ≡ m
  unfolding advance_to
  minute_move m = minute_turns (settle_turns (set_minute s m) (sized_minute s m z)) ∙ minute_moved s m

  pub minute_finish : (finish s).minute ≡ s.minute
  minute_finish = elim (trail_minute (finish_trail s z)) [
    | inl q ↦ q
    | inr q ↦ absurd (let w : Finish ≡ Advance q.0 = q.1 in let v : ◌≡◌ {A = ℕ} 0 1 = cc in omega arith)
  ]
