-- Demand 2's doing, of our scheduler: settling has come to its end after every call that acts, histories only grow, and a settled fate
-- never changes.
use Prim.Native.Nat.{ℕ, zero, suc, ◌≤◌, ◌<◌}
use native.Mathlib.Omega.{arith}
use native.Mathlib.Decide.{dec_lt}
use borrow.Author.Tests.{le-ltb}
use mathlib.Core.Bool.{Bool, true, false}
use mathlib.Core.List.{List, [], ◌∷◌, ◌++◌, append-nil, append_assoc}
use mathlib.Core.Logic.{◌≢◌, inl, inr}
use Rattle.std.specs.declared.option.Option.{Option}
use Rattle.std.specs.declared.option.Option.TheVariants.{None as none, Some as some}
use mathlib.Core.Path.{◌≡◌, refl, sym, ◌∙◌, ap, subst}
use Rattle.scheduler.specs.Prelude.{Fate, Held, Done, Refused, Lapsed, State, Call, Submit, Close, Finish, Advance, Reply}
use Rattle.plan.specs.Plans.{event_count, rule_count, rejectable, delayable}
use Rattle.plan.specs.Fates.{is_open, is_settled}
use Rattle.scheduler.specs.State.{fate_of, line_count, lines, hold, settle_as, shut, set_minute, Sized}
use Rattle.scheduler.specs.Rules.{barred, strains}
use Rattle.scheduler.specs.Orders.{fate_at_turn, do_one, do_all, Runs, chosen}
use Rattle.scheduler.specs.Calls.{AtRest, settle_once, settle, break_if, record_broken, do_alone, decide, close_step, refuse_held, finish, advance_to}
use Rattle.scheduler.specs.Answers.{accept}
use Rattle.scheduler.specs.Lists.{scheduler}
use Rattle.scheduler.specs.Demand.{Extends}
use Rattle.scheduler.specs.Grounds.{NoViable, Ground, by_bar, by_submission, by_finish, Trail, end, held, ordered, alone, refused, shuts, lapsed, moves}
use Rattle.scheduler.specs.Doing.{Acts, Doing}
use Rattle.plan.proofs.Tests.{clash, either}
use Rattle.scheduler.proofs.Laws.{plan_settle, fate_settle_other, lines_settle, sized_settle, sized_one, fate_one_other}
use Rattle.scheduler.proofs.Laws.{plan_break, fate_hold_other, lines_hold, sized_hold, fate_shut, lines_shut, sized_shut, fate_break, lines_break, fate_minute, lines_minute, sized_minute}
use Rattle.scheduler.proofs.Branches.{decide_order, decide_refuse, decide_alone, submit_delayed, submit_decided, lowest_held, refuse_none, refuse_some, call_fault_lem, call_accept}
use Rattle.scheduler.proofs.Searching.{sized-do_all, ready_unsettled}
use Rattle.scheduler.proofs.Settling.{once_none, none_once, rest_none, rest_unbarred, settle_rest, sized_settling}
use Rattle.scheduler.proofs.Grounds.{sized_alone, lapse_sized, grounded}

-- at rest no held event is barred or has a viable order
pub rest_held : (s : State)
    → Sized s
    → AtRest s
    → (e : ℕ)
    → e < event_count s.plan
    → fate_of s e ≡ Held
    → (barred s e ≡ false) × NoViable s e
rest_held s z r e lt h =
    let q = none_once s z r in
    (rest_unbarred s q e lt h, λ o v. rest_none s q e o h v)

-- settling comes to rest
settled_rests : (s : State) → Sized s → AtRest (settle s)
settled_rests s z = once_none (settle s) (sized_settling s z) (settle_rest s z)

-- deciding an event keeps the lengths
pub sized_decide : (s : State) (e : ℕ) → Sized s → Sized (decide s e)
sized_decide s e z = go (chosen s e) refl
  where
    go : (q : Option (List ℕ)) → chosen s e ≡ q → Sized (decide s e)
    go (some o) h = subst Sized (sym (decide_order s e o h)) (sized-do_all s o z)
    go none h = elim (either (rejectable s.plan e)) [
      | inl r ↦ subst Sized (sym (decide_refuse s e h r)) (sized_settle Refused s e z)
      | inr r ↦ subst Sized (sym (decide_alone s e h r)) (sized_alone s e z)
    ]

-- refusing the held comes to rest
refused_rests : (n : ℕ) (s : State) → Sized s → settle_once s ≡ none → (settle_once (refuse_held n s) ≡ none) × Sized (refuse_held n s)
unfolding refuse_held
refused_rests zero s z h = (h, z)
refused_rests (suc n) s z h = go (lowest_held s) refl (refused_rests n)
  where
    go : (q : Option ℕ)
        → lowest_held s ≡ q
        → ((t : State) → Sized t → settle_once t ≡ none → (settle_once (refuse_held n t) ≡ none) × Sized (refuse_held n t))
        → (settle_once (refuse_held (suc n) s) ≡ none) × Sized (refuse_held (suc n) s)
    go none l rec = subst (λ t. (settle_once t ≡ none) × Sized t) (sym (refuse_none n s l)) (h, z)
    go (some e) l rec =
        let y = sized_settle Refused s e z in
        let t = settle (settle_as Refused s e) in
        subst (λ w. (settle_once w ≡ none) × Sized w) (sym (refuse_some n s e l)) (rec t (sized_settling _ y) (settle_rest _ y))

-- a call that acts comes to rest
accept_rests : (s : State) (c : Call) → Sized s → Acts s c → AtRest (accept s c).state
unfolding accept close_step finish advance_to
accept_rests s (Submit e) z a =
    let o = ap is_open (a.fresh e refl) in
    elim (either (delayable s.plan e)) [
      | inl d ↦ subst AtRest (sym (submit_delayed s e o d)) (settled_rests (hold s e) (sized_hold s e z))
      | inr d ↦ subst AtRest (sym (submit_decided s e o d)) (settled_rests (decide (hold s e) e) (sized_decide (hold s e) e (sized_hold s e z)))
    ]
accept_rests s (Close k) z a = settled_rests _ (lapse_sized (event_count s.plan) 0 (shut s k) k (sized_shut s k z))
accept_rests s Finish z a =
    let r = refused_rests 16 (settle s) (sized_settling s z) (settle_rest s z) in
    once_none (finish s) r.1 r.0
accept_rests s (Advance m) z a = settled_rests (set_minute s m) (sized_minute s m z)

-- histories that grow, one after another
abbrev Grows : State → State → Type 0
Grows s t = Extends (lines s) (lines t)

grow_then : (s t u : State) → Grows s t → Grows t u → Grows s u
grow_then s t u p q = (p.0 ++ q.0, q.1 ∙ ap (λ l. l ++ q.0) p.1 ∙ append_assoc (lines s) p.0 q.0)

grow_same : (s t : State) → lines t ≡ lines s → Grows s t
grow_same s t e = ([], e ∙ sym (append-nil (lines s)))

-- settling an event adds a line, or none where all places are taken
pub lines_full : (x : Fate) (s : State) (e : ℕ) → 16 ≤ line_count s → lines (settle_as x s e) ≡ lines s
unfolding settle_as
lines_full x s e ge = rw (le-ltb (line_count s) 16 ge)

settle_grows : (x : Fate) (s : State) (e : ℕ) → Sized s → Grows s (settle_as x s e)
settle_grows x s e z = elim (dec_lt (line_count s) 16) [
  | yes lt ↦ (record { event = e; fate = x } ∷ [], lines_settle x s e z lt)
  | no ge ↦ grow_same s (settle_as x s e) (lines_full x s e (omega arith))
]

order_grows : (s : State) (o : List ℕ) → Sized s → Grows s (do_all s o)
unfolding do_all
order_grows s [] z = grow_same s s refl
order_grows s (c ∷ o) z =
    grow_then s (do_one s c) (do_all (do_one s c) o) (settle_grows (fate_at_turn s c) s c z) (order_grows (do_one s c) o (sized_one s c z))

-- recording rules as broken keeps plan, lines and fates
module _ (s : State) (e : ℕ) (t : State) where
  recorded_plan : (n : ℕ) → (record_broken n s e t).plan ≡ t.plan
  unfolding record_broken
  recorded_plan zero = refl
  recorded_plan (suc n) = go (strains s e n) (recorded_plan n)
    where
      go : (b : Bool) → (record_broken n s e t).plan ≡ t.plan → (break_if b (record_broken n s e t) n).plan ≡ t.plan
      go true h = plan_break (record_broken n s e t) n ∙ h
      go false h = h

  pub recorded_lines : (n : ℕ) → lines (record_broken n s e t) ≡ lines t
  unfolding record_broken
  recorded_lines zero = refl
  recorded_lines (suc n) = go (strains s e n) (recorded_lines n)
    where
      go : (b : Bool) → lines (record_broken n s e t) ≡ lines t → lines (break_if b (record_broken n s e t) n) ≡ lines t
      go true h = lines_break (record_broken n s e t) n ∙ h
      go false h = h

  recorded_fate : (n d : ℕ) → fate_of (record_broken n s e t) d ≡ fate_of t d
  unfolding record_broken
  recorded_fate zero d = refl
  recorded_fate (suc n) d = go (strains s e n) (recorded_fate n d)
    where
      go : (b : Bool) → fate_of (record_broken n s e t) d ≡ fate_of t d → fate_of (break_if b (record_broken n s e t) n) d ≡ fate_of t d
      go true h = fate_break (record_broken n s e t) n d ∙ h
      go false h = h

-- what an event done alone leaves
module _ (s : State) (e : ℕ) where
  pub alone_plan : (do_alone s e).plan ≡ s.plan
  unfolding do_alone
  alone_plan = recorded_plan s e (settle_as Done s e) (rule_count s.plan) ∙ plan_settle Done s e

  pub lines_alone : lines (do_alone s e) ≡ lines (settle_as Done s e)
  unfolding do_alone
  lines_alone = recorded_lines s e (settle_as Done s e) (rule_count s.plan)

  pub alone_fate : (d : ℕ) → fate_of (do_alone s e) d ≡ fate_of (settle_as Done s e) d
  unfolding do_alone
  alone_fate = recorded_fate s e (settle_as Done s e) (rule_count s.plan)

alone_grows : (s : State) (e : ℕ) → Sized s → Grows s (do_alone s e)
unfolding do_alone
alone_grows s e z =
    let t = settle_as Done s e in
    let n = rule_count s.plan in
    grow_then s t (record_broken n s e t) (settle_grows Done s e z) (grow_same t (record_broken n s e t) (recorded_lines s e t n))

-- along a trail the history grows
pub trail_grows : {c : Call} {s t : State} → Trail c s t → Sized s → Extends (lines s) (lines t)
trail_grows {c} {s} end z = grow_same s s refl
trail_grows (held {s} {t} e p h r) z =
    grow_then s (hold s e) t (grow_same s (hold s e) (lines_hold s e)) (trail_grows r (sized_hold s e z))
trail_grows (ordered {s} {t} e o h f r) z =
    grow_then s (do_all s o) t (order_grows s o z) (trail_grows r (sized-do_all s o z))
trail_grows (alone {s} {t} e p u d j n r) z =
    grow_then s (do_alone s e) t (alone_grows s e z) (trail_grows r (sized_alone s e z))
trail_grows (refused {s} {t} e g r) z =
    grow_then s (settle_as Refused s e) t (settle_grows Refused s e z) (trail_grows r (sized_settle Refused s e z))
trail_grows (shuts {s} {t} k p r) z =
    grow_then s (shut s k) t (grow_same s (shut s k) (lines_shut s k)) (trail_grows r (sized_shut s k z))
trail_grows (lapsed {s} {t} e p h r) z =
    grow_then s (settle_as Lapsed s e) t (settle_grows Lapsed s e z) (trail_grows r (sized_settle Lapsed s e z))
trail_grows (moves {s} {t} m p h r) z =
    grow_then s (set_minute s m) t (grow_same s (set_minute s m) (lines_minute s m)) (trail_grows r (sized_minute s m z))

-- demand 2's doing
pub doing : Doing scheduler
doing s c z = record {
  rests = λ a. subst (λ (r : Reply). AtRest r.state) (sym (call_accept s c a.taken)) (accept_rests s c z a);
  extends = trail_grows (grounded s c z) z;
  unchanged = λ f h. ap (λ (r : Reply). r.state) (call_fault_lem s c f h);
}

-- a ground of refusal is of a held event
ground_held : {c : Call} {s : State} {e : ℕ} → Ground c s e → fate_of s e ≡ Held
ground_held (by_bar h b) = h
ground_held (by_submission q h d r n) = h
ground_held (by_finish q l r) = l.is

-- two events of which one is settled and the other is not
apart : (s : State) (d e : ℕ) → is_settled (fate_of s e) ≡ true → is_settled (fate_of s d) ≡ false → e ≢ d
apart s d e h u q = clash (ap (λ i. is_settled (fate_of s i)) (sym q) ∙ h) u

order_fixed : (s : State) (o : List ℕ) → Runs s o → (e : ℕ) → is_settled (fate_of s e) ≡ true → fate_of (do_all s o) e ≡ fate_of s e
unfolding do_all
order_fixed s [] r e h = refl
order_fixed s (c ∷ o) r e h =
    let same = fate_one_other s c e (apart s c e h (ready_unsettled s c r.1)) in
    order_fixed (do_one s c) o r.2 e (ap is_settled same ∙ h) ∙ same

alone_fixed : (s : State) (d e : ℕ) → e ≢ d → fate_of (do_alone s d) e ≡ fate_of s e
alone_fixed s d e ne = alone_fate s d e ∙ fate_settle_other Done s d e ne

-- along a trail a settled fate never changes
pub settled_fixed : {c : Call} {s t : State} → Trail c s t → (e : ℕ) → is_settled (fate_of s e) ≡ true → fate_of t e ≡ fate_of s e
settled_fixed end e h = refl
settled_fixed (held {s} d p o r) e h =
    let same = fate_hold_other s d e (apart s d e h (ap is_settled o)) in
    settled_fixed r e (ap is_settled same ∙ h) ∙ same
settled_fixed (ordered {s} d o p f r) e h =
    let same = order_fixed s o f.viable.runs e h in
    settled_fixed r e (ap is_settled same ∙ h) ∙ same
settled_fixed (alone {s} d p u j k n r) e h =
    let same = alone_fixed s d e (apart s d e h (ap is_settled u)) in
    settled_fixed r e (ap is_settled same ∙ h) ∙ same
settled_fixed (refused {s} d g r) e h =
    let same = fate_settle_other Refused s d e (apart s d e h (ap is_settled (ground_held g))) in
    settled_fixed r e (ap is_settled same ∙ h) ∙ same
settled_fixed (moves {s} m p q r) e h = settled_fixed r e (ap is_settled (fate_minute s m e) ∙ h) ∙ fate_minute s m e
settled_fixed (shuts {s} k p r) e h = settled_fixed r e (ap is_settled (fate_shut s k e) ∙ h) ∙ fate_shut s k e
settled_fixed (lapsed {s} d p o r) e h =
    let same = fate_settle_other Lapsed s d e (apart s d e h (ap is_settled o)) in
    settled_fixed r e (ap is_settled same ∙ h) ∙ same
