-- S-7: without windows the minute decides nothing.
use Prim.Native.Nat.{ℕ, zero, suc}
use mathlib.Core.Bool.{Bool, true, false, not, ◌&&◌, ◌||◌}
use mathlib.Core.List.{List, [], ◌∷◌}
use Rattle.std.specs.declared.option.Option.{Option}
use Rattle.std.specs.declared.option.Option.TheVariants.{None as none, Some as some}
use Rattle.std.specs.Option.{option_map as map}
use mathlib.Core.Path.{◌≡◌, refl, sym, ◌∙◌, ap, ap₂, subst, fun_ext}
use lib.Dec.{eqb}
use Rattle.theory.proofs.Types.{Fate, Done, Refused, Lapsed, Plan, State, CallFault, Incoherent, Is, Made, Reply, Call, Submit, Close, Finish, Advance}
use Rattle.plan.specs.Base.{first_of, when, lowest}
use Rattle.plan.specs.Fates.{is_open, is_held}
use Rattle.plan.specs.Plans.{event_count, rule_count, step_of, rejectable, delayable, has_window}
use Rattle.plan.specs.Rules.{ready}
use Rattle.plan.specs.Faults.{first_fault}
use Rattle.scheduler.specs.State.{first_state, fate_of, in_time, too_late, hold, settle_as, shut, break_rule, set_minute, Sized}
use Rattle.scheduler.specs.Rules.{ruled_out, barred, forbidden, owing, strains}
use Rattle.scheduler.specs.Orders.{may_do, do_one, do_all, order_of, chosen}
use Rattle.scheduler.specs.Calls.{AtRest, to_refuse, to_do, settle_once, settle_up_to, settle, break_if, record_broken, do_alone, decide, submit, lapse, close_step, refuse_held, finish, advance_to}
use Rattle.scheduler.specs.Coherent.{coherent_event, coherent_rule, coherent}
use Rattle.scheduler.specs.Answers.{call_rows, call_fault, accept, call}
use Rattle.scheduler.specs.Lists.{scheduler, after}
use Rattle.theory.specs.Windows.{NoWindows, unmoved, is_advance, Timeless, MovesNothing}
use Rattle.plan.proofs.Tests.{clash}
use Rattle.plan.proofs.Windows.{unwindowed_allowed, unwindowed_over}
use Rattle.scheduler.proofs.Laws.{plan_settle, plan_hold, plan_shut, sized_hold, sized_shut, sized_settle}
use Rattle.scheduler.proofs.Grounds.{lapse_sized, grounded}
use Rattle.scheduler.proofs.Doing.{sized_decide}
use Rattle.scheduler.proofs.Branches.{up_to-none, up_to-some, decide_order, decide_refuse, decide_alone, submit_same, submit_delayed, submit_decided, lapse_yes, lapse_no, lowest_held, refuse_none, refuse_some, call_fault_lem, call_accept}
use Rattle.scheduler.proofs.Courses.{plan_decide, plan_lapsing}
use Rattle.scheduler.proofs.Settling.{plan_turns, settle_turns, once_some, plan_turn, none_once, sized_turn, sized_settling}
use Rattle.theory.proofs.SheetPlans.{sheet_first}
use Rattle.theory.proofs.Minutes.{trail_plan}
use Rattle.theory.proofs.Coherence.{sized_call}
use Rattle.theory.proofs.Demands.{admitted_sized}
use Rattle.theory.proofs.Punctual.{rest_call, rest_first}

-- the state at another minute, and the writes before or after
module _ (m : ℕ) where
  abbrev to : State → State
  to s = set_minute s m

  to_settle : (x : Fate) (s : State) (e : ℕ) → settle_as x (to s) e ≡ to (settle_as x s e)
  unfolding settle_as set_minute
  to_settle x s e = refl

  to_one : (s : State) (c : ℕ) → do_one (to s) c ≡ to (do_one s c)
  unfolding settle_as set_minute
  to_one s c = refl

  to_hold : (s : State) (e : ℕ) → hold (to s) e ≡ to (hold s e)
  unfolding hold set_minute
  to_hold s e = refl

  to_shut : (s : State) (k : ℕ) → shut (to s) k ≡ to (shut s k)
  unfolding shut set_minute
  to_shut s k = refl

  to_break : (s : State) (i : ℕ) → break_rule (to s) i ≡ to (break_rule s i)
  unfolding break_rule set_minute
  to_break s i = refl

  to_all : (s : State) (o : List ℕ) → do_all (to s) o ≡ to (do_all s o)
  unfolding do_all
  to_all s [] = refl
  to_all s (c ∷ o) = ap (λ (t : State). do_all t o) (to_one s c) ∙ to_all (do_one s c) o

  -- what the rules say
  to_plan : (s : State) → (to s).plan ≡ s.plan
  unfolding set_minute
  to_plan s = refl

  to_fate : (s : State) (e : ℕ) → fate_of (to s) e ≡ fate_of s e
  unfolding set_minute
  to_fate s e = refl

  to_owing : (s : State) → owing (to s) ≡ owing s
  unfolding owing set_minute
  to_owing s = refl

  to_strains : (s : State) (e i : ℕ) → strains (to s) e i ≡ strains s e i
  unfolding strains settle_as set_minute
  to_strains s e i = refl

  -- where no event has a window
  module _ (p : Plan) (n : NoWindows p) where
    abbrev Of : State → Type 0
    Of s = s.plan ≡ p

    time_any : (s : State) → Of s → (e : ℕ) → in_time s e ≡ true
    time_any s h e = unwindowed_allowed s.plan e (ap (λ (q : Plan). has_window q e) h ∙ n e) s.minute

    late_never : (s : State) → Of s → (e : ℕ) → too_late s e ≡ false
    late_never s h e = unwindowed_over s.plan e (ap (λ (q : Plan). has_window q e) h ∙ n e) s.minute

    to_of : (s : State) → Of s → Of (to s)
    to_of s h = to_plan s ∙ h

    one_of : (s : State) (c : ℕ) → Of s → Of (do_one s c)
    unfolding settle_as
    one_of s c h = h

    to_may : (s : State) → Of s → (c : ℕ) → may_do (to s) c ≡ may_do s c
    unfolding may_do
    to_may s h c =
        ap₂ (λ a b. a && b) (same c) (time_any (to s) (to_of s h) c ∙ sym (time_any s h c))
      where
        same : (c : ℕ) → (ready (to s).plan (fate_of (to s)) c && not (forbidden (to s) c)) ≡ (ready s.plan (fate_of s) c && not (forbidden s c))
        same c = unfold set_minute forbidden in refl

    to_barred : (s : State) → Of s → (e : ℕ) → barred (to s) e ≡ barred s e
    unfolding barred
    to_barred s h e = ap₂ (λ a b. a || b) same (late_never (to s) (to_of s h) e ∙ sym (late_never s h e))
      where
        same : ruled_out (to s) e ≡ ruled_out s e
        same = unfold set_minute ruled_out in refl

    to_order : (candidate : ℕ → Bool) (k : ℕ) (s : State) → Of s → (e : ℕ) (had : Bool) → order_of candidate k (to s) e had ≡ order_of candidate k s e had
    unfolding order_of
    to_order candidate zero s h e had = rw (to_owing s)
    to_order candidate (suc k) s h e had =
        ap₂ (λ i f. first_of i 0 f) (ap event_count (to_plan s)) (fun_ext (λ c.
        ap₂ (λ may later. when (candidate c && may) (map (λ o. c ∷ o) later)) (to_may s h c)
        (ap (λ (t : State). order_of candidate k t e (had || eqb c e)) (to_one s c) ∙ to_order candidate k (do_one s c) (one_of s c h) e (had || eqb c e))))

    to_chosen : (s : State) → Of s → (e : ℕ) → chosen (to s) e ≡ chosen s e
    unfolding chosen
    to_chosen s h e = ap (first_of 6 1) (fun_ext (λ k. to_order (λ c. true) k s h e false))

    -- settling
    to_refuse_lem : (s : State) → Of s → to_refuse (to s) ≡ to_refuse s
    unfolding to_refuse
    to_refuse_lem s h =
        ap₂ lowest (ap event_count (to_plan s)) (fun_ext (λ e. ap₂ (λ a b. a && b) (ap is_held (to_fate s e)) (to_barred s h e)))

    to_do_lem : (s : State) → Of s → to_do (to s) ≡ to_do s
    unfolding to_do
    to_do_lem s h =
        ap₂ (λ i f. first_of i 0 f) (ap event_count (to_plan s)) (fun_ext (λ e. ap₂ when (ap is_held (to_fate s e)) (to_chosen s h e)))

    to_once : (s : State) → Of s → settle_once (to s) ≡ map to (settle_once s)
    unfolding settle_once
    to_once s h = go (to_refuse s) refl (to_do s) refl
      where
        go : (q : Option ℕ) → to_refuse s ≡ q → (d : Option (List ℕ)) → to_do s ≡ d → settle_once (to s) ≡ map to (settle_once s)
        go (some e) a d b = rw (to_refuse_lem s h ∙ a, a, settle_once) (ap {B = Option State} some (to_settle Refused s e))
        go none a none b = rw (to_refuse_lem s h ∙ a, a, to_do_lem s h ∙ b, b, settle_once)
        go none a (some o) b = rw (to_refuse_lem s h ∙ a, a, to_do_lem s h ∙ b, b, settle_once) (ap {B = Option State} some (to_all s o))

    to_up : (k : ℕ) (s : State) → Sized s → Of s → settle_up_to k (to s) ≡ to (settle_up_to k s)
    unfolding settle_up_to
    to_up zero s z h = refl
    to_up (suc k) s z h = go (settle_once s) refl (λ t y w. to_up k t y w)
      where
        go : (q : Option State) → settle_once s ≡ q → ((t : State) → Sized t → Of t → settle_up_to k (to t) ≡ to (settle_up_to k t)) → settle_up_to (suc k) (to s) ≡ to (settle_up_to (suc k) s)
        go none a rec = up_to-none k (to s) (to_once s h ∙ ap (map to) a) ∙ sym (ap to (up_to-none k s a))
        go (some t) a rec =
            let r = once_some s t z a in
            up_to-some k (to s) (to t) (to_once s h ∙ ap (map to) a)
            ∙ rec t (sized_turn r z) (plan_turn r ∙ h)
            ∙ sym (ap to (up_to-some k s t a))

    to_settling : (s : State) → Sized s → Of s → settle (to s) ≡ to (settle s)
    unfolding settle
    to_settling s z h = to_up 16 s z h

    settle_of : (s : State) → Sized s → Of s → Of (settle s)
    settle_of s z h = plan_turns (settle_turns s z) ∙ h

    -- hand in
    to_record : (k : ℕ) (s : State) (e : ℕ) (t : State) → record_broken k (to s) e (to t) ≡ to (record_broken k s e t)
    unfolding record_broken
    to_record zero s e t = refl
    to_record (suc k) s e t =
        ap₂ (λ (b : Bool) (u : State). break_if b u k) (to_strains s e k) (to_record k s e t) ∙ go (strains s e k)
      where
        go : (b : Bool) → break_if b (to (record_broken k s e t)) k ≡ to (break_if b (record_broken k s e t) k)
        go true = to_break (record_broken k s e t) k
        go false = refl

    to_alone : (s : State) (e : ℕ) → do_alone (to s) e ≡ to (do_alone s e)
    unfolding do_alone
    to_alone s e =
        ap₂ (λ (k : ℕ) (t : State). record_broken k (to s) e t) (ap rule_count (to_plan s)) (to_settle Done s e)
        ∙ to_record (rule_count s.plan) s e (settle_as Done s e)

    to_decide : (s : State) → Of s → (e : ℕ) → decide (to s) e ≡ to (decide s e)
    to_decide s h e = go (chosen s e) refl (rejectable s.plan e) refl
      where
        same : rejectable (to s).plan e ≡ rejectable s.plan e
        same = ap (λ (q : Plan). rejectable q e) (to_plan s)

        go : (q : Option (List ℕ)) → chosen s e ≡ q → (b : Bool) → rejectable s.plan e ≡ b → decide (to s) e ≡ to (decide s e)
        go (some o) a b r = decide_order (to s) e o (to_chosen s h e ∙ a) ∙ to_all s o ∙ sym (ap to (decide_order s e o a))
        go none a true r = decide_refuse (to s) e (to_chosen s h e ∙ a) (same ∙ r) ∙ to_settle Refused s e ∙ sym (ap to (decide_refuse s e a r))
        go none a false r = decide_alone (to s) e (to_chosen s h e ∙ a) (same ∙ r) ∙ to_alone s e ∙ sym (ap to (decide_alone s e a r))

    to_submit : (s : State) → Sized s → Of s → (e : ℕ) → submit (to s) e ≡ to (submit s e)
    to_submit s z h e = go (is_open (fate_of s e)) refl (delayable s.plan e) refl
      where
        fresh : is_open (fate_of (to s) e) ≡ is_open (fate_of s e)
        fresh = ap is_open (to_fate s e)

        same : delayable (to s).plan e ≡ delayable s.plan e
        same = ap (λ (q : Plan). delayable q e) (to_plan s)

        held : Of (hold s e)
        held = plan_hold s e ∙ h

        go : (o : Bool) → is_open (fate_of s e) ≡ o → (b : Bool) → delayable s.plan e ≡ b → submit (to s) e ≡ to (submit s e)
        go false a b r = submit_same (to s) e (fresh ∙ a) ∙ sym (ap to (submit_same s e a))
        go true a true r =
            submit_delayed (to s) e (fresh ∙ a) (same ∙ r)
            ∙ ap settle (to_hold s e)
            ∙ to_settling (hold s e) (sized_hold s e z) held
            ∙ sym (ap to (submit_delayed s e a r))
        go true a false r =
            submit_decided (to s) e (fresh ∙ a) (same ∙ r)
            ∙ ap (λ (t : State). settle (decide t e)) (to_hold s e)
            ∙ ap settle (to_decide (hold s e) held e)
            ∙ to_settling (decide (hold s e) e) (sized_decide (hold s e) e (sized_hold s e z)) (plan_decide (hold s e) e ∙ held)
            ∙ sym (ap to (submit_decided s e a r))

    -- close a step
    to_lapse : (k e : ℕ) (s : State) (j : ℕ) → lapse k e (to s) j ≡ to (lapse k e s j)
    unfolding lapse
    to_lapse zero e s j = refl
    to_lapse (suc k) e s j = go (is_open (fate_of s e) && eqb (step_of s.plan e) j) refl (λ t. to_lapse k (suc e) t j)
      where
        same : (is_open (fate_of (to s) e) && eqb (step_of (to s).plan e) j) ≡ (is_open (fate_of s e) && eqb (step_of s.plan e) j)
        same = unfold set_minute in refl

        go : (b : Bool) → (is_open (fate_of s e) && eqb (step_of s.plan e) j) ≡ b → ((t : State) → lapse k (suc e) (to t) j ≡ to (lapse k (suc e) t j)) → lapse (suc k) e (to s) j ≡ to (lapse (suc k) e s j)
        go true a rec =
            lapse_yes k e (to s) j (same ∙ a)
            ∙ ap (λ (t : State). lapse k (suc e) t j) (to_settle Lapsed s e)
            ∙ rec (settle_as Lapsed s e)
            ∙ sym (ap to (lapse_yes k e s j a))
        go false a rec = lapse_no k e (to s) j (same ∙ a) ∙ rec s ∙ sym (ap to (lapse_no k e s j a))

    to_close : (s : State) → Sized s → Of s → (j : ℕ) → close_step (to s) j ≡ to (close_step s j)
    unfolding close_step
    to_close s z h j =
        ap₂ (λ (k : ℕ) (t : State). settle (lapse k 0 t j)) (ap event_count (to_plan s)) (to_shut s j)
        ∙ ap settle (to_lapse (event_count s.plan) 0 (shut s j) j)
        ∙ to_settling (lapse (event_count s.plan) 0 (shut s j) j) (lapse_sized (event_count s.plan) 0 (shut s j) j (sized_shut s j z)) (plan_lapsing (event_count s.plan) 0 (shut s j) j ∙ plan_shut s j ∙ h)

    -- wind up
    to_refusing : (k : ℕ) (s : State) → Sized s → Of s → refuse_held k (to s) ≡ to (refuse_held k s)
    unfolding refuse_held
    to_refusing zero s z h = refl
    to_refusing (suc k) s z h = go (lowest_held s) refl (λ t y w. to_refusing k t y w)
      where
        same : lowest_held (to s) ≡ lowest_held s
        same = unfold set_minute in refl

        go : (q : Option ℕ) → lowest_held s ≡ q → ((t : State) → Sized t → Of t → refuse_held k (to t) ≡ to (refuse_held k t)) → refuse_held (suc k) (to s) ≡ to (refuse_held (suc k) s)
        go none a rec = refuse_none k (to s) (same ∙ a) ∙ sym (ap to (refuse_none k s a))
        go (some e) a rec =
            let y = sized_settle Refused s e z in
            let w = plan_settle Refused s e ∙ h in
            refuse_some k (to s) e (same ∙ a)
            ∙ ap (λ (t : State). refuse_held k (settle t)) (to_settle Refused s e)
            ∙ ap (refuse_held k) (to_settling (settle_as Refused s e) y w)
            ∙ rec (settle (settle_as Refused s e)) (sized_settling (settle_as Refused s e) y) (settle_of (settle_as Refused s e) y w)
            ∙ sym (ap to (refuse_some k s e a))

    to_finish : (s : State) → Sized s → Of s → finish (to s) ≡ to (finish s)
    unfolding finish
    to_finish s z h = ap (refuse_held 16) (to_settling s z h) ∙ to_refusing 16 (settle s) (sized_settling s z) (settle_of s z h)

    -- a call that does not move the minute
    to_coherent : (s : State) → coherent (to s) ≡ coherent s
    unfolding coherent coherent_event coherent_rule set_minute
    to_coherent s = refl

    to_rows : (s : State) (c : Call) → is_advance c ≡ false → call_rows (to s) c ≡ call_rows s c
    unfolding set_minute
    to_rows s (Submit e) q = refl
    to_rows s (Close k) q = refl
    to_rows s Finish q = refl
    to_rows s (Advance k) q = absurd (clash refl q)

    to_fault : (s : State) (c : Call) → is_advance c ≡ false → call_fault (to s) c ≡ call_fault s c
    unfolding call_fault
    to_fault s c q = ap₂ (λ (b : Bool) r. first_fault ((not b, Incoherent) ∷ r)) (to_coherent s) (to_rows s c q)

    abbrev at_minute : Reply → Reply
    at_minute r = record { answer = r.answer; state = to r.state }

    to_accept : (s : State) → Sized s → Of s → (c : Call) → is_advance c ≡ false → accept (to s) c ≡ at_minute (accept s c)
    unfolding accept
    to_accept s z h (Submit e) q =
        ap (λ (t : State). record { answer = Is (fate_of t e); state = t }) (to_submit s z h e)
        ∙ ap (λ (x : Fate). record { answer = Is x; state = to (submit s e) }) (to_fate (submit s e) e)
    to_accept s z h (Close k) q = ap (λ (t : State). record { answer = Made; state = t }) (to_close s z h k)
    to_accept s z h Finish q = ap (λ (t : State). record { answer = Made; state = t }) (to_finish s z h)
    to_accept s z h (Advance k) q = absurd (clash refl q)

    to_call : (s : State) → Sized s → Of s → (c : Call) → is_advance c ≡ false → call (to s) c ≡ at_minute (call s c)
    to_call s z h c q = go (call_fault s c) refl
      where
        go : (f : Option CallFault) → call_fault s c ≡ f → call (to s) c ≡ at_minute (call s c)
        go (some f) a = call_fault_lem (to s) c f (to_fault s c q ∙ a) ∙ sym (ap at_minute (call_fault_lem s c f a))
        go none a = call_accept (to s) c (to_fault s c q ∙ a) ∙ to_accept s z h c q ∙ sym (ap at_minute (call_accept s c a))

-- of every state that code can hold
pub timeless : (s : State) (m : ℕ) (c : Call) → Sized s → NoWindows s.plan → is_advance c ≡ false → Timeless s m c
timeless s m c z n q =
    let h = to_call m s.plan n s z refl c q in
    record { answers = ap (λ (r : Reply). r.answer) h; states = ap (λ (r : Reply). r.state) h }

-- a move from a state at rest changes the minute alone
rest_settle : (s : State) → Sized s → AtRest s → settle s ≡ s
unfolding settle
rest_settle s z r = up_to-none 15 s (none_once s z r)

twice : (s : State) (m n : ℕ) → set_minute (set_minute s m) n ≡ set_minute s n
unfolding set_minute
twice s m n = refl

moved : (s : State) (m : ℕ) → Sized s → AtRest s → NoWindows s.plan → set_minute (call s (Advance m)).state 0 ≡ set_minute s 0
moved s m z r n = go (call_fault s (Advance m)) refl
  where
    taken : (accept s (Advance m)).state ≡ set_minute s m
    taken = unfold accept advance_to in (to_settling m s.plan n s z refl ∙ ap (λ (t : State). set_minute t m) (rest_settle s z r))

    go : (f : Option CallFault) → call_fault s (Advance m) ≡ f → set_minute (call s (Advance m)).state 0 ≡ set_minute s 0
    go (some f) a = ap (λ (v : Reply). set_minute v.state 0) (call_fault_lem s (Advance m) f a)
    go none a = ap (λ (v : Reply). set_minute v.state 0) (call_accept s (Advance m) a) ∙ ap (λ (t : State). set_minute t 0) taken ∙ twice s m 0

plan_call : (s : State) (c : Call) → Sized s → (call s c).state.plan ≡ s.plan
plan_call s c z = trail_plan (grounded s c z)

-- lists with and without their moves
module _ (p : Plan) (n : NoWindows p) where
  abbrev Fit : State → Type 0
  Fit s = Sized s × AtRest s × (s.plan ≡ p)

  fit_call : (s : State) (c : Call) → Fit s → Fit (call s c).state
  fit_call s c f = (sized_call s c f.0, rest_call s c f.0 f.1, plan_call s c f.0 ∙ f.2)

  other : (cs : List Call) (s : State) (c : Call)
      → Fit s
      → is_advance c ≡ false
      → set_minute (after scheduler (scheduler s c) cs) 0 ≡ after scheduler (set_minute (scheduler s c) 0) (unmoved cs)
      → set_minute (after scheduler (scheduler s c) cs) 0 ≡ after scheduler (scheduler (set_minute s 0) c) (unmoved cs)
  other cs s c f q h =
      h ∙ ap (λ (t : State). after scheduler t (unmoved cs)) (sym (ap (λ (r : Reply). r.state) (to_call 0 p n s f.0 f.2 c q)))

  without : (cs : List Call) (s : State) → Fit s → set_minute (after scheduler s cs) 0 ≡ after scheduler (set_minute s 0) (unmoved cs)
  unfolding after
  without [] s f = refl
  without (Submit e ∷ cs) s f = other cs s (Submit e) f refl (without cs (scheduler s (Submit e)) (fit_call s (Submit e) f))
  without (Close k ∷ cs) s f = other cs s (Close k) f refl (without cs (scheduler s (Close k)) (fit_call s (Close k) f))
  without (Finish ∷ cs) s f = other cs s Finish f refl (without cs (scheduler s Finish) (fit_call s Finish f))
  without (Advance m ∷ cs) s f =
      without cs (scheduler s (Advance m)) (fit_call s (Advance m) f)
      ∙ ap (λ (t : State). after scheduler t (unmoved cs)) (moved s m f.0 f.1 (subst NoWindows (sym f.2) n))

first_minute : (p : Plan) → set_minute (first_state p) 0 ≡ first_state p
unfolding set_minute
first_minute p = refl

pub moves_nothing : MovesNothing scheduler
moves_nothing bytes s cs read n =
    let first = sheet_first bytes s read in
    let fit : Fit s.plan n s = (admitted_sized bytes s read, subst AtRest (sym first) (rest_first s.plan), refl) in
    without s.plan n cs s fit ∙ ap (λ (t : State). after scheduler t (unmoved cs)) (ap (λ (t : State). set_minute t 0) first ∙ first_minute s.plan ∙ sym first)
