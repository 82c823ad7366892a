-- Settling and winding up: the functions are what the relations say, and 16 turns are enough.
use Prim.Native.Nat.{ℕ, zero, suc, ◌+◌, ◌≤◌, ◌<◌}
use native.Mathlib.Omega.{arith}
use native.Mathlib.Decide.{dec_lt}
use mathlib.Core.Bool.{Bool, true, false, not, ◌&&◌}
use mathlib.Core.List.{List, [], ◌∷◌}
use mathlib.Core.Logic.{inl, inr}
use Rattle.std.specs.declared.option.Option.{Option}
use Rattle.std.specs.declared.option.Option.TheVariants.{None as none, Some as some}
use Rattle.std.specs.Option.{option_map as map}
use mathlib.Core.Path.{◌≡◌, refl, sym, ◌∙◌, ap, subst}
use lib.ListN.{length}
use Rattle.scheduler.specs.Prelude.{Fate, Held, Refused, State}
use Rattle.plan.specs.Base.{count_below, when, lowest}
use Rattle.plan.specs.Plans.{event_count}
use Rattle.scheduler.specs.State.{fate_of, settle_as, Sized}
use Rattle.plan.specs.Fates.{is_held, is_settled}
use Rattle.scheduler.specs.Rules.{barred}
use Rattle.scheduler.specs.Orders.{may_do, fate_at_turn, do_one, Runs, Viable, First, chosen, do_all}
use Rattle.scheduler.specs.Calls.{Lowest, IsHeld, HeldBarred, HeldViable, Turn, refuses, does, AtRest, Turns, stay, turn, Settles, Refusing, nothing_held, refuse_next, Finishes}
use Rattle.scheduler.specs.Calls.{to_refuse, to_do, settle_once, settle_up_to, settle, refuse_held, finish}
use Rattle.plan.proofs.Tests.{either, and_left, and_right, and_both, clash, first_none, first_some, when_none, when_some, some_none, count_le, count_more}
use Rattle.plan.proofs.Fates.{held_is}
use Rattle.scheduler.proofs.Laws.{turn_settled, sized_one, fate_past, plan_settle, fate_settle_same, fate_settle_other, sized_settle}
use Rattle.scheduler.proofs.Branches.{up_to-none, up_to-some, lowest_held, refuse_none, refuse_some}
use Rattle.scheduler.proofs.Searching.{ready_unsettled, ready_bound, plan-do_all, sized-do_all, run_declared, mem_long, chosen_none, chosen_first, first_chosen}

pub held_bound : (s : State) (e : ℕ) → fate_of s e ≡ Held → e < 16
held_bound s e h =
    elim (dec_lt e 16) [ yes lt ↦ lt | no ge ↦ absurd (clash (ap is_held h) (ap is_held (fate_past s e (omega arith)))) ]

-- a test tells whether a property holds
pub record Tested (P : ℕ → Type 0) (t : ℕ → Bool) : Type 0 where
  pub test : (e : ℕ) → P e → t e ≡ true
  pub fact : (e : ℕ) → t e ≡ true → P e

pub held_tested : (s : State) → Tested (IsHeld s) (λ e. is_held (fate_of s e))
held_tested s = record { test = λ e h. ap is_held h; fact = λ e h. held_is (fate_of s e) h }

pub barred_tested : (s : State) → Tested (HeldBarred s) (λ e. is_held (fate_of s e) && barred s e)
barred_tested s = record {
  test = λ e h. and_both (is_held (fate_of s e)) (barred s e) (ap is_held h.0) h.1;
  fact = λ e h. (held_is (fate_of s e) (and_left (is_held (fate_of s e)) (barred s e) h), and_right (is_held (fate_of s e)) (barred s e) h);
}

-- two lowest events of which P holds are one
pub lowest_one : (s : State) (P : ℕ → Type 0) (d e : ℕ) → Lowest s P d → Lowest s P e → d ≡ e
lowest_one s P d e l m = elim (dec_lt d e) [
  | yes lt ↦ absurd (m.none_below d lt l.is)
  | no ge ↦ elim (dec_lt e d) [
    | yes lt ↦ absurd (l.none_below e lt m.is)
    | no ge' ↦ omega arith
  ]
]

-- the lowest event that passes the test is the lowest of which P holds
module _ (s : State) {P : ℕ → Type 0} {t : ℕ → Bool} (y : Tested P t) where
  pub lowest_none : lowest (event_count s.plan) t ≡ none → (e : ℕ) → e < event_count s.plan → P e → ⊥
  unfolding lowest
  lowest_none h e lt p =
      some_none (when_none (t e) (some e) (first_none (event_count s.plan) 0 (λ i. when (t i) (some i)) h e (omega arith) (omega arith)) (y.test e p))

  pub lowest_some : (e : ℕ) → lowest (event_count s.plan) t ≡ some e → Lowest s P e
  unfolding lowest
  lowest_some e h =
      let f = first_some (event_count s.plan) 0 (λ i. when (t i) (some i)) e h in
      let w = when_some (t f.place) (some f.place) e f.gives in
      let q : f.place ≡ e = cc in
      subst (Lowest s P) q (record { declared = omega (arith, f.upto); is = y.fact f.place w.0; none_below = λ d lt p. some_none (when_none (t d) (some d) (f.before d (omega arith) lt) (y.test d p)) })

  pub none_lowest : ((e : ℕ) → e < event_count s.plan → P e → ⊥) → lowest (event_count s.plan) t ≡ none
  none_lowest h = go (lowest (event_count s.plan) t) refl
    where
      go : (o : Option ℕ) → lowest (event_count s.plan) t ≡ o → lowest (event_count s.plan) t ≡ none
      go none q = q
      go (some e) q = let l = lowest_some e q in absurd (h e l.declared l.is)

  pub some_lowest : (e : ℕ) → Lowest s P e → lowest (event_count s.plan) t ≡ some e
  some_lowest e l = go (lowest (event_count s.plan) t) refl
    where
      go : (o : Option ℕ) → lowest (event_count s.plan) t ≡ o → lowest (event_count s.plan) t ≡ some e
      go none q = absurd (lowest_none q e l.declared l.is)
      go (some d) q = q ∙ ap {B = Option ℕ} some (lowest_one s P d e (lowest_some d q) l)

-- the order to do, and one turn by what is to be refused and to be done
module _ (s : State) where
  order_at : ℕ → Option (List ℕ)
  order_at e = let order = chosen s e in when (is_held (fate_of s e)) order

  no_order_lem : (e : ℕ) → order_at e ≡ none → HeldViable s e → ⊥
  unfolding order_at
  no_order_lem e h v = chosen_none s e (when_none (is_held (fate_of s e)) (chosen s e) h (ap is_held v.0)) v.1 v.2

  do_none : to_do s ≡ none → (e : ℕ) → e < event_count s.plan → HeldViable s e → ⊥
  unfolding to_do order_at
  do_none h e lt v = no_order_lem e (first_none (event_count s.plan) 0 order_at h e (omega arith) (omega arith)) v

  do_some : Sized s → (o : List ℕ) → to_do s ≡ some o → (e : ℕ) × Lowest s (HeldViable s) e × First s e o
  unfolding to_do order_at
  do_some z o h =
      let f = first_some (event_count s.plan) 0 order_at o h in
      let w = when_some (is_held (fate_of s f.place)) (chosen s f.place) o f.gives in
      let c = chosen_first s f.place z o w.1 in
      (f.place, record { declared = omega (arith, f.upto); is = (held_is (fate_of s f.place) w.0, o, c.viable); none_below = λ d lt v. no_order_lem d (f.before d (omega arith) lt) v }, c)

  once_refuse : (e : ℕ) → to_refuse s ≡ some e → settle_once s ≡ some (settle_as Refused s e)
  unfolding settle_once
  once_refuse e h = rw (h, settle_once)

  once_do : to_refuse s ≡ none → settle_once s ≡ map (do_all s) (to_do s)
  unfolding settle_once
  once_do h = rw (h, settle_once)

-- a turn is what settle_once gives
pub once_some : (s t : State) → Sized s → settle_once s ≡ some t → Turn s t
unfolding to_refuse
once_some s t z h = go (to_refuse s) refl (to_do s) refl
  where
    go : (r : Option ℕ) → to_refuse s ≡ r → (d : Option (List ℕ)) → to_do s ≡ d → Turn s t
    go (some e) r d q =
        let u : settle_as Refused s e ≡ t = cc (once_refuse s e r) in
        subst (Turn s) u (refuses e (lowest_some s (barred_tested s) e r))
    go none r none q = absurd (some_none (sym h ∙ once_do s r ∙ ap (map (do_all s)) q))
    go none r (some o) q =
        let f = do_some s z o q in
        let v : ◌≡◌ {A = Option State} (some (do_all s o)) (some t) = sym (ap (map (do_all s)) q) ∙ sym (once_do s r) ∙ h in
        let u : do_all s o ≡ t = cc in
        subst (Turn s) u (does f.0 o (lowest_none s (barred_tested s) r) f.1 f.2)

pub turn_once : (s t : State) → Sized s → Turn s t → settle_once s ≡ some t
unfolding to_refuse
turn_once s t z (refuses e l) = once_refuse s e (some_lowest s (barred_tested s) e l)
turn_once s t z (does e o nb l f) =
    once_do s (none_lowest s (barred_tested s) nb) ∙ ap (map (do_all s)) (go (to_do s) refl)
  where
    go : (d : Option (List ℕ)) → to_do s ≡ d → to_do s ≡ some o
    go none q = absurd (do_none s q e l.declared l.is)
    go (some p) q =
        let g = do_some s z p q in
        let same : g.0 ≡ e = lowest_one s (HeldViable s) g.0 e g.1 l in
        q ∙ sym (first_chosen s e z p (subst (λ d. First s d p) same g.2)) ∙ first_chosen s e z o f

pub once_none : (s : State) → Sized s → settle_once s ≡ none → AtRest s
once_none s z h u t = some_none (sym (turn_once s u z t) ∙ h)

pub none_once : (s : State) → Sized s → AtRest s → settle_once s ≡ none
none_once s z h = go (settle_once s) refl
  where
    go : (o : Option State) → settle_once s ≡ o → settle_once s ≡ none
    go none q = q
    go (some t) q = absurd (h t (once_some s t z q))

-- at rest no held event has a viable order
pub rest_none : (s : State) → settle_once s ≡ none → (e : ℕ) (o : List ℕ) → fate_of s e ≡ Held → Viable s e o → ⊥
rest_none s h e o held v = go (to_refuse s) refl (to_do s) refl
  where
    go : (r : Option ℕ) → to_refuse s ≡ r → (d : Option (List ℕ)) → to_do s ≡ d → ⊥
    go (some d) r w q = some_none (sym (once_refuse s d r) ∙ h)
    go none r (some p) q = some_none (sym (ap (map (do_all s)) q) ∙ sym (once_do s r) ∙ h)
    go none r none q = do_none s q e (run_declared s o v.runs e v.contains).0 (held, o, v)

-- and none is barred
pub rest_unbarred : (s : State) → settle_once s ≡ none → (e : ℕ) → e < event_count s.plan → fate_of s e ≡ Held → barred s e ≡ false
unfolding to_refuse
rest_unbarred s h e lt held = go (to_refuse s) refl
  where
    go : (r : Option ℕ) → to_refuse s ≡ r → barred s e ≡ false
    go (some d) r = absurd (some_none (sym (once_refuse s d r) ∙ h))
    go none r = elim (either (barred s e)) [
      | inl b ↦ absurd (lowest_none s (barred_tested s) r e lt (held, b))
      | inr b ↦ b
    ]

-- turns keep the plan and the lengths
pub plan_turn : {s t : State} → Turn s t → t.plan ≡ s.plan
plan_turn {s} (refuses e l) = plan_settle Refused s e
plan_turn {s} (does e o nb l f) = plan-do_all s o

pub sized_turn : {s t : State} → Turn s t → Sized s → Sized t
sized_turn {s} (refuses e l) z = sized_settle Refused s e z
sized_turn {s} (does e o nb l f) z = sized-do_all s o z

pub plan_turns : {s t : State} → Turns s t → t.plan ≡ s.plan
plan_turns stay = refl
plan_turns (turn r ts) = plan_turns ts ∙ plan_turn r

pub sized_turns : {s t : State} → Turns s t → Sized s → Sized t
sized_turns stay z = z
sized_turns (turn r ts) z = sized_turns ts (sized_turn r z)

-- how many events are unsettled: at most 16, and fewer after each turn
abbrev is_unsettled : State → ℕ → Bool
is_unsettled s e = not (is_settled (fate_of s e))

abbrev pub unsettled : State → ℕ
unsettled s = count_below 16 (is_unsettled s)

pub unsettled_settle : (x : Fate) (s : State) (e : ℕ)
    → is_settled x ≡ true
    → Sized s
    → e < 16
    → is_settled (fate_of s e) ≡ false
    → unsettled s ≡ suc (unsettled (settle_as x s e))
unsettled_settle x s e fin z lt un =
    count_more 16
    (is_unsettled (settle_as x s e))
    (is_unsettled s) e lt
    (ap (λ (y : Fate). not (is_settled y)) (fate_settle_same x s e z lt) ∙ ap not fin)
    (ap not un)
    (λ j ne. ap (λ (y : Fate). not (is_settled y)) (fate_settle_other x s e j ne))

-- one event of an order done leaves one fewer
pub unsettled_one : (s : State) (c : ℕ) → Sized s → may_do s c ≡ true → unsettled s ≡ suc (unsettled (do_one s c))
unsettled_one s c z m =
    unsettled_settle (fate_at_turn s c) s c (turn_settled s c) z (ready_bound s c m) (ready_unsettled s c m)

pub unsettled-do_all : (s : State) → Sized s → (o : List ℕ) → Runs s o → unsettled s ≡ length o + unsettled (do_all s o)
unfolding do_all
unsettled-do_all s z [] r = omega arith
unsettled-do_all s z (c ∷ o) r =
    omega (arith, unsettled_one s c z r.1, unsettled-do_all (do_one s c) (sized_one s c z) o r.2)

refuse_falls : (s : State) (e : ℕ) → Sized s → fate_of s e ≡ Held → unsettled (settle_as Refused s e) < unsettled s
refuse_falls s e z h = omega (arith, unsettled_settle Refused s e refl z (held_bound s e h) (ap is_settled h))

pub turn_falls : {s t : State} → Turn s t → Sized s → unsettled t < unsettled s
turn_falls {s} (refuses e l) z = refuse_falls s e z l.is.0
turn_falls {s} (does e o nb l f) z =
    omega (arith, unsettled-do_all s z o f.viable.runs, mem_long o f.viable.contains)

pub turns_fall : {s t : State} → Turns s t → Sized s → unsettled t ≤ unsettled s
turns_fall stay z = omega arith
turns_fall (turn r ts) z = omega (arith, turn_falls r z, turns_fall ts (sized_turn r z))

-- turns up to a number that is large enough come to rest
record Rested (s t : State) : Type 0 where
  turns : Turns s t
  rest : settle_once t ≡ none

up_to : (n : ℕ) (s : State) → Sized s → unsettled s ≤ n → Rested s (settle_up_to n s)
unfolding settle_up_to
up_to zero s z few = go (settle_once s) refl
  where
    go : (q : Option State) → settle_once s ≡ q → Rested s s
    go none e = record { turns = stay; rest = e }
    go (some t) e = absurd (omega (arith, turn_falls (once_some s t z e) z))
up_to (suc n) s z few = go (settle_once s) refl (up_to n)
  where
    go : (q : Option State)
        → settle_once s ≡ q
        → ((t : State) → Sized t → unsettled t ≤ n → Rested t (settle_up_to n t))
        → Rested s (settle_up_to (suc n) s)
    go none e rec = subst (Rested s) (sym (up_to-none n s e)) (record { turns = stay; rest = e })
    go (some t) e rec =
        let r : Turn s t = once_some s t z e in
        let y = rec t (sized_turn r z) (omega (arith, turn_falls r z)) in
        subst (Rested s) (sym (up_to-some n s t e)) (record { turns = turn r y.turns; rest = y.rest })

turns_up : {s t : State} → Turns s t → Sized s → settle_once t ≡ none → (n : ℕ) → unsettled s ≤ n → t ≡ settle_up_to n s
unfolding settle_up_to
turns_up stay z h zero few = refl
turns_up {s} stay z h (suc n) few = sym (up_to-none n s h)
turns_up (turn r ts) z h zero few = absurd (omega (arith, turn_falls r z))
turns_up {s} (turn {t = t} r ts) z h (suc n) few =
    turns_up ts (sized_turn r z) h n (omega (arith, turn_falls r z)) ∙ sym (up_to-some n s t (turn_once s t z r))

-- settling: 16 turns are enough
module _ (s : State) (z : Sized s) where
  rested : Rested s (settle s)
  unfolding settle
  rested = up_to 16 s z (count_le 16 (is_unsettled s))

  pub settle_turns : Turns s (settle s)
  settle_turns = rested.turns

  pub settle_rest : settle_once (settle s) ≡ none
  settle_rest = rested.rest

  pub sized_settling : Sized (settle s)
  sized_settling = sized_turns settle_turns z

  pub settle_settles : Settles s (settle s)
  settle_settles = record { turns = settle_turns; rests = once_none (settle s) sized_settling settle_rest }

pub settles_settle : (s t : State) → Sized s → Settles s t → t ≡ settle s
unfolding settle
settles_settle s t z r =
    turns_up r.turns z (none_once t (sized_turns r.turns z) r.rests) 16 (count_le 16 (is_unsettled s))

-- refusing the lowest held event and settling leaves fewer events unsettled
next_falls : (s : State) (e : ℕ) → Sized s → fate_of s e ≡ Held → unsettled (settle (settle_as Refused s e)) < unsettled s
next_falls s e z h =
    let z' = sized_settle Refused s e z in
    omega (arith, refuse_falls s e z h, turns_fall (settle_turns (settle_as Refused s e) z') z')

refusing_up : (n : ℕ) (s : State) → Sized s → unsettled s ≤ n → Refusing s (refuse_held n s)
unfolding refuse_held
refusing_up zero s z few = nothing_held {s = s} (λ e lt h. omega (arith, refuse_falls s e z h))
refusing_up (suc n) s z few = go (lowest_held s) refl (refusing_up n)
  where
    go : (q : Option ℕ)
        → lowest_held s ≡ q
        → ((t : State) → Sized t → unsettled t ≤ n → Refusing t (refuse_held n t))
        → Refusing s (refuse_held (suc n) s)
    go none h rec = subst (Refusing s) (sym (refuse_none n s h)) (nothing_held (lowest_none s (held_tested s) h))
    go (some e) h rec =
        let l = lowest_some s (held_tested s) e h in
        let t = settle_as Refused s e in
        let z' = sized_settle Refused s e z in
        subst (Refusing s) (sym (refuse_some n s e h))
        (refuse_next e l (settle_settles t z') (rec (settle t) (sized_settling t z') (omega (arith, next_falls s e z l.is))))

up_refusing : {s t : State} → Refusing s t → Sized s → (n : ℕ) → unsettled s ≤ n → t ≡ refuse_held n s
unfolding refuse_held
up_refusing (nothing_held h) z zero few = refl
up_refusing {s} (nothing_held h) z (suc n) few = sym (refuse_none n s (none_lowest s (held_tested s) h))
up_refusing {s} (refuse_next e l r rest) z zero few = absurd (omega (arith, refuse_falls s e z l.is))
up_refusing {s} (refuse_next {t = t} e l r rest) z (suc n) few =
    let z' = sized_settle Refused s e z in
    let q : t ≡ settle (settle_as Refused s e) = settles_settle (settle_as Refused s e) t z' r in
    up_refusing rest (sized_turns r.turns z') n (omega (arith, next_falls s e z l.is, ap unsettled q)) ∙ ap (refuse_held n) q ∙ sym (refuse_some n s e (some_lowest s (held_tested s) e l))

-- winding up: 16 refusals are enough
pub finish_finishes : (s : State) → Sized s → Finishes s (finish s)
unfolding finish
finish_finishes s z = record {
  between = settle s;
  settles = settle_settles s z;
  refusing = refusing_up 16 (settle s) (sized_settling s z) (count_le 16 (is_unsettled (settle s)));
}

pub finishes_finish : (s t : State) → Sized s → Finishes s t → t ≡ finish s
unfolding finish
finishes_finish s t z f =
    let q : f.between ≡ settle s = settles_settle s f.between z f.settles in
    up_refusing f.refusing (sized_turns f.settles.turns z) 16 (count_le 16 (is_unsettled f.between)) ∙ ap (refuse_held 16) q
