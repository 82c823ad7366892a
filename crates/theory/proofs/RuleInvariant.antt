-- The rules' part of the invariant, and what keeps it: doing an event that no rule forbids, and refusing an event or
-- letting it lapse while no rule owes.
use Prim.Native.Nat.{ℕ, ◌<◌}
use native.Mathlib.Omega.{arith}
use native.Mathlib.Decide.{ℕ_discrete}
use borrow.Author.Tests.{eq-eqb, ne_eqb, eqb-true, not-false}
use mathlib.Core.Bool.{Bool, true, false, not, ◌&&◌, ◌||◌, and-true, and-false, or-false}
use mathlib.Core.List.{List, [], ◌∷◌, ◌++◌}
use mathlib.Core.Logic.{inl, inr}
use mathlib.Core.Path.{◌≡◌, refl, sym, ◌∙◌, ap}
use lib.Dec.{eqb}
use Rattle.theory.proofs.Types.{Fate, Open, Held, Done, Refused, Lapsed, Forced, Rule, Order, Need, Conditional, Plan, Entry, State}
use Rattle.plan.specs.Base.{any_below}
use Rattle.plan.specs.Plans.{event_count, rule_count, rule_at, forcible, rejectable, delayable}
use Rattle.scheduler.specs.State.{fate_of, broken_at, lines, settle_as}
use Rattle.plan.specs.Fates.{Fates, is_open, is_done, is_gone, is_settled}
use Rattle.plan.specs.Rules.{named, unstoppable, reckoned, triggered, bars, makes_wait, forbids, owes}
use Rattle.plan.specs.Histories.{done_in, done_in_turn}
use Rattle.scheduler.specs.Rules.{forbidden, owing}
use Rattle.scheduler.specs.Orders.{fate_at_turn, do_one, may_do}
use Rattle.scheduler.specs.Demand.{unbreakable}
use Rattle.theory.specs.Waiting.{Awaits, plain_bars, plain_owes}
use Rattle.plan.proofs.Tests.{clash, either, or_left, or_right, or_both, or_either, or_right_true, and_left, and_right, and_both, and_not, any_false}
use Rattle.plan.proofs.Lines.{turn_append, done_settled_if}
use Rattle.plan.proofs.RuleReads.{two_named, ThreeNamed, triple_named}
use Rattle.orders.proofs.Doing.{done_settled, gone_settled}
use Rattle.scheduler.proofs.Laws.{turn_done, turn_settled, plan_settle, fate_settle_other, broken_settle}
use Rattle.scheduler.proofs.Searching.{ready_unsettled, may_free}
use Rattle.theory.proofs.SoundPlans.{Sound, rule_named}
use Rattle.theory.proofs.Waits.{awaits_unbreakable, awaits_bars, awaits_owes, bars_plain, owes_plain}
use Rattle.theory.proofs.HistoryInvariant.{Shape, HistoryListed, fate_then, lines_then}

-- tests
joined : (p q r : Bool) → (p && r) ≡ false → (q && r) ≡ false → ((p || q) && r) ≡ false
joined true q r h k = h
joined false q r h k = k

both : (ea eb da db : Bool)
    → (ea && eb) ≡ false
    → (da && db) ≡ false
    → ((ea && db) || (eb && da)) ≡ false
    → ((ea || da) && (eb || db)) ≡ false
both true true da db p q r = p
both true false da db p q r = or_left db false r
both false true da db p q r = rw r
both false false da db p q r = q

both_gone : (ea eb da db gc : Bool)
    → (ea && eb) ≡ false
    → (da && db && gc) ≡ false
    → (gc && ((ea && db) || (eb && da))) ≡ false
    → ((ea || da) && (eb || db) && gc) ≡ false
both_gone ea eb da db true p q r =
    and-true ((ea || da) && (eb || db)) ∙ both ea eb da db p (sym (and-true (da && db)) ∙ q) r
both_gone ea eb da db false p q r = and-false ((ea || da) && (eb || db))

differ : (e a b : ℕ) → eqb a b ≡ false → (eqb e a && eqb e b) ≡ false
differ e a b n = go (eqb e a) refl
  where
    go : (t : Bool) → eqb e a ≡ t → (eqb e a && eqb e b) ≡ false
    go true q = rw (q, eqb-true e a q) n
    go false q = rw q

-- b is not done last after a
pub turn_kept : (h : List Entry) (l : Entry) (a b : ℕ)
    → done_in_turn h a b ≡ false
    → (done_in h a ≡ true → (eqb l.event b && is_done l.fate) ≡ false)
    → done_in_turn (h ++ (l ∷ [])) a b ≡ false
turn_kept h l a b p q =
    turn_append h l a b
    ∙ or_both (done_in_turn h a b) (done_in h a && (eqb l.event b && is_done l.fate)) p (go (done_in h a) q)
  where
    go : (t : Bool)
        → (t ≡ true → (eqb l.event b && is_done l.fate) ≡ false)
        → (t && (eqb l.event b && is_done l.fate)) ≡ false
    go true after = after refl
    go false after = refl

-- the history says which declared events are done
pub done_listed : {p : Plan} {s : State}
    → HistoryListed p s
    → (e : ℕ)
    → e < event_count p
    → done_in (lines s) e ≡ is_done (fate_of s e)
unfolding done_in
done_listed {p} {s} k e lt = rw (k.listed e lt) (done_settled_if (fate_of s e))

-- a sound rule names declared events
pub order_named : {p : Plan}
    → Sound p
    → (i a b : ℕ)
    → i < rule_count p
    → rule_at p i ≡ Order a b
    → (a < event_count p) × (b < event_count p)
unfolding named
order_named {p} sd i a b l r = two_named (event_count p) a b (not (eqb a b)) (rw r at (rule_named sd i l))

pub need_named : {p : Plan}
    → Sound p
    → (i a b : ℕ)
    → i < rule_count p
    → rule_at p i ≡ Need a b
    → (a < event_count p) × (b < event_count p)
unfolding named
need_named {p} sd i a b l r = two_named (event_count p) a b (not (eqb a b)) (rw r at (rule_named sd i l))

pub conditional_named : {p : Plan}
    → Sound p
    → (i a b c : ℕ)
    → i < rule_count p
    → rule_at p i ≡ Conditional a b c
    → ThreeNamed (event_count p) a b c
conditional_named {p} sd i a b c l r = triple_named (event_count p) a b c (rw r at (rule_named sd i l))

-- a trigger is done although what it calls for is refused or lapsed
unfoldable pub unpaid : State → Rule → Bool
unpaid s (Order a b) = false
unpaid s (Need a b) = is_done (fate_of s a) && is_gone (fate_of s b)
unpaid s (Conditional a b c) = is_done (fate_of s a) && is_done (fate_of s b) && is_gone (fate_of s c)

-- less is asked for, and no less settled
pub owed_less : (d d' t t' : Bool) → (d && not t) ≡ false → (d' ≡ true → d ≡ true) → (t ≡ true → t' ≡ true) → (d' && not t') ≡ false
owed_less d true t t' h fewer more = rw (more (not-false t (and_not d (not t) h (fewer refl))))
owed_less d false t t' h fewer more = refl

-- where no more is done or open, and no less settled, a rule that owed nothing still does not
module _ (p : Plan) (f g : Fates) (done : (j : ℕ) → is_done (g j) ≡ true → is_done (f j) ≡ true)
    (opens : (j : ℕ) → is_open (g j) ≡ true → is_open (f j) ≡ true)
    (settled : (j : ℕ) → is_settled (f j) ≡ true → is_settled (g j) ≡ true) where
  unstoppable_less : (t : ℕ) → unstoppable p g t ≡ true → unstoppable p f t ≡ true
  unfolding unstoppable
  unstoppable_less t h =
      let r = not (rejectable p t) in
      let d = not (delayable p t) in
      let q = and_left (is_open (g t) && r) d h in
      and_both (is_open (f t) && r) d
      (and_both (is_open (f t)) r (opens t (and_left (is_open (g t)) r q)) (and_right (is_open (g t)) r q))
      (and_right (is_open (g t) && r) d h)

  reckoned_less : (c t : ℕ) → reckoned p g c t ≡ true → reckoned p f c t ≡ true
  unfolding reckoned
  reckoned_less c t h =
      let n = not (forcible p c) in
      elim (or_either (is_done (g t)) (unstoppable p g t && n) h) [
        | inl d ↦ rw (done t d)
        | inr u ↦
            rw (and_both (unstoppable p f t) n (unstoppable_less t (and_left (unstoppable p g t) n u)) (and_right (unstoppable p g t) n u))
            (or_right_true (is_done (f t)))
      ]

  triggered_less : (c a b : ℕ) → triggered p g c a b ≡ true → triggered p f c a b ≡ true
  unfolding triggered
  triggered_less c a b h =
      let by : (x y : ℕ) → (is_done (g x) && reckoned p g c y) ≡ true → (is_done (f x) && reckoned p f c y) ≡ true =
      λ x y t. and_both (is_done (f x)) (reckoned p f c y)
      (done x (and_left (is_done (g x)) (reckoned p g c y) t)) (reckoned_less c y (and_right (is_done (g x)) (reckoned p g c y) t)) in
      elim (or_either (is_done (g a) && reckoned p g c b) (is_done (g b) && reckoned p g c a) h) [
        | inl t ↦ rw (by a b t)
        | inr t ↦ rw (by b a t) (or_right_true (is_done (f a) && reckoned p f c b))
      ]

  pub owes_less : (r : Rule) → owes p f r ≡ false → owes p g r ≡ false
  unfolding owes
  owes_less (Order a b) h = refl
  owes_less (Need a b) h = owed_less (is_done (f a)) (is_done (g a)) (is_settled (f b)) (is_settled (g b)) h (done a) (settled b)
  owes_less (Conditional a b c) h =
      owed_less (triggered p f c a b) (triggered p g c a b) (is_settled (f c)) (is_settled (g c)) h (triggered_less c a b) (settled c)

-- states that agree on what is done and on what is gone leave the same unpaid
module _ (s t : State) (done : (j : ℕ) → is_done (fate_of t j) ≡ is_done (fate_of s j))
    (gone : (j : ℕ) → is_gone (fate_of t j) ≡ is_gone (fate_of s j)) where
  pub unpaid_same : (r : Rule) → unpaid t r ≡ unpaid s r
  unfolding unpaid
  unpaid_same (Order a b) = refl
  unpaid_same (Need a b) = rw (done a, gone b)
  unpaid_same (Conditional a b c) = rw (done a, done b, gone c)

-- no rule that is not recorded as broken passes the test
abbrev pub NoStanding : Plan → State → (Rule → Bool) → Type 0
NoStanding p s t = (i : ℕ) → i < rule_count p → broken_at s i ≡ false → t (rule_at p i) ≡ false

-- of each rule that is not recorded as broken: an order's events are not done the other way round, nothing is unpaid
pub record RulesObeyed (p : Plan) (s : State) : Type 0 where
  pub turn : (i a b : ℕ)
      → i < rule_count p
      → broken_at s i ≡ false
      → rule_at p i ≡ Order a b
      → done_in_turn (lines s) b a ≡ false
  pub paid : NoStanding p s (unpaid s)

-- from an admitted sheet on: an order's b that can wait is done after its a is settled; no trigger of a conditional is
-- done without hope for its c while the other, which nothing can stop, is open; and only a rule that may be broken is
-- recorded as broken
pub record Strict (p : Plan) (s : State) : Type 0 where
  pub first : (i a b : ℕ)
      → i < rule_count p
      → rule_at p i ≡ Order a b
      → delayable p b ≡ true
      → is_done (fate_of s b) ≡ true
      → is_settled (fate_of s a) ≡ true
  pub spared : (o t c : ℕ)
      → Awaits p o t c
      → is_open (fate_of s t) ≡ true
      → is_done (fate_of s o) ≡ true
      → is_gone (fate_of s c) ≡ false
  pub weak : (i : ℕ) → i < rule_count p → broken_at s i ≡ true → unbreakable p (rule_at p i) ≡ false

-- no rule owes
abbrev pub Quiet : Plan → State → Type 0
Quiet p s = NoStanding p s (owes s.plan (fate_of s))

-- t reads to the rules as s does: the plan, what is done and what is gone, the rules recorded as broken, and the history.
-- No more is open
pub record SameToRules (s t : State) : Type 0 where
  pub same_plan : t.plan ≡ s.plan
  pub opens : (j : ℕ) → is_open (fate_of t j) ≡ true → is_open (fate_of s j) ≡ true
  pub done : (j : ℕ) → is_done (fate_of t j) ≡ is_done (fate_of s j)
  pub gone : (j : ℕ) → is_gone (fate_of t j) ≡ is_gone (fate_of s j)
  pub recorded : (i : ℕ) → broken_at t i ≡ broken_at s i
  pub same_lines : lines t ≡ lines s

module _ {s t : State} (a : SameToRules s t) where
  unbroken_same : (i : ℕ) → broken_at t i ≡ false → broken_at s i ≡ false
  unbroken_same i n = sym (a.recorded i) ∙ n

  pub obeyed_same : {p : Plan} → RulesObeyed p s → RulesObeyed p t
  obeyed_same {p} w = record {
    turn = λ i x y l n r. ap (λ h. done_in_turn h y x) a.same_lines ∙ w.turn i x y l (unbroken_same i n) r;
    paid = λ i l n. unpaid_same s t a.done a.gone (rule_at p i) ∙ w.paid i l (unbroken_same i n);
  }

  pub quiet_same : (p : Plan) → Quiet p s → Quiet p t
  quiet_same p q i l n =
      ap (λ v. owes v (fate_of t) (rule_at p i)) a.same_plan
      ∙ owes_less s.plan (fate_of s) (fate_of t) (λ j h. sym (a.done j) ∙ h) a.opens
      (λ j h. rw (a.done j, a.gone j) h) (rule_at p i) (q i l (unbroken_same i n))

  pub strict_same : {p : Plan} → Strict p s → Strict p t
  strict_same {p} w = record {
    first = λ i x y l r d h. rw (a.done x, a.gone x) (w.first i x y l r d (sym (a.done y) ∙ h));
    spared = λ o t c v h d. a.gone c ∙ w.spared o t c v (a.opens t h) (sym (a.done o) ∙ d);
    weak = λ i l n. w.weak i l (sym (a.recorded i) ∙ n);
  }

-- a rule that must never be broken is not recorded as broken: an order rule, and one that makes a trigger wait
pub weak_unbroken : {p : Plan} {s : State}
    → Strict p s
    → (i : ℕ)
    → i < rule_count p
    → unbreakable p (rule_at p i) ≡ true
    → broken_at s i ≡ false
weak_unbroken {p} {s} w i lt u = elim (either (broken_at s i)) [
  | inr n ↦ n
  | inl y ↦ absurd (clash u (w.weak i lt y))
]

pub order_unbroken : {p : Plan} {s : State}
    → Strict p s
    → (i a b : ℕ)
    → i < rule_count p
    → rule_at p i ≡ Order a b
    → broken_at s i ≡ false
unfolding unbreakable
order_unbroken w i a b lt r = weak_unbroken w i lt (rw r)

pub awaits_unbroken : {p : Plan} {s : State} {o t c : ℕ} → Strict p s → (v : Awaits p o t c) → broken_at s v.place ≡ false
awaits_unbroken w v = weak_unbroken w v.place v.within (awaits_unbreakable v)

-- tests over the rules of a state, read by its plan
pub at_rule : {p : Plan} {s : State}
    → Shape p s
    → (t : Rule → Bool)
    → any_below (rule_count s.plan) (λ i. not (broken_at s i) && t (rule_at s.plan i)) ≡ false
    → NoStanding p s t
at_rule {p} {s} sh t h i lt b =
    let z = ap rule_count sh.same_plan in
    sym (ap (λ q. t (rule_at q i)) sh.same_plan)
    ∙ and_not (not (broken_at s i)) (t (rule_at s.plan i))
    (any_false (rule_count s.plan) (λ i. not (broken_at s i) && t (rule_at s.plan i)) h i (omega arith)) (rw b)

pub allowed : {p : Plan} {s : State}
    → Shape p s
    → (e : ℕ)
    → forbidden s e ≡ false
    → NoStanding p s (λ r. forbids s.plan (fate_of s) r e)
unfolding forbidden
allowed {p} {s} sh e h = at_rule sh (λ r. forbids s.plan (fate_of s) r e) h

pub quiet_of : {p : Plan} {s : State} → Shape p s → owing s ≡ false → Quiet p s
unfolding owing
quiet_of {p} {s} sh h = at_rule sh (owes s.plan (fate_of s)) h

pub bars_same : {p : Plan} {s : State} → Shape p s → (f : Fates) (r : Rule) (e : ℕ) → bars s.plan f r e ≡ bars p f r e
bars_same sh f r e = ap (λ q. bars q f r e) sh.same_plan

pub owes_same : {p : Plan} {s : State} → Shape p s → (f : Fates) (r : Rule) → owes s.plan f r ≡ owes p f r
owes_same sh f r = ap (λ q. owes q f r) sh.same_plan

pub delayable_same : {p : Plan} {s : State} → Shape p s → (e : ℕ) → delayable s.plan e ≡ delayable p e
delayable_same sh e = ap (λ q. delayable q e) sh.same_plan

-- what is settled is not open
pub settled_closed : (x : Fate) → is_settled x ≡ true → is_open x ≡ false
settled_closed Open h = sym h
settled_closed Held h = refl
settled_closed Done h = refl
settled_closed Refused h = refl
settled_closed Lapsed h = refl
settled_closed Forced h = refl

-- the fates after a settlement of an unsettled event e
module _ {p : Plan} {s : State} (x : Fate) (e : ℕ) (fin : is_settled x ≡ true) (k : HistoryListed p s)
    (lt : e < event_count p) (un : is_settled (fate_of s e) ≡ false) where
  at_e : fate_of (settle_as x s e) e ≡ x
  at_e = fate_then x e fin k lt un

  pub settled_stays : (j : ℕ) → is_settled (fate_of s j) ≡ true → is_settled (fate_of (settle_as x s e) j) ≡ true
  settled_stays j h = elim (ℕ_discrete j e) [ yes r ↦ rw (r, at_e) fin | no ne ↦ rw (fate_settle_other x s e j ne) h ]

  -- what is open was so
  pub open_then : (j : ℕ) → is_open (fate_of (settle_as x s e) j) ≡ true → is_open (fate_of s j) ≡ true
  open_then j h = elim (ℕ_discrete j e) [
    | yes r ↦ absurd (clash h (rw (r, at_e) (settled_closed x fin)))
    | no ne ↦ rw (fate_settle_other x s e j ne) at h
  ]

  -- done: also e, if it is done
  pub done_then : (j : ℕ) → is_done (fate_of (settle_as x s e) j) ≡ ((eqb e j && is_done x) || is_done (fate_of s j))
  done_then j = elim (ℕ_discrete j e) [
    | yes r ↦
        rw (r, at_e, eq-eqb e e refl, or_left (is_done (fate_of s e)) (is_gone (fate_of s e)) un)
        (sym (or-false (is_done x)))
    | no ne ↦ rw (fate_settle_other x s e j ne, ne_eqb e j (λ r. ne (sym r)))
  ]

  pub gone_then : (j : ℕ) → is_gone (fate_of (settle_as x s e) j) ≡ ((eqb e j && is_gone x) || is_gone (fate_of s j))
  gone_then j = elim (ℕ_discrete j e) [
    | yes r ↦
        rw (r, at_e, eq-eqb e e refl, or_right (is_done (fate_of s e)) (is_gone (fate_of s e)) un)
        (sym (or-false (is_gone x)))
    | no ne ↦ rw (fate_settle_other x s e j ne, ne_eqb e j (λ r. ne (sym r)))
  ]

-- what is done is not gone
pub not_done : (x : Fate) → is_done x ≡ true → is_gone x ≡ false
not_done Open h = refl
not_done Held h = refl
not_done Done h = refl
not_done Refused h = sym h
not_done Lapsed h = sym h
not_done Forced h = refl

-- doing an event that no rule bars keeps the rules obeyed, also if rules are recorded as broken at the same time
module _ {p : Plan} {s : State} (sd : Sound p) (x : Fate) (is_done_lem : is_done x ≡ true) (e : ℕ) (k : HistoryListed p s)
    (w : RulesObeyed p s) (lt : e < event_count p) (un : is_settled (fate_of s e) ≡ false) where
  is_settled_lem : is_settled x ≡ true
  is_settled_lem = done_settled x is_done_lem

  is_kept : is_gone x ≡ false
  is_kept = not_done x is_done_lem

  pub paid_do : (r : Rule)
      → unpaid s r ≡ false
      → bars s.plan (fate_of s) r e ≡ false
      → ((a b c : ℕ) → r ≡ Conditional a b c → eqb a b ≡ false)
      → unpaid (settle_as x s e) r ≡ false
  unfolding unpaid plain_bars
  paid_do (Order a b) u v z = refl
  paid_do (Need a b) u v z =
      rw (done_then x e is_settled_lem k lt un a, gone_then x e is_settled_lem k lt un b, is_done_lem, is_kept, and-true, and-false)
      (joined (eqb e a) (is_done (fate_of s a)) (is_gone (fate_of s b)) (bars_plain s.plan (fate_of s) (Need a b) e v) u)
  paid_do (Conditional a b c) u v z =
      rw (
        done_then x e is_settled_lem k lt un a,
        done_then x e is_settled_lem k lt un b,
        gone_then x e is_settled_lem k lt un c,
        is_done_lem,
        is_kept,
        and-true (eqb e a),
        and-true (eqb e b),
        and-false (eqb e c),
      )
      (both_gone (eqb e a) (eqb e b) (is_done (fate_of s a)) (is_done (fate_of s b)) (is_gone (fate_of s c))
      (differ e a b (z a b c refl)) u (bars_plain s.plan (fate_of s) (Conditional a b c) e v))

  turn_do : (i a b : ℕ)
      → i < rule_count p
      → broken_at s i ≡ false
      → rule_at p i ≡ Order a b
      → bars s.plan (fate_of s) (rule_at p i) e ≡ false
      → done_in_turn (lines (settle_as x s e)) b a ≡ false
  unfolding bars
  turn_do i a b l n r v =
      rw (lines_then x e is_settled_lem k lt un)
      (turn_kept (lines s) (record { event = e; fate = x }) b a (w.turn i a b l n r)
      (λ d. rw is_done_lem (rw (sym (done_listed k b (order_named sd i a b l r).1) ∙ d) at (rw r at v))))

  -- in the state t, which differs from the one with e done in recorded rules alone
  pub obeyed_done : (t : State)
      → lines t ≡ lines (settle_as x s e)
      → ((r : Rule) → unpaid t r ≡ unpaid (settle_as x s e) r)
      → ((i : ℕ) → broken_at t i ≡ false → broken_at s i ≡ false)
      → NoStanding p t (λ r. bars s.plan (fate_of s) r e)
      → RulesObeyed p t
  obeyed_done t ln un' before free = record {
    turn = λ i a b l n r. ap (λ h. done_in_turn h b a) ln ∙ turn_do i a b l (before i n) r (free i l n);
    paid = λ i l n. un' (rule_at p i)
        ∙ paid_do (rule_at p i) (w.paid i l (before i n)) (free i l n)
        (λ a b c r. (conditional_named sd i a b c l r).apart);
  }

-- doing an event that no rule forbids
module _ {p : Plan} {s : State} (sd : Sound p) (e : ℕ) (k : HistoryListed p s) (lt : e < event_count p)
    (m : may_do s e ≡ true) where
  un : is_settled (fate_of s e) ≡ false
  un = ready_unsettled s e m

  free : NoStanding p s (λ r. forbids s.plan (fate_of s) r e)
  free = allowed k.shape e (may_free s e m)

  no_bar : NoStanding p s (λ r. bars s.plan (fate_of s) r e)
  unfolding forbids
  no_bar i l b =
      or_left (bars s.plan (fate_of s) (rule_at p i) e) (makes_wait s.plan (fate_of s) (rule_at p i) e) (free i l b)

  no_wait : NoStanding p s (λ r. makes_wait s.plan (fate_of s) r e)
  unfolding forbids
  no_wait i l b =
      or_right (bars s.plan (fate_of s) (rule_at p i) e) (makes_wait s.plan (fate_of s) (rule_at p i) e) (free i l b)

  pub obeyed_do : RulesObeyed p s → RulesObeyed p (do_one s e)
  obeyed_do w =
      let before : (i : ℕ) → broken_at (do_one s e) i ≡ false → broken_at s i ≡ false =
      λ i n. sym (broken_settle (fate_at_turn s e) s e i) ∙ n in
      obeyed_done sd (fate_at_turn s e) (turn_done s e) e k w lt un (do_one s e) refl (λ r. refl) before (λ i l n. no_bar i l (before i n))

  first_do : Strict p s
      → (i a b : ℕ)
      → i < rule_count p
      → rule_at p i ≡ Order a b
      → delayable p b ≡ true
      → is_done (fate_of (do_one s e) b) ≡ true
      → is_settled (fate_of (do_one s e) a) ≡ true
  unfolding makes_wait
  first_do w i a b l r d h = settled_stays (fate_at_turn s e) e (turn_settled s e) k lt un a (elim (ℕ_discrete b e) [
    | yes q ↦
        not-false (is_settled (fate_of s a))
        (and_not (eqb e b && delayable s.plan b) (not (is_settled (fate_of s a)))
        (rw r at (no_wait i l (order_unbroken w i a b l r)))
        (and_both (eqb e b) (delayable s.plan b) (eq-eqb e b (sym q)) (delayable_same k.shape b ∙ d)))
    | no ne ↦ w.first i a b l r d (rw (fate_settle_other (fate_at_turn s e) s e b ne) at h)
  ])

  spared_do : Strict p s
      → (o t c : ℕ)
      → Awaits p o t c
      → is_open (fate_of (do_one s e) t) ≡ true
      → is_done (fate_of (do_one s e) o) ≡ true
      → is_gone (fate_of (do_one s e) c) ≡ false
  spared_do w o t c v h d =
      let x = fate_at_turn s e in
      let comes = open_then x e (turn_settled s e) k lt un t h in
      gone_then x e (turn_settled s e) k lt un c
      ∙ or_both (eqb e c && is_gone x) (is_gone (fate_of s c)) (rw (not_done x (turn_done s e)) (and-false (eqb e c)))
      (elim (ℕ_discrete o e) [
        | no ne ↦ w.spared o t c v comes (rw (fate_settle_other x s e o ne) at d)
        | yes q ↦ elim (either (is_gone (fate_of s c))) [
          | inr z ↦ z
          | inl z ↦ absurd (clash (bars_same k.shape (fate_of s) (rule_at p v.place) o ∙ awaits_bars v (fate_of s) comes z)
              (rw q (no_bar v.place v.within (awaits_unbroken w v))))
        ]
      ])

  pub strict_do : Strict p s → Strict p (do_one s e)
  strict_do w = record {
    first = first_do w;
    spared = spared_do w;
    weak = λ i l b. w.weak i l (sym (broken_settle (fate_at_turn s e) s e i) ∙ b);
  }

unowed : (d t : Bool) → (d && not t) ≡ false → t ≡ false → d ≡ false
unowed true t h q = absurd (clash (ap not q) h)
unowed false t h q = refl

guarded : (d t g : Bool) → (d && g) ≡ false → (t ≡ true → d ≡ false) → (d && (t || g)) ≡ false
guarded true true g p q = q refl
guarded true false g p q = p
guarded false t g p q = refl

not_gone : (x : Fate) → is_gone x ≡ true → is_done x ≡ false
not_gone Open h = refl
not_gone Held h = refl
not_gone Done h = sym h
not_gone Refused h = refl
not_gone Lapsed h = refl
not_gone Forced h = sym h

-- refusing an event, or letting it lapse, while no rule owes
module _ {p : Plan} {s : State} (x : Fate) (gx : is_gone x ≡ true) (e : ℕ) (k : HistoryListed p s)
    (lt : e < event_count p) (un : is_settled (fate_of s e) ≡ false) where
  fin : is_settled x ≡ true
  fin = gone_settled x gx

  done_same : (j : ℕ) → is_done (fate_of (settle_as x s e) j) ≡ is_done (fate_of s j)
  done_same j = done_then x e fin k lt un j ∙ rw (not_gone x gx, and-false (eqb e j))

  gone_also : (j : ℕ) → is_gone (fate_of (settle_as x s e) j) ≡ (eqb e j || is_gone (fate_of s j))
  gone_also j = gone_then x e fin k lt un j ∙ rw (gx, and-true (eqb e j))

  paid_drop : (r : Rule) → unpaid s r ≡ false → owes s.plan (fate_of s) r ≡ false → unpaid (settle_as x s e) r ≡ false
  unfolding unpaid plain_owes
  paid_drop (Order a b) u v = refl
  paid_drop (Need a b) u v =
      rw (done_same a, gone_also b)
      (guarded (is_done (fate_of s a)) (eqb e b) (is_gone (fate_of s b)) u
      (λ q. unowed (is_done (fate_of s a)) (is_settled (fate_of s b)) (owes_plain s.plan (fate_of s) (Need a b) v) (rw (← eqb-true e b q) un)))
  paid_drop (Conditional a b c) u v =
      rw (done_same a, done_same b, gone_also c)
      (guarded (is_done (fate_of s a) && is_done (fate_of s b)) (eqb e c) (is_gone (fate_of s c)) u
      (λ q. unowed (is_done (fate_of s a) && is_done (fate_of s b)) (is_settled (fate_of s c))
      (owes_plain s.plan (fate_of s) (Conditional a b c) v) (rw (← eqb-true e c q) un)))

  owes_drop : (r : Rule)
      → owes s.plan (fate_of s) r ≡ false
      → owes (settle_as x s e).plan (fate_of (settle_as x s e)) r ≡ false
  owes_drop r v =
      ap (λ q. owes q (fate_of (settle_as x s e)) r) (plan_settle x s e)
      ∙ owes_less s.plan (fate_of s) (fate_of (settle_as x s e)) (λ j h. sym (done_same j) ∙ h)
      (open_then x e fin k lt un) (settled_stays x e fin k lt un) r v

  unbroken : (i : ℕ) → broken_at (settle_as x s e) i ≡ false → broken_at s i ≡ false
  unbroken i b = sym (broken_settle x s e i) ∙ b

  pub obeyed_drop : RulesObeyed p s → Quiet p s → RulesObeyed p (settle_as x s e)
  obeyed_drop w qt = record {
    turn = λ i a b l n r. rw (lines_then x e fin k lt un)
        (turn_kept (lines s) (record { event = e; fate = x }) b a (w.turn i a b l (unbroken i n) r)
        (λ d. rw (not_gone x gx) (and-false (eqb e a))));
    paid = λ i l n. paid_drop (rule_at p i) (w.paid i l (unbroken i n)) (qt i l (unbroken i n));
  }

  spared_drop : Quiet p s
      → Strict p s
      → (o t c : ℕ)
      → Awaits p o t c
      → is_open (fate_of (settle_as x s e) t) ≡ true
      → is_done (fate_of (settle_as x s e) o) ≡ true
      → is_gone (fate_of (settle_as x s e) c) ≡ false
  spared_drop qt w o t c v h d =
      let comes = open_then x e fin k lt un t h in
      let did = sym (done_same o) ∙ d in
      gone_also c ∙ or_both (eqb e c) (is_gone (fate_of s c)) (elim (either (eqb e c)) [
        | inr z ↦ z
        | inl z ↦ absurd (clash
            (owes_same k.shape (fate_of s) (rule_at p v.place) ∙ awaits_owes v (fate_of s) comes did (rw (← eqb-true e c z) un))
            (qt v.place v.within (awaits_unbroken w v)))
      ]) (w.spared o t c v comes did)

  pub strict_drop : Quiet p s → Strict p s → Strict p (settle_as x s e)
  strict_drop qt w = record {
    first = λ i a b l r d h. settled_stays x e fin k lt un a (w.first i a b l r d (sym (done_same b) ∙ h));
    spared = spared_drop qt w;
    weak = λ i l b. w.weak i l (sym (broken_settle x s e i) ∙ b);
  }

  pub quiet_drop : Quiet p s → Quiet p (settle_as x s e)
  quiet_drop qt i l n = owes_drop (rule_at p i) (qt i l (unbroken i n))

-- while no rule owes: where the other trigger is done, so is c
module _ {p : Plan} {s : State} (sh : Shape p s) (qt : Quiet p s) (w : Strict p s) where
  pub provided_of : (o t c : ℕ) → Awaits p o t c → is_open (fate_of s t) ≡ true → is_done (fate_of s o) ≡ true → is_done (fate_of s c) ≡ true
  provided_of o t c v comes did = elim (either (is_settled (fate_of s c))) [
    | inl z ↦ elim (or_either (is_done (fate_of s c)) (is_gone (fate_of s c)) z) [
      | inl d ↦ d
      | inr g ↦ absurd (clash g (w.spared o t c v comes did))
    ]
    | inr z ↦ absurd (clash
        (owes_same sh (fate_of s) (rule_at p v.place) ∙ awaits_owes v (fate_of s) comes did z)
        (qt v.place v.within (awaits_unbroken w v)))
  ]

-- of the conditionals that made another trigger wait for e, which nothing can stop: if that one is done, so is c
abbrev pub Covered : Plan → State → ℕ → Type 0
Covered p s e = (o c : ℕ) → Awaits p o e c → is_done (fate_of s o) ≡ true → is_done (fate_of s c) ≡ true

pub covered_same : {p : Plan} {s t : State}
    → Shape p s
    → Quiet p s
    → Strict p s
    → SameToRules s t
    → (e : ℕ)
    → is_open (fate_of s e) ≡ true
    → Covered p t e
covered_same sh qt w a e comes o c v did =
    a.done c ∙ provided_of sh qt w o e c v comes (sym (a.done o) ∙ did)
