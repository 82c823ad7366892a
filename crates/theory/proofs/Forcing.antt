-- S-5: what is forced. Only an event that is open at its turn in an order, which is forcible; and never the event handed in.
use Prim.Native.Nat.{ℕ}
use native.Mathlib.Omega.{arith}
use native.Mathlib.Decide.{ℕ_discrete, dec_lt}
use borrow.Author.Tests.{eq-eqb}
use mathlib.Core.Bool.{Bool, true, false, ◌&&◌, ◌||◌}
use mathlib.Core.List.{List, [], ◌∷◌, ◌++◌}
use mathlib.Core.Logic.{◌⊎◌, inl, inr}
use Rattle.std.specs.declared.option.Option.{Option}
use Rattle.std.specs.declared.option.Option.TheVariants.{None as none, Some as some}
use mathlib.Core.Path.{◌≡◌, refl, sym, ◌∙◌, ap, subst}
use Rattle.theory.proofs.Types.{Fate, Open, Held, Done, Refused, Lapsed, Forced, Plan, State, CallFault, Reply, Call, Submit}
use Rattle.plan.specs.Fates.{is_open, is_held, done_as, same_fate}
use Rattle.plan.specs.Plans.{forcible}
use Rattle.plan.specs.Rules.{ready}
use Rattle.scheduler.specs.State.{fate_of, hold, settle_as, Sized}
use Rattle.scheduler.specs.Orders.{may_do, fate_at_turn, do_one, do_all, Runs, First}
use Rattle.scheduler.specs.Calls.{submit}
use Rattle.scheduler.specs.Answers.{call_fault, accept}
use Rattle.scheduler.specs.Lists.{scheduler, after}
use Rattle.scheduler.specs.Demand.{submits, any_call}
use Rattle.scheduler.specs.Grounds.{Trail, end, held, ordered, alone, refused, shuts, lapsed, moves}
use Rattle.theory.specs.Marks.{ForcedBy, Forces, Reports}
use Rattle.plan.proofs.Tests.{and_left, and_right, or_either, or_right_true, clash, either}
use Rattle.plan.proofs.Fates.{as_done, open_is}
use Rattle.scheduler.proofs.Laws.{fate_past, plan_settle, fate_settle_same, fate_settle_either, fate_settle_other, sized_settle, plan_one, sized_one, plan_minute, fate_minute, sized_minute}
use Rattle.scheduler.proofs.Laws.{plan_hold, fate_hold_same, fate_hold_other, sized_hold, plan_shut, fate_shut, sized_shut}
use Rattle.scheduler.proofs.Searching.{plan-do_all, sized-do_all, ready_bound, may_ready}
use Rattle.scheduler.proofs.Branches.{submit_same, call_fault_lem, call_accept}
use Rattle.scheduler.proofs.Doing.{alone_plan, alone_fate}
use Rattle.theory.proofs.SheetPlans.{sheet_first}
use Rattle.theory.proofs.Coherence.{sized_call}
use Rattle.theory.proofs.Demands.{all_open, admitted_sized}
use Rattle.scheduler.proofs.Grounds.{sized_alone, held_trail, submit_low, grounded}

-- a fate that is not forced
differs : (x : Fate) → same_fate x Forced ≡ false → x ≡ Forced → ⊥
differs x h q = clash (ap (λ (y : Fate). same_fate y Forced) q) h

-- an order forces what is open
forces_open : (b : Bool) → done_as b ≡ Forced → b ≡ true
forces_open true h = refl
forces_open false h = absurd (differs Done refl h)

-- an event that may be done is held, or open and forcible
at_hand : (s : State) (c : ℕ)
    → may_do s c ≡ true
    → (is_held (fate_of s c) ≡ true) ⊎ ((is_open (fate_of s c) ≡ true) × (forcible s.plan c ≡ true))
unfolding ready
at_hand s c m =
    let fresh = is_open (fate_of s c) in
    let may = forcible s.plan c in
    elim (or_either (is_held (fate_of s c)) (fresh && may) (may_ready s c m)) [
      | inl h ↦ inl h
      | inr h ↦ inr (and_left fresh may h, and_right fresh may h)
    ]

-- an event that would not come to be open was so
was_open : (s : State) (e : ℕ) → (is_open (fate_of s e) ≡ false → ⊥) → fate_of s e ≡ Open
was_open s e n = elim (either (is_open (fate_of s e))) [ inl t ↦ open_is (fate_of s e) t | inr f ↦ absurd (n f) ]

-- a write that gives another fate than forced; and one after which an event that was not open is not
module _ (x : Fate) (s : State) (d e : ℕ) (z : Sized s) where
  settle_forced : same_fate x Forced ≡ false → fate_of (settle_as x s d) e ≡ Forced → fate_of s e ≡ Forced
  settle_forced n h = elim (fate_settle_either x s d e z) [ inl q ↦ absurd (differs x n (sym q ∙ h)) | inr q ↦ sym q ∙ h ]

  settle_unopened : is_open x ≡ false → is_open (fate_of s e) ≡ false → is_open (fate_of (settle_as x s d) e) ≡ false
  settle_unopened n h = elim (fate_settle_either x s d e z) [ inl q ↦ ap is_open q ∙ n | inr q ↦ ap is_open q ∙ h ]

module _ (s : State) (d e : ℕ) (z : Sized s) where
  -- past the places every event is open
  pub hold_either : (fate_of (hold s d) e ≡ Held) ⊎ (fate_of (hold s d) e ≡ fate_of s e)
  hold_either = elim (ℕ_discrete e d) [
    | no ne ↦ inr (fate_hold_other s d e ne)
    | yes q ↦ elim (dec_lt d 16) [
      | yes lt ↦ inl (subst (λ (y : ℕ). fate_of (hold s d) y ≡ Held) (sym q) (fate_hold_same s d z lt))
      | no ge ↦ inr (fate_past (hold s d) e (omega arith) ∙ sym (fate_past s e (omega arith)))
    ]
  ]

one_unopened : (s : State) (c e : ℕ) → Sized s → is_open (fate_of s e) ≡ false → is_open (fate_of (do_one s c) e) ≡ false
one_unopened s c e z h = settle_unopened (fate_at_turn s c) s c e z (as_done is_open refl (is_open (fate_of s c))) h

all_unopened : (s : State) (o : List ℕ) (e : ℕ) → Sized s → is_open (fate_of s e) ≡ false → is_open (fate_of (do_all s o) e) ≡ false
unfolding do_all
all_unopened s [] e z h = h
all_unopened s (c ∷ o) e z h = all_unopened (do_one s c) o e (sized_one s c z) (one_unopened s c e z h)

-- along a trail no event becomes open
pub trail_unopened : {c : Call} {s t : State} → Trail c s t → Sized s → (e : ℕ) → is_open (fate_of s e) ≡ false → is_open (fate_of t e) ≡ false
trail_unopened end z e h = h
trail_unopened (held {s} d p o r) z e h =
    trail_unopened r (sized_hold s d z) e (elim (hold_either s d e z) [ inl q ↦ ap is_open q | inr q ↦ ap is_open q ∙ h ])
trail_unopened (ordered {s} d o w f r) z e h = trail_unopened r (sized-do_all s o z) e (all_unopened s o e z h)
trail_unopened (alone {s} d p u j k n r) z e h =
    trail_unopened r (sized_alone s d z) e (ap is_open (alone_fate s d e) ∙ settle_unopened Done s d e z refl h)
trail_unopened (refused {s} d g r) z e h = trail_unopened r (sized_settle Refused s d z) e (settle_unopened Refused s d e z refl h)
trail_unopened (shuts {s} k p r) z e h = trail_unopened r (sized_shut s k z) e (ap is_open (fate_shut s k e) ∙ h)
trail_unopened (lapsed {s} d p o r) z e h = trail_unopened r (sized_settle Lapsed s d z) e (settle_unopened Lapsed s d e z refl h)
trail_unopened (moves {s} m p q r) z e h = trail_unopened r (sized_minute s m z) e (ap is_open (fate_minute s m e) ∙ h)

-- an event that an order forces
record InTurn (s : State) (o : List ℕ) (e : ℕ) : Type 0 where
  pub earlier : List ℕ
  pub later : List ℕ
  pub splits : o ≡ earlier ++ (e ∷ later)
  pub opened : fate_of (do_all s earlier) e ≡ Open
  pub may : forcible s.plan e ≡ true

order_forces : (s : State) (o : List ℕ) → Sized s → Runs s o → (e : ℕ) → fate_of (do_all s o) e ≡ Forced → (fate_of s e ≡ Forced) ⊎ InTurn s o e
unfolding do_all
order_forces s [] z r e h = inl h
order_forces s (c ∷ o) z r e h = elim (order_forces (do_one s c) o (sized_one s c z) r.2 e h) [
  | inr i ↦ inr (record {
    earlier = c ∷ i.earlier;
    later = i.later;
    splits = ap (λ q. c ∷ q) i.splits;
    opened = i.opened;
    may = ap (λ (p : Plan). forcible p e) (sym (plan_one s c)) ∙ i.may;
  })
  | inl f ↦ elim (ℕ_discrete e c) [
    | no ne ↦ inl (sym (fate_settle_other (fate_at_turn s c) s c e ne) ∙ f)
    | yes q ↦
        let lt = ready_bound s c r.1 in
        let at : fate_at_turn s c ≡ Forced = sym (fate_settle_same (fate_at_turn s c) s c z lt) ∙ ap (λ i. fate_of (do_one s c) i) (sym q) ∙ f in
        let found_open = forces_open (is_open (fate_of s c)) at in
        let may : forcible s.plan c ≡ true = elim (at_hand s c r.1) [
          | inl w ↦ absurd (clash w (ap is_held (open_is (fate_of s c) found_open)))
          | inr w ↦ w.1
        ] in
        inr (record {
          earlier = [];
          later = o;
          splits = ap (λ i. i ∷ o) (sym q);
          opened = ap (λ i. fate_of s i) q ∙ open_is (fate_of s c) found_open;
          may = ap (λ i. forcible s.plan i) q ∙ may;
        })
  ]
]

-- a write more before what is forced
earlier_write : {c : Call} {s t : State} (e : ℕ)
    → t.plan ≡ s.plan
    → ((u : State) → Trail c t u → Trail c s u)
    → (is_open (fate_of s e) ≡ false → is_open (fate_of t e) ≡ false)
    → ForcedBy c t e
    → ForcedBy c s e
earlier_write {s = s} e plan before unopened f = record {
  fresh = was_open s e (λ n. clash (ap is_open f.fresh) (unopened n));
  may = ap (λ (p : Plan). forcible p e) (sym plan) ∙ f.may;
  at = f.at;
  reached = before f.at f.reached;
  for = f.for;
  waits = f.waits;
  earlier = f.earlier;
  later = f.later;
  order = f.order;
  opened = f.opened;
}

-- what a trail forces
pub trail_forces : {c : Call} {s t : State} → Trail c s t → Sized s → (e : ℕ) → fate_of t e ≡ Forced → (fate_of s e ≡ Forced) ⊎ ForcedBy c s e
trail_forces end z e h = inl h
trail_forces (held {s} d p o r) z e h = elim (trail_forces r (sized_hold s d z) e h) [
  | inl f ↦ elim (hold_either s d e z) [ inl q ↦ absurd (differs Held refl (sym q ∙ f)) | inr q ↦ inl (sym q ∙ f) ]
  | inr f ↦ inr (earlier_write e (plan_hold s d) (λ u. held d p o) (trail_unopened (held d p o end) z e) f)
]
trail_forces (ordered {s} d o w f r) z e h = elim (trail_forces r (sized-do_all s o z) e h) [
  | inr g ↦ inr (earlier_write e (plan-do_all s o) (λ u. ordered d o w f) (all_unopened s o e z) g)
  | inl g ↦ elim (order_forces s o z f.viable.runs e g) [
    | inl q ↦ inl q
    | inr i ↦ inr (record {
      fresh = was_open s e (λ n. clash (ap is_open i.opened) (all_unopened s i.earlier e z n));
      may = i.may;
      at = s;
      reached = end;
      for = d;
      waits = w;
      earlier = i.earlier;
      later = i.later;
      order = subst (First s d) i.splits f;
      opened = i.opened;
    })
  ]
]
trail_forces (alone {s} d p u j k n r) z e h = elim (trail_forces r (sized_alone s d z) e h) [
  | inl f ↦ inl (settle_forced Done s d e z refl (sym (alone_fate s d e) ∙ f))
  | inr f ↦ inr (earlier_write e (alone_plan s d) (λ v. alone d p u j k n) (trail_unopened (alone d p u j k n end) z e) f)
]
trail_forces (refused {s} d g r) z e h = elim (trail_forces r (sized_settle Refused s d z) e h) [
  | inl f ↦ inl (settle_forced Refused s d e z refl f)
  | inr f ↦ inr (earlier_write e (plan_settle Refused s d) (λ u. refused d g) (trail_unopened (refused d g end) z e) f)
]
trail_forces (shuts {s} k p r) z e h = elim (trail_forces r (sized_shut s k z) e h) [
  | inl f ↦ inl (sym (fate_shut s k e) ∙ f)
  | inr f ↦ inr (earlier_write e (plan_shut s k) (λ u. shuts k p) (trail_unopened (shuts k p end) z e) f)
]
trail_forces (lapsed {s} d p o r) z e h = elim (trail_forces r (sized_settle Lapsed s d z) e h) [
  | inl f ↦ inl (settle_forced Lapsed s d e z refl f)
  | inr f ↦ inr (earlier_write e (plan_settle Lapsed s d) (λ u. lapsed d p o) (trail_unopened (lapsed d p o end) z e) f)
]
trail_forces (moves {s} m p q r) z e h = elim (trail_forces r (sized_minute s m z) e h) [
  | inl f ↦ inl (sym (fate_minute s m e) ∙ f)
  | inr f ↦ inr (earlier_write e (plan_minute s m) (λ u. moves m p q) (trail_unopened (moves m p q end) z e) f)
]

-- the event handed in is held from then on, and not open
not_itself : (s : State) (e : ℕ) → Sized s → call_fault s (Submit e) ≡ none → fate_of (submit s e) e ≡ Forced → fate_of s e ≡ Forced
not_itself s e z taken h = elim (either (is_open (fate_of s e))) [
  | inr n ↦ sym (ap (λ (t : State). fate_of t e) (submit_same s e n)) ∙ h
  | inl t ↦
      let lt = submit_low s e taken in
      let waits = fate_hold_same s e z lt in
      elim (trail_forces (held_trail s e z lt t) (sized_hold s e z) e h) [
        | inl f ↦ absurd (differs Held refl (sym waits ∙ f))
        | inr f ↦ absurd (differs_open (sym waits ∙ f.fresh))
      ]
]
  where
    differs_open : Held ≡ Open → ⊥
    differs_open q = clash refl (ap is_held q)

-- an event that somebody has handed in and that was not forced: held, or done
abbrev pub heard : Fate → Bool
heard x = is_held x || same_fate x Done

settle_heard : (x : Fate) (s : State) (d e : ℕ) → Sized s → heard x ≡ false → heard (fate_of (settle_as x s d) e) ≡ true → heard (fate_of s e) ≡ true
settle_heard x s d e z n h = elim (fate_settle_either x s d e z) [ inl q ↦ absurd (clash (sym (ap heard q) ∙ h) n) | inr q ↦ sym (ap heard q) ∙ h ]

-- an order does only what is held
order_heard : (s : State) (o : List ℕ) → Sized s → Runs s o → (e : ℕ) → heard (fate_of (do_all s o) e) ≡ true → heard (fate_of s e) ≡ true
unfolding do_all
order_heard s [] z r e h = h
order_heard s (c ∷ o) z r e h =
    let later = order_heard (do_one s c) o (sized_one s c z) r.2 e h in
    elim (ℕ_discrete e c) [
      | no ne ↦ sym (ap heard (fate_settle_other (fate_at_turn s c) s c e ne)) ∙ later
      | yes q ↦
          elim (at_hand s c r.1) [
            | inl w ↦ ap (λ i. heard (fate_of s i)) q ∙ ap (λ (b : Bool). b || same_fate (fate_of s c) Done) w
            | inr w ↦
                let forced : fate_of (do_one s c) c ≡ Forced = fate_settle_same (fate_at_turn s c) s c z (ready_bound s c r.1) ∙ ap done_as w.0 in
                absurd (clash (sym (ap (λ i. heard (fate_of (do_one s c) i)) q) ∙ later) (ap heard forced))
          ]
    ]

-- along a trail only the event handed in comes to be held or done
pub trail_heard : {c : Call} {s t : State} → Trail c s t → Sized s → (e : ℕ) → heard (fate_of t e) ≡ true → (heard (fate_of s e) ≡ true) ⊎ (c ≡ Submit e)
trail_heard end z e h = inl h
trail_heard (held {s} d p o r) z e h = elim (ℕ_discrete e d) [
  | yes q ↦ inr (p ∙ ap Submit (sym q))
  | no ne ↦ elim (trail_heard r (sized_hold s d z) e h) [ inl f ↦ inl (sym (ap heard (fate_hold_other s d e ne)) ∙ f) | inr f ↦ inr f ]
]
trail_heard (ordered {s} d o w f r) z e h =
    elim (trail_heard r (sized-do_all s o z) e h) [ inl g ↦ inl (order_heard s o z f.viable.runs e g) | inr g ↦ inr g ]
trail_heard (alone {s} d p u j k n r) z e h = elim (ℕ_discrete e d) [
  | yes q ↦ inr (p ∙ ap Submit (sym q))
  | no ne ↦ elim (trail_heard r (sized_alone s d z) e h) [ inl f ↦ inl (sym (ap heard (alone_fate s d e ∙ fate_settle_other Done s d e ne)) ∙ f) | inr f ↦ inr f ]
]
trail_heard (refused {s} d g r) z e h =
    elim (trail_heard r (sized_settle Refused s d z) e h) [ inl f ↦ inl (settle_heard Refused s d e z refl f) | inr f ↦ inr f ]
trail_heard (shuts {s} k p r) z e h =
    elim (trail_heard r (sized_shut s k z) e h) [ inl f ↦ inl (sym (ap heard (fate_shut s k e)) ∙ f) | inr f ↦ inr f ]
trail_heard (lapsed {s} d p o r) z e h =
    elim (trail_heard r (sized_settle Lapsed s d z) e h) [ inl f ↦ inl (settle_heard Lapsed s d e z refl f) | inr f ↦ inr f ]
trail_heard (moves {s} m p q r) z e h =
    elim (trail_heard r (sized_minute s m z) e h) [ inl f ↦ inl (sym (ap heard (fate_minute s m e)) ∙ f) | inr f ↦ inr f ]

pub forces : Forces scheduler
forces = record {
  only = λ s c e z h. trail_forces (grounded s c z) z e h;
  others = λ s e z h. own s e z h (call_fault s (Submit e)) refl;
  reported = λ s c e z opened done. elim (trail_heard (grounded s c z) z e (ap heard done)) [
    | inl h ↦ absurd (clash h (ap heard opened))
    | inr h ↦ h
  ];
}
  where
    taken : (s : State) (e : ℕ) → (accept s (Submit e)).state ≡ submit s e
    taken s e = unfold accept in refl

    own : (s : State) (e : ℕ)
        → Sized s
        → fate_of (scheduler s (Submit e)) e ≡ Forced
        → (q : Option CallFault)
        → call_fault s (Submit e) ≡ q
        → fate_of s e ≡ Forced
    own s e z h (some f) q = sym (ap (λ (r : Reply). fate_of r.state e) (call_fault_lem s (Submit e) f q)) ∙ h
    own s e z h none q =
        let same : scheduler s (Submit e) ≡ submit s e = ap (λ (r : Reply). r.state) (call_accept s (Submit e) q) ∙ taken s e in
        not_itself s e z q (ap (λ (t : State). fate_of t e) (sym same) ∙ h)

-- over a list
list_heard : (s : State) (cs : List Call) → Sized s → (e : ℕ) → heard (fate_of (after scheduler s cs) e) ≡ true → (heard (fate_of s e) ≡ true) ⊎ (any_call (submits e) cs ≡ true)
unfolding after any_call
list_heard s [] z e h = inl h
list_heard s (c ∷ cs) z e h = elim (list_heard (scheduler s c) cs (sized_call s c z) e h) [
  | inr f ↦ inr (rw f (or_right_true (submits e c)))
  | inl f ↦ elim (trail_heard (grounded s c z) z e f) [
    | inl g ↦ inl g
    | inr g ↦ inr (rw g (rw (eq-eqb e e refl)))
  ]
]

pub reports : Reports scheduler
reports bytes s cs e read done =
    elim (list_heard s cs (admitted_sized bytes s read) e (ap heard done)) [
      | inr h ↦ h
      | inl h ↦ absurd (clash h (ap (λ (u : State). heard (fate_of u e)) (sheet_first bytes s read) ∙ ap heard (all_open s.plan e)))
    ]
