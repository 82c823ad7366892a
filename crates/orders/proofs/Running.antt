-- What a run says: its events are at hand from the first, and closed under what the rules ask for.
use Prim.Native.Nat.{ℕ, zero, suc, ◌≤◌, ◌<◌}
use native.Mathlib.Omega.{arith}
use native.Mathlib.Decide.{ℕ_discrete}
use borrow.Author.Tests.{eq-eqb, ne_eqb, eqb-true}
use mathlib.Core.Bool.{Bool, true, false, ◌||◌}
use mathlib.Core.List.{List, [], ◌∷◌}
use mathlib.Core.Logic.{◌⊎◌, inl, inr}
use mathlib.Core.Path.{◌≡◌, refl, sym, subst}
use lib.Dec.{eqb}
use lib.ListN.{length}
use Rattle.orders.specs.Prelude.{Rule, Order, Need, Conditional, Plan}
use Rattle.plan.specs.Base.{among, count_below}
use Rattle.plan.specs.Fates.{Fates, is_done, is_settled}
use Rattle.plan.specs.Plans.{event_count, delayable}
use Rattle.plan.specs.Rules.{ready, reckoned}
use Rattle.orders.specs.Closed.{Events, Stands, Has, Reckons, first, one, both, turned, Closed}
use Rattle.orders.specs.Runs.{doing, Bars, late, lost, second, other, waits, Owed, needed, called, recalled, Run}
use Rattle.plan.proofs.Tests.{or_either, or_right_true, clash, either, count_same, count_zero}
use Rattle.orders.proofs.Doing.{doing_as, ready_unsettled, done_stays, gone_stays, unsettled_stays, ready_before, ready_other, reckoned_done, reckoned_stays}

-- the events of an order, as a set
abbrev pub inside : List ℕ → Events
inside o x = among x o

pub among_head : (x c : ℕ) (o : List ℕ) → x ≡ c → among x (c ∷ o) ≡ true
unfolding among
among_head x c o q = rw (eq-eqb x c q)

pub among_tail : (x c : ℕ) (o : List ℕ) → among x o ≡ true → among x (c ∷ o) ≡ true
unfolding among
among_tail x c o h = rw h (or_right_true (eqb x c))

pub among_cases : (x c : ℕ) (o : List ℕ) → among x (c ∷ o) ≡ true → (x ≡ c) ⊎ (among x o ≡ true)
unfolding among
among_cases x c o h = elim (or_either (eqb x c) (among x o) h) [ inl t ↦ inl (eqb-true x c t) | inr t ↦ inr t ]

pub among_none : (x : ℕ) → among x [] ≡ true → ⊥
unfolding among
among_none x h = clash h refl

-- the fates after an order
abbrev pub after : Fates → List ℕ → Fates
after f [] = f
after f (c ∷ o) = after (doing f c) o

done_after : (f : Fates) (o : List ℕ) (j : ℕ) → is_done (f j) ≡ true → is_done (after f o j) ≡ true
done_after f [] j h = h
done_after f (c ∷ o) j h = done_after (doing f c) o j (done_stays f c j h)

member_after : (f : Fates) (o : List ℕ) (j : ℕ) → among j o ≡ true → is_done (after f o j) ≡ true
member_after f [] j h = absurd (among_none j h)
member_after f (c ∷ o) j h = elim (among_cases j c o h) [
  | inl q ↦ done_after (doing f c) o j (doing_as is_done refl f c j q)
  | inr t ↦ member_after (doing f c) o j t
]

reckoned_after : (p : Plan) (f : Fates) (o : List ℕ) (k j : ℕ) → reckoned p f k j ≡ true → reckoned p (after f o) k j ≡ true
reckoned_after p f [] k j h = h
reckoned_after p f (c ∷ o) k j h = reckoned_after p (doing f c) o k j (reckoned_stays p f c k j h)

settled_after : (f : Fates) (o : List ℕ) (j : ℕ)
    → is_settled (f j) ≡ false
    → is_settled (after f o j) ≡ true
    → among j o ≡ true
settled_after f [] j u h = absurd (clash h u)
settled_after f (c ∷ o) j u h = elim (ℕ_discrete j c) [
  | yes q ↦ among_head j c o q
  | no ne ↦ among_tail j c o (settled_after (doing f c) o j (unsettled_stays f c j ne u) h)
]

module _ (p : Plan) (l : ℕ → Bool) where
  pub run_end : (f : Fates) (o : List ℕ) → Run p l f o → (r : Rule) → Stands p l r → Owed p (after f o) r → ⊥
  run_end f [] run = run
  run_end f (c ∷ o) run = run_end (doing f c) o run.1

  -- each event of a run is declared, and at hand from the first
  pub run_ready : (f : Fates) (o : List ℕ) → Run p l f o → (j : ℕ) → among j o ≡ true → (j < event_count p) × (ready p f j ≡ true)
  run_ready f [] run j h = absurd (among_none j h)
  run_ready f (c ∷ o) run j h = elim (among_cases j c o h) [
    | inl q ↦ subst (λ (z : ℕ). (z < event_count p) × (ready p f z ≡ true)) (sym q) (run.0.declared, run.0.at_hand)
    | inr t ↦ let w = run_ready (doing f c) o run.1 j t in (w.0, ready_before f c p j w.1)
  ]

  -- what is done is no event of a run
  pub run_once : (f : Fates) (c : ℕ) (o : List ℕ) → Run p l (doing f c) o → among c o ≡ true → ⊥
  run_once f c o run h = ready_other f c p c (run_ready (doing f c) o run c h).1 refl

  -- an event that may wait comes after the a of an order
  run_waits : {a b : ℕ} → Stands p l (Order a b) → delayable p b ≡ true → (f : Fates) (o : List ℕ) → Run p l f o → among b o ≡ true → is_settled (f a) ≡ false → among a o ≡ true
  run_waits st d f [] run h u = absurd (among_none _ h)
  run_waits {a} {b} st d f (c ∷ o) run h u = elim (among_cases b c o h) [
    | inl q ↦ absurd (run.0.unwaiting (Order a b) st (waits (sym q) d u))
    | inr t ↦ elim (ℕ_discrete a c) [
      | yes q ↦ among_head a c o q
      | no ne ↦ among_tail a c o (run_waits st d (doing f c) o run.1 t (unsettled_stays f c a ne u))
    ]
  ]

  module _ (f : Fates) (o : List ℕ) (run : Run p l f o) where
    has_after : (a : ℕ) → Has f (inside o) a → is_done (after f o a) ≡ true
    has_after a (inl m) = member_after f o a m
    has_after a (inr d) = done_after f o a d

    reckons_after : (k a : ℕ) → Reckons p f (inside o) k a → reckoned p (after f o) k a ≡ true
    reckons_after k a (inl m) = reckoned_done p (after f o) k a (member_after f o a m)
    reckons_after k a (inr d) = reckoned_after p f o k a d

    paid : (r : Rule) (c : ℕ)
        → Stands p l r
        → is_settled (f c) ≡ false
        → (is_settled (after f o c) ≡ false → Owed p (after f o) r)
        → among c o ≡ true
    paid r c st u owed = elim (either (is_settled (after f o c))) [
      | inl t ↦ settled_after f o c u t
      | inr t ↦ absurd (run_end f o run r st (owed t))
    ]

    -- the events of a run are closed
    pub run_closed : Closed p l f (inside o)
    run_closed r st (first {a = a} {b = b} m d u) = run_waits st d f o run m u
    run_closed r st (one {a = a} {b = b} m u) = paid (Need a b) b st u (λ t. needed (has_after a m) t)
    run_closed r st (both {a = a} {b = b} {c = c} m n u) =
        paid (Conditional a b c) c st u (λ t. called (has_after a m) (reckons_after c b n) t)
    run_closed r st (turned {a = a} {b = b} {c = c} m n u) =
        paid (Conditional a b c) c st u (λ t. recalled (has_after b m) (reckons_after c a n) t)

  -- what is barred has no turn
  bars_stay : (f : Fates) (c : ℕ) → is_settled (f c) ≡ false → (x : ℕ) {r : Rule} → Bars p f x r → Bars p (doing f c) x r
  bars_stay f c u x (late {b = b} q d) = late q (done_stays f c b d)
  bars_stay f c u x (lost {b = b} q g) = lost q (gone_stays f c u b g)
  bars_stay f c u x (second {b = b} {c = t} q d g) = second q (reckoned_stays p f c t b d) (gone_stays f c u t g)
  bars_stay f c u x (other {a = a} {c = t} q d g) = other q (reckoned_stays p f c t a d) (gone_stays f c u t g)

  pub no_turn : (f : Fates) (x : ℕ) {r : Rule} → Stands p l r → Bars p f x r → (o : List ℕ) → Run p l f o → among x o ≡ true → ⊥
  no_turn f x st b [] run h = among_none x h
  no_turn f x {r} st b (c ∷ o) run h = elim (among_cases x c o h) [
    | inl q ↦ run.0.unbarred r st (subst (λ (z : ℕ). Bars p f z r) q b)
    | inr t ↦ no_turn (doing f c) x st (bars_stay f c (ready_unsettled p f c run.0.at_hand) x b) o run.1 t
  ]

-- an order has no more members than events
count_one : (n c : ℕ) (t : ℕ → Bool) → count_below n (λ j. eqb j c || t j) ≤ suc (count_below n t)
unfolding count_below
count_one zero c t = omega arith
count_one (suc n) c t = elim (ℕ_discrete n c) [
  | yes q ↦ rw (eq-eqb n c q, count_same n (λ j. eqb j c || t j) t (λ i lt. rw (ne_eqb i c (λ z. omega arith)))) (omega arith)
  | no ne ↦ rw (ne_eqb n c ne) (omega (arith, count_one n c t))
]

pub count_inside : (n : ℕ) (o : List ℕ) → count_below n (inside o) ≤ length o
unfolding among
count_inside n [] = rw (count_zero n (inside []) (λ e lt. refl)) (omega arith)
count_inside n (c ∷ o) = omega (arith, count_inside n o, count_one n c (inside o))
