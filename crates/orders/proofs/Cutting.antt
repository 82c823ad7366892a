-- The events of a run that lie in a closed set run by themselves.
use Prim.Native.Nat.{ℕ, suc, ◌≤◌}
use native.Mathlib.Omega.{arith}
use native.Mathlib.Decide.{ℕ_discrete}
use mathlib.Core.Bool.{Bool, true, false, cond}
use mathlib.Core.List.{List, [], ◌∷◌}
use mathlib.Core.Logic.{◌⊎◌, inl, inr}
use mathlib.Core.Path.{◌≡◌, refl, sym, ◌∙◌, ap, subst}
use lib.ListN.{length}
use Rattle.orders.specs.Prelude.{Fate, Rule, Plan}
use Rattle.plan.specs.Base.{among}
use Rattle.plan.specs.Fates.{Fates, is_open, is_done, is_gone, is_settled, done_as}
use Rattle.plan.specs.Rules.{reckoned}
use Rattle.orders.specs.Closed.{Events, Stands, Has, Reckons, first, one, both, turned, Closed}
use Rattle.orders.specs.Runs.{doing, Bars, late, lost, second, other, Waits, waits, Owed, needed, called, recalled, May, Run}
use Rattle.plan.proofs.Tests.{clash, either}
use Rattle.orders.proofs.Doing.{gone_settled, doing_as, doing_same, doing_other, ready_unsettled, ready_same, done_before, unsettled_before, reckoned_done, reckoned_same, reckoned_before}
use Rattle.orders.proofs.Running.{among_head, among_tail, among_cases, among_none}

-- the events of an order that lie in m
unfoldable pub keep : Events → List ℕ → List ℕ
keep m [] = []
keep m (c ∷ o) = cond (m c) (c ∷ keep m o) (keep m o)

pub keep_in : (m : Events) (c : ℕ) (o : List ℕ) → m c ≡ true → keep m (c ∷ o) ≡ c ∷ keep m o
unfolding keep
keep_in m c o h = rw h

pub keep_out : (m : Events) (c : ℕ) (o : List ℕ) → m c ≡ false → keep m (c ∷ o) ≡ keep m o
unfolding keep
keep_out m c o h = rw h

-- an event's fate in a run, and in the run that is cut: the same, or done outside m and not settled there
abbrev Kept : Events → ℕ → Fate → Fate → Type 0
Kept m j x y = (y ≡ x) ⊎ ((m j ≡ false) × (is_done x ≡ true) × (is_settled y ≡ false))

module _ (m : Events) where
  kept_done : {j : ℕ} {x y : Fate} → Kept m j x y → is_done y ≡ true → is_done x ≡ true
  kept_done (inl q) d = rw (← q) d
  kept_done (inr z) d = z.1

  kept_gone : {j : ℕ} {x y : Fate} → Kept m j x y → is_gone y ≡ true → is_gone x ≡ true
  kept_gone (inl q) d = rw (← q) d
  kept_gone {y = y} (inr z) d = absurd (clash (gone_settled y d) z.2)

  kept_same : {j : ℕ} {x y : Fate} → Kept m j x y → m j ≡ true → y ≡ x
  kept_same (inl q) t = q
  kept_same (inr z) t = absurd (clash t z.0)

  kept_unsettled : {j : ℕ} {x y : Fate} → Kept m j x y → is_settled x ≡ false → is_settled y ≡ false
  kept_unsettled (inl q) u = rw q u
  kept_unsettled (inr z) u = z.2

-- a closed set stays closed when one of its events is done
module _ (p : Plan) (l : ℕ → Bool) (m : Events) (f : Fates) (c : ℕ) (t : m c ≡ true) where
  has_before : (j : ℕ) → Has (doing f c) m j → Has f m j
  has_before j (inl h) = inl h
  has_before j (inr d) = elim (done_before f c j d) [ inl q ↦ inl (subst (λ (z : ℕ). m z ≡ true) (sym q) t) | inr h ↦ inr h ]

  reckons_before : (k j : ℕ) → Reckons p (doing f c) m k j → Reckons p f m k j
  reckons_before k j (inl h) = inl h
  reckons_before k j (inr d) =
      elim (reckoned_before p f c k j d) [ inl q ↦ inl (subst (λ (z : ℕ). m z ≡ true) (sym q) t) | inr h ↦ inr h ]

  pub closed_stays : Closed p l f m → Closed p l (doing f c) m
  closed_stays cl r st (first {a = a} n d u) = cl r st (first n d (unsettled_before f c a u))
  closed_stays cl r st (one {a = a} {b = b} n u) = cl r st (one (has_before a n) (unsettled_before f c b u))
  closed_stays cl r st (both {a = a} {b = b} {c = x} n o u) =
      cl r st (both (has_before a n) (reckons_before x b o) (unsettled_before f c x u))
  closed_stays cl r st (turned {a = a} {b = b} {c = x} n o u) =
      cl r st (turned (has_before b n) (reckons_before x a o) (unsettled_before f c x u))

module _ (p : Plan) (l : ℕ → Bool) (m : Events) where
  module _ (g h : Fates) (k : (j : ℕ) → Kept m j (g j) (h j)) (cl : Closed p l h m) where
    still : (j : ℕ) → m j ≡ true → is_settled (h j) ≡ false → is_settled (g j) ≡ false
    still j t u = subst (λ (x : Fate). is_settled x ≡ false) (kept_same m (k j) t) u

    kept_reckoned : (i j : ℕ) → reckoned p h i j ≡ true → reckoned p g i j ≡ true
    kept_reckoned i j d = elim (k j) [ inl q ↦ sym (reckoned_same p h g i j q) ∙ d | inr z ↦ reckoned_done p g i j z.1 ]

    kept_owed : (r : Rule) → Stands p l r → Owed p h r → Owed p g r
    kept_owed r st (needed {a = a} {b = b} d u) = needed (kept_done m (k a) d) (still b (cl r st (one (inr d) u)) u)
    kept_owed r st (called {a = a} {b = b} {c = c} d e u) =
        called (kept_done m (k a) d) (kept_reckoned c b e) (still c (cl r st (both (inr d) (inr e) u)) u)
    kept_owed r st (recalled {a = a} {b = b} {c = c} d e u) =
        recalled (kept_done m (k b) d) (kept_reckoned c a e) (still c (cl r st (turned (inr d) (inr e) u)) u)

    kept_bars : (x : ℕ) (r : Rule) → Bars p h x r → Bars p g x r
    kept_bars x r (late {b = b} q d) = late q (kept_done m (k b) d)
    kept_bars x r (lost {b = b} q e) = lost q (kept_gone m (k b) e)
    kept_bars x r (second {b = b} {c = c} q d e) = second q (kept_reckoned c b d) (kept_gone m (k c) e)
    kept_bars x r (other {a = a} {c = c} q d e) = other q (kept_reckoned c a d) (kept_gone m (k c) e)

    kept_waits : (x : ℕ) → m x ≡ true → (r : Rule) → Stands p l r → Waits p h x r → Waits p g x r
    kept_waits x t r st (waits {a = a} {b = b} q d u) =
        waits q d (still a (cl r st (first (subst (λ (z : ℕ). m z ≡ true) q t) d u)) u)

    kept_may : (x : ℕ) → m x ≡ true → May p l g x → May p l h x
    kept_may x t may = record {
      declared = may.declared;
      at_hand = ready_same p g h x (sym (kept_same m (k x) t)) may.at_hand;
      unbarred = λ r st b. may.unbarred r st (kept_bars x r b);
      unwaiting = λ r st w. may.unwaiting r st (kept_waits x t r st w);
    }

  kept_both : (g h : Fates) (c : ℕ)
      → m c ≡ true
      → ((j : ℕ) → Kept m j (g j) (h j))
      → (j : ℕ)
      → Kept m j (doing g c j) (doing h c j)
  kept_both g h c t k j = elim (ℕ_discrete j c) [
    | yes q ↦ inl (doing_same h c j q ∙ ap (λ (x : Fate). done_as (is_open x)) (kept_same m (k c) t) ∙ sym (doing_same g c j q))
    | no ne ↦ rw (doing_other g c j ne, doing_other h c j ne) (k j)
  ]

  kept_left : (g h : Fates) (c : ℕ)
      → m c ≡ false
      → is_settled (g c) ≡ false
      → ((j : ℕ) → Kept m j (g j) (h j))
      → (j : ℕ)
      → Kept m j (doing g c j) (h j)
  kept_left g h c t u k j = elim (ℕ_discrete j c) [
    | yes q ↦ inr (subst (λ (z : ℕ). m z ≡ false) (sym q) t, doing_as is_done refl g c j q, subst (λ (z : ℕ). is_settled (h z) ≡ false) (sym q) (kept_unsettled m (k c) u))
    | no ne ↦ rw (doing_other g c j ne) (k j)
  ]

  cut : (g h : Fates) → ((j : ℕ) → Kept m j (g j) (h j)) → Closed p l h m → (o : List ℕ) → Run p l g o → Run p l h (keep m o)
  cut g h k cl [] run = unfold keep in λ r st w. run r st (kept_owed g h k cl r st w)
  cut g h k cl (c ∷ o) run = elim (either (m c)) [
    | inl t ↦ subst (Run p l h) (sym (keep_in m c o t)) (kept_may g h k cl c t run.0, cut (doing g c) (doing h c) (kept_both g h c t k) (closed_stays p l m h c t cl) o run.1)
    | inr t ↦ subst (Run p l h) (sym (keep_out m c o t)) (cut (doing g c) h (kept_left g h c t (ready_unsettled p g c run.0.at_hand) k) cl o run.1)
  ]

  -- an order cut down to a closed set still runs
  pub run_keep : (f : Fates) → Closed p l f m → (o : List ℕ) → Run p l f o → Run p l f (keep m o)
  run_keep f cl o run = cut f f (λ j. inl refl) cl o run

-- what is kept
pub keep_length : (m : Events) (o : List ℕ) → length (keep m o) ≤ length o
unfolding keep
keep_length m [] = omega arith
keep_length m (c ∷ o) = go (m c) (keep_length m o)
  where
    go : (t : Bool) → length (keep m o) ≤ length o → length (cond t (c ∷ keep m o) (keep m o)) ≤ suc (length o)
    go true le = omega arith
    go false le = omega arith

pub keep_member : (m : Events) (o : List ℕ) (x : ℕ) → m x ≡ true → among x o ≡ true → among x (keep m o) ≡ true
keep_member m [] x t h = absurd (among_none x h)
keep_member m (c ∷ o) x t h = elim (either (m c)) [
  | inl u ↦ rw (keep_in m c o u) (elim (among_cases x c o h) [ inl q ↦ among_head x c (keep m o) q | inr v ↦ among_tail x c (keep m o) (keep_member m o x t v) ])
  | inr u ↦ rw (keep_out m c o u) (elim (among_cases x c o h) [ inl q ↦ absurd (clash t (subst (λ (z : ℕ). m z ≡ false) (sym q) u)) | inr v ↦ keep_member m o x t v ])
]

pub keep_before : (m : Events) (o : List ℕ) (x : ℕ) → among x (keep m o) ≡ true → among x o ≡ true
keep_before m [] x h = unfold keep in h
keep_before m (c ∷ o) x h = elim (either (m c)) [
  | inl u ↦ elim (among_cases x c (keep m o) (rw (keep_in m c o u) at h)) [ inl q ↦ among_head x c o q | inr v ↦ among_tail x c o (keep_before m o x v) ]
  | inr u ↦ among_tail x c o (keep_before m o x (rw (keep_out m c o u) at h))
]

-- nothing was cut off
pub keep_all : (m : Events) (o : List ℕ) → length o ≤ length (keep m o) → (x : ℕ) → among x o ≡ true → m x ≡ true
keep_all m [] le x h = absurd (among_none x h)
keep_all m (c ∷ o) le x h = elim (either (m c)) [
  | inl t ↦
      let l : suc (length o) ≤ suc (length (keep m o)) = subst (λ (z : List ℕ). suc (length o) ≤ length z) (keep_in m c o t) le in
      elim (among_cases x c o h) [ inl q ↦ subst (λ (z : ℕ). m z ≡ true) (sym q) t | inr y ↦ keep_all m o (omega arith) x y ]
  | inr t ↦
      let l : suc (length o) ≤ length (keep m o) = subst (λ (z : List ℕ). suc (length o) ≤ length z) (keep_out m c o t) le in
      absurd (omega (arith, keep_length m o))
]
