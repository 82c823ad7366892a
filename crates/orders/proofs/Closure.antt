-- Closed sets: what is asked for grows with the set, what two of them share is closed, and the least one with an event.
use Prim.Native.Nat.{ℕ, zero, suc, ◌≤◌, ◌<◌}
use native.Mathlib.Omega.{arith}
use native.Mathlib.Decide.{ℕ_discrete}
use borrow.Author.Tests.{not-true, eq-eqb, eqb-true}
use mathlib.Core.Bool.{Bool, true, false, not, ◌&&◌, ◌||◌}
use mathlib.Core.Logic.{◌⊎◌, inl, inr}
use mathlib.Core.Path.{◌≡◌, refl, sym, ◌∙◌, ap, subst}
use lib.Dec.{eqb}
use Rattle.orders.specs.Prelude.{Rule, Order, Need, Conditional, Plan}
use Rattle.plan.specs.Base.{any_below, count_below, one_if}
use Rattle.plan.specs.Fates.{Fates, is_done, is_settled}
use Rattle.plan.specs.Plans.{rule_count, rule_at, delayable}
use Rattle.plan.specs.Rules.{reckoned}
use Rattle.orders.specs.Closed.{Events, Stands, Has, Reckons, Wants, first, one, both, turned, Closed, asks, target}
use Rattle.orders.specs.Leasts.{calls, adding, pass, passes, least_set}
use Rattle.plan.proofs.Tests.{and_left, and_right, and_both, or_either, or_right_true, clash, either, any_false, any_found, count_le}

-- one set lies in another
abbrev pub Within : Events → Events → Type 0
Within m n = (x : ℕ) → m x ≡ true → n x ≡ true

-- a larger set has more members
one_more : (a b : Bool) → (a ≡ true → b ≡ true) → one_if a ≤ one_if b
one_more true b h = rw (h refl) (omega arith)
one_more false b h = omega arith

pub count_within : (n : ℕ) (s t : ℕ → Bool) → ((i : ℕ) → i < n → s i ≡ true → t i ≡ true) → count_below n s ≤ count_below n t
unfolding count_below
count_within zero s t h = omega arith
count_within (suc n) s t h =
    omega (arith, one_more (s n) (t n) (h n (omega arith)), count_within n s t (λ i lt. h i (omega arith)))

pub count_strict : (n : ℕ) (s t : ℕ → Bool)
    → ((i : ℕ) → i < n → s i ≡ true → t i ≡ true)
    → (e : ℕ)
    → e < n
    → s e ≡ false
    → t e ≡ true
    → suc (count_below n s) ≤ count_below n t
unfolding count_below
count_strict zero s t h e lt a b = absurd (omega arith)
count_strict (suc n) s t h e lt a b = elim (ℕ_discrete e n) [
  | yes q ↦
      let sn : s n ≡ false = subst (λ (v : ℕ). s v ≡ false) q a in
      let tn : t n ≡ true = subst (λ (v : ℕ). t v ≡ true) q b in
      rw (sn, tn) (omega (arith, count_within n s t (λ i k. h i (omega arith))))
  | no ne ↦ omega (arith, one_more (s n) (t n) (h n (omega arith)), count_strict n s t (λ i k. h i (omega arith)) e (omega arith) a b)
]

-- what is asked for, as a test
has_or : (f : Fates) (m : Events) (a : ℕ) → Has f m a → (m a || is_done (f a)) ≡ true
has_or f m a (inl t) = rw t
has_or f m a (inr t) = rw t (or_right_true (m a))

reckons_or : (p : Plan) (f : Fates) (m : Events) (c a : ℕ) → Reckons p f m c a → (m a || reckoned p f c a) ≡ true
reckons_or p f m c a (inl t) = rw t
reckons_or p f m c a (inr t) = rw t (or_right_true (m a))

-- the two ways in which a conditional asks, by which of its triggers is done or to be done
module _ (p : Plan) (f : Fates) (m : Events) (a b c : ℕ) where
  abbrev asks_by : ℕ → ℕ → Bool
  asks_by x y = (m x || is_done (f x)) && (m y || reckoned p f c y)

  by_both : (x y : ℕ) → Has f m x → Reckons p f m c y → asks_by x y ≡ true
  by_both x y t v = and_both (m x || is_done (f x)) (m y || reckoned p f c y) (has_or f m x t) (reckons_or p f m c y v)

  by_first : (x y : ℕ) → asks_by x y ≡ true → Has f m x
  by_first x y h = or_either (m x) (is_done (f x)) (and_left (m x || is_done (f x)) (m y || reckoned p f c y) h)

  by_second : (x y : ℕ) → asks_by x y ≡ true → Reckons p f m c y
  by_second x y h = or_either (m y) (reckoned p f c y) (and_right (m x || is_done (f x)) (m y || reckoned p f c y) h)

pub wants_asks : (p : Plan) (f : Fates) (m : Events) (r : Rule) → Wants p f m r → asks p f m r ≡ true
unfolding asks
wants_asks p f m r (first {b = b} t d u) = rw (t, d)
wants_asks p f m r (one {a = a} t u) = has_or f m a t
wants_asks p f m r (both {a = a} {b = b} {c = c} t v u) =
    ap (λ (x : Bool). x || asks_by p f m a b c b a) (by_both p f m a b c a b t v)
wants_asks p f m r (turned {a = a} {b = b} {c = c} t v u) =
    ap (λ (x : Bool). asks_by p f m a b c a b || x) (by_both p f m a b c b a t v) ∙ or_right_true (asks_by p f m a b c a b)

pub asks_wants : (p : Plan) (f : Fates) (m : Events) (r : Rule)
    → asks p f m r ≡ true
    → is_settled (f (target r)) ≡ false
    → Wants p f m r
unfolding asks
asks_wants p f m (Order a b) h u = first (and_left (m b) (delayable p b) h) (and_right (m b) (delayable p b) h) u
asks_wants p f m (Need a b) h u = one (or_either (m a) (is_done (f a)) h) u
asks_wants p f m (Conditional a b c) h u = elim (or_either (asks_by p f m a b c a b) (asks_by p f m a b c b a) h) [
  | inl t ↦ both (by_first p f m a b c a b t) (by_second p f m a b c a b t) u
  | inr t ↦ turned (by_first p f m a b c b a t) (by_second p f m a b c b a t) u
]

-- it is not settled, and stays asked for in a larger set
pub wants_unsettled : {p : Plan} {f : Fates} {m : Events} {r : Rule} → Wants p f m r → is_settled (f (target r)) ≡ false
wants_unsettled (first t d u) = u
wants_unsettled (one t u) = u
wants_unsettled (both t v u) = u
wants_unsettled (turned t v u) = u

has_more : (f : Fates) (m n : Events) → Within m n → (a : ℕ) → Has f m a → Has f n a
has_more f m n w a (inl h) = inl (w a h)
has_more f m n w a (inr h) = inr h

reckons_more : (p : Plan) (f : Fates) (m n : Events) → Within m n → (c a : ℕ) → Reckons p f m c a → Reckons p f n c a
reckons_more p f m n w c a (inl h) = inl (w a h)
reckons_more p f m n w c a (inr h) = inr h

pub wants_more : {p : Plan} {f : Fates} {m : Events} {r : Rule} (n : Events) → Within m n → Wants p f m r → Wants p f n r
wants_more n w (first {b = b} t d u) = first (w b t) d u
wants_more {f = f} {m = m} n w (one {a = a} t u) = one (has_more f m n w a t) u
wants_more {p = p} {f = f} {m = m} n w (both {a = a} {b = b} {c = c} t v u) =
    both (has_more f m n w a t) (reckons_more p f m n w c b v) u
wants_more {p = p} {f = f} {m = m} n w (turned {a = a} {b = b} {c = c} t v u) =
    turned (has_more f m n w b t) (reckons_more p f m n w c a v) u

-- what two sets share
abbrev pub shared : Events → Events → Events
shared m n x = m x && n x

module _ (p : Plan) (l : ℕ → Bool) (f : Fates) where
  pub shared_closed : (m n : Events) → Closed p l f m → Closed p l f n → Closed p l f (shared m n)
  shared_closed m n cm cn r st w =
      and_both (m (target r)) (n (target r)) (cm r st (wants_more m (λ x h. and_left (m x) (n x) h) w)) (cn r st (wants_more n (λ x h. and_right (m x) (n x) h) w))

  -- rule i calls for its target
  call_wants : (m : Events) (i : ℕ) → calls p l f m i ≡ true → Wants p f m (rule_at p i)
  unfolding calls
  call_wants m i h =
      let a = asks p f m (rule_at p i) in
      let u = not (is_settled (f (target (rule_at p i)))) in
      let t = and_right (l i) (a && u) h in
      asks_wants p f m (rule_at p i) (and_left a u t) (not-true (is_settled (f (target (rule_at p i)))) (and_right a u t))

  call_stands : (m : Events) (i : ℕ) → i < rule_count p → calls p l f m i ≡ true → Stands p l (rule_at p i)
  unfolding calls
  call_stands m i lt h =
      record { place = i; within = lt; unbroken = and_left (l i) (asks p f m (rule_at p i) && not (is_settled (f (target (rule_at p i))))) h; is = refl }

  wants_call : (m : Events) (i : ℕ) → l i ≡ true → Wants p f m (rule_at p i) → calls p l f m i ≡ true
  unfolding calls
  wants_call m i h w = rw (h, wants_asks p f m (rule_at p i) w, wants_unsettled w)

  calls_more : (m n : Events) → Within m n → (i : ℕ) → calls p l f m i ≡ true → calls p l f n i ≡ true
  unfolding calls
  calls_more m n w i h =
      wants_call n i (and_left (l i) (asks p f m (rule_at p i) && not (is_settled (f (target (rule_at p i))))) h) (wants_more n w (call_wants m i h))

  -- one rule more
  adding_grows : (m : Events) (i : ℕ) → Within m (adding p l f m i)
  unfolding adding
  adding_grows m i x h = rw h

  adding_hits : (m : Events) (i : ℕ) → calls p l f m i ≡ true → adding p l f m i (target (rule_at p i)) ≡ true
  unfolding adding
  adding_hits m i h = rw (h, eq-eqb (target (rule_at p i)) (target (rule_at p i)) refl) (or_right_true (m (target (rule_at p i))))

  adding_within : (m n : Events) (i : ℕ) → Closed p l f n → i < rule_count p → Within m n → Within (adding p l f m i) n
  unfolding adding
  adding_within m n i cl lt w x h = elim (or_either (m x) (calls p l f m i && eqb x (target (rule_at p i))) h) [
    | inl t ↦ w x t
    | inr t ↦
        let c = and_left (calls p l f m i) (eqb x (target (rule_at p i))) t in
        subst
        (λ (v : ℕ). n v ≡ true)
        (sym (eqb-true x (target (rule_at p i)) (and_right (calls p l f m i) (eqb x (target (rule_at p i))) t)))
        (cl (rule_at p i) (call_stands m i lt c) (wants_more n w (call_wants m i c)))
  ]

  -- a pass
  pass_grows : (n : ℕ) (m : Events) → Within m (pass n p l f m)
  unfolding pass
  pass_grows zero m x h = h
  pass_grows (suc n) m x h = adding_grows (pass n p l f m) n x (pass_grows n m x h)

  pass_hits : (n : ℕ) (m : Events) (i : ℕ) → i < n → calls p l f m i ≡ true → pass n p l f m (target (rule_at p i)) ≡ true
  unfolding pass
  pass_hits zero m i lt h = absurd (omega arith)
  pass_hits (suc n) m i lt h = elim (ℕ_discrete i n) [
    | yes q ↦
        let here = calls_more m (pass n p l f m) (pass_grows n m) n (subst (λ (v : ℕ). calls p l f m v ≡ true) q h) in
        let last = adding_hits (pass n p l f m) n here in
        subst (λ (v : ℕ). adding p l f (pass n p l f m) n (target (rule_at p v)) ≡ true) (sym q) last
    | no ne ↦ adding_grows (pass n p l f m) n (target (rule_at p i)) (pass_hits n m i (omega arith) h)
  ]

  pass_within : (n : ℕ) → n ≤ rule_count p → (m k : Events) → Closed p l f k → Within m k → Within (pass n p l f m) k
  unfolding pass
  pass_within zero le m k cl w = w
  pass_within (suc n) le m k cl w = adding_within (pass n p l f m) k n cl le (pass_within n (omega arith) m k cl w)

  passes_grows : (k : ℕ) (m : Events) → Within m (passes k p l f m)
  unfolding passes
  passes_grows zero m x h = h
  passes_grows (suc k) m x h = pass_grows (rule_count p) (passes k p l f m) x (passes_grows k m x h)

  passes_within : (k : ℕ) (m n : Events) → Closed p l f n → Within m n → Within (passes k p l f m) n
  unfolding passes
  passes_within zero m n cl w = w
  passes_within (suc k) m n cl w = pass_within (rule_count p) (omega arith) (passes k p l f m) n cl (passes_within k m n cl w)

  -- a rule calls for what the set lacks
  lacking : Events → ℕ → Bool
  lacking m i = calls p l f m i && not (m (target (rule_at p i)))

  none_lacking : (m : Events) → any_below (rule_count p) (lacking m) ≡ false → Closed p l f m
  unfolding lacking
  none_lacking m h r st w =
      let i = st.place in
      let w' : Wants p f m (rule_at p i) = subst (Wants p f m) (sym st.is) w in
      let c = wants_call m i st.unbroken w' in
      subst
      (λ (v : Rule). m (target v) ≡ true)
      st.is
      (elim (either (m (target (rule_at p i)))) [ inl t ↦ t | inr t ↦ absurd (clash (and_both (calls p l f m i) (not (m (target (rule_at p i)))) c (ap not t)) (any_false (rule_count p) (lacking m) h i st.within)) ])

  -- how many rules have their target in the set
  called_for : Events → ℕ
  called_for m = count_below (rule_count p) (λ i. m (target (rule_at p i)))

  lacking_adds : (m : Events) → any_below (rule_count p) (lacking m) ≡ true → suc (called_for m) ≤ called_for (pass (rule_count p) p l f m)
  unfolding lacking called_for
  lacking_adds m h =
      let x = any_found (rule_count p) (lacking m) h in
      let i = x.0 in
      let lack = x.2 in
      count_strict
      (rule_count p)
      (λ j. m (target (rule_at p j)))
      (λ j. pass (rule_count p) p l f m (target (rule_at p j)))
      (λ j lt t. pass_grows (rule_count p) m (target (rule_at p j)) t)
      i
      x.1
      (not-true (m (target (rule_at p i))) (and_right (calls p l f m i) (not (m (target (rule_at p i)))) lack))
      (pass_hits (rule_count p) m i x.1 (and_left (calls p l f m i) (not (m (target (rule_at p i)))) lack))

  pass_closed : (m : Events) → Closed p l f m → Closed p l f (pass (rule_count p) p l f m)
  pass_closed m cl r st w =
      pass_grows (rule_count p) m (target r) (cl r st (wants_more m (pass_within (rule_count p) (omega arith) m m cl (λ x h. h)) w))

  -- each pass adds the target of a rule, or the set is closed
  stage : (k : ℕ) (m : Events) → Closed p l f (passes k p l f m) ⊎ (k ≤ called_for (passes k p l f m))
  unfolding passes
  stage zero m = inr (omega arith)
  stage (suc k) m = elim (stage k m) [
    | inl c ↦ inl (pass_closed (passes k p l f m) c)
    | inr le ↦ elim (either (any_below (rule_count p) (lacking (passes k p l f m)))) [
      | inl t ↦ inr (omega (arith, lacking_adds (passes k p l f m) t))
      | inr t ↦ inl (pass_closed (passes k p l f m) (none_lacking (passes k p l f m) t))
    ]
  ]

  passes_closed : (m : Events) → Closed p l f (passes (rule_count p) p l f m)
  unfolding called_for
  passes_closed m = elim (stage (rule_count p) m) [
    | inl c ↦ c
    | inr le ↦ elim (either (any_below (rule_count p) (lacking (passes (rule_count p) p l f m)))) [
      | inr t ↦ none_lacking (passes (rule_count p) p l f m) t
      | inl t ↦ absurd (omega (arith, lacking_adds (passes (rule_count p) p l f m) t, count_le (rule_count p) (λ i. pass (rule_count p) p l f (passes (rule_count p) p l f m) (target (rule_at p i)))))
    ]
  ]

  -- the least closed set has the event, is closed, and lies in every closed set with the event
  pub least_has : (e : ℕ) → least_set p l f e e ≡ true
  unfolding least_set
  least_has e = passes_grows (rule_count p) (λ x. eqb x e) e (eq-eqb e e refl)

  pub least_closed : (e : ℕ) → Closed p l f (least_set p l f e)
  unfolding least_set
  least_closed e = passes_closed (λ x. eqb x e)

  pub least_within : (e : ℕ) (n : Events) → Closed p l f n → n e ≡ true → Within (least_set p l f e) n
  unfolding least_set
  least_within e n cl h =
      passes_within (rule_count p) (λ x. eqb x e) n cl (λ x q. subst (λ (v : ℕ). n v ≡ true) (sym (eqb-true x e q)) h)
