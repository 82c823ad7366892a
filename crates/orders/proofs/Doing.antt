-- Fates with one event done more.
use Prim.Native.Nat.{ℕ}
use native.Mathlib.Decide.{ℕ_discrete}
use borrow.Author.Tests.{eq-eqb, ne_eqb}
use mathlib.Core.Bool.{true, false, not, ◌&&◌, ◌||◌}
use mathlib.Core.Logic.{◌≢◌, ◌⊎◌, inl, inr}
use mathlib.Core.Path.{◌≡◌, refl, sym, ◌∙◌, ap, subst, fun_ext}
use Rattle.orders.specs.Prelude.{Fate, Open, Held, Done, Refused, Lapsed, Forced, Plan}
use Rattle.plan.specs.Fates.{Fates, is_open, is_held, is_done, is_gone, is_settled, done_as}
use Rattle.plan.specs.Plans.{forcible, rejectable, delayable}
use Rattle.plan.specs.Rules.{unstoppable, reckoned, ready}
use Rattle.orders.specs.Runs.{doing}
use Rattle.plan.proofs.Tests.{clash}
use Rattle.plan.proofs.Fates.{as_done}

pub gone_settled : (x : Fate) → is_gone x ≡ true → is_settled x ≡ true
gone_settled Open h = h
gone_settled Held h = h
gone_settled Done h = refl
gone_settled Refused h = refl
gone_settled Lapsed h = refl
gone_settled Forced h = refl

pub done_settled : (x : Fate) → is_done x ≡ true → is_settled x ≡ true
done_settled x h = rw h

pub doing_same : (f : Fates) (c x : ℕ) → x ≡ c → doing f c x ≡ done_as (is_open (f c))
doing_same f c x q = rw (eq-eqb x c q)

-- what is the same of done and of forced is so of the event
pub doing_as : {A : Type 0} (t : Fate → A) → t Forced ≡ t Done → (f : Fates) (c x : ℕ) → x ≡ c → t (doing f c x) ≡ t Done
doing_as t h f c x q = ap t (doing_same f c x q) ∙ as_done t h (is_open (f c))

pub doing_other : (f : Fates) (c x : ℕ) → x ≢ c → doing f c x ≡ f x
doing_other f c x ne = rw (ne_eqb x c ne)

-- an event at hand is not settled
pub ready_unsettled : (p : Plan) (f : Fates) (c : ℕ) → ready p f c ≡ true → is_settled (f c) ≡ false
unfolding ready
ready_unsettled p f c h = go (f c) h
  where
    go : (x : Fate) → (is_held x || (is_open x && forcible p c)) ≡ true → is_settled x ≡ false
    go Open h = refl
    go Held h = refl
    go Done h = absurd (clash h refl)
    go Refused h = absurd (clash h refl)
    go Lapsed h = absurd (clash h refl)
    go Forced h = absurd (clash h refl)

pub ready_same : (p : Plan) (f g : Fates) (c : ℕ) → f c ≡ g c → ready p f c ≡ true → ready p g c ≡ true
unfolding ready
ready_same p f g c q h = subst (λ (x : Fate). (is_held x || (is_open x && forcible p c)) ≡ true) q h

module _ (f : Fates) (c : ℕ) where
  -- what is done stays so, and what is more is the event done
  pub done_stays : (j : ℕ) → is_done (f j) ≡ true → is_done (doing f c j) ≡ true
  done_stays j h = elim (ℕ_discrete j c) [ yes q ↦ doing_as is_done refl f c j q | no ne ↦ ap is_done (doing_other f c j ne) ∙ h ]

  pub done_before : (j : ℕ) → is_done (doing f c j) ≡ true → (j ≡ c) ⊎ (is_done (f j) ≡ true)
  done_before j h = elim (ℕ_discrete j c) [ yes q ↦ inl q | no ne ↦ inr (sym (ap is_done (doing_other f c j ne)) ∙ h) ]

  pub gone_before : (j : ℕ) → is_gone (doing f c j) ≡ true → is_gone (f j) ≡ true
  gone_before j h = elim (ℕ_discrete j c) [
    | yes q ↦ absurd (clash h (doing_as is_gone refl f c j q))
    | no ne ↦ sym (ap is_gone (doing_other f c j ne)) ∙ h
  ]

  pub gone_stays : is_settled (f c) ≡ false → (j : ℕ) → is_gone (f j) ≡ true → is_gone (doing f c j) ≡ true
  gone_stays u j h = elim (ℕ_discrete j c) [
    | yes q ↦ absurd (clash (gone_settled (f c) (subst (λ (z : ℕ). is_gone (f z) ≡ true) q h)) u)
    | no ne ↦ ap is_gone (doing_other f c j ne) ∙ h
  ]

  -- what is unsettled was so, and is another event
  pub unsettled_other : (j : ℕ) → is_settled (doing f c j) ≡ false → j ≢ c
  unsettled_other j h q = clash (doing_as is_settled refl f c j q) h

  pub unsettled_before : (j : ℕ) → is_settled (doing f c j) ≡ false → is_settled (f j) ≡ false
  unsettled_before j h = sym (ap is_settled (doing_other f c j (unsettled_other j h))) ∙ h

  pub unsettled_stays : (j : ℕ) → j ≢ c → is_settled (f j) ≡ false → is_settled (doing f c j) ≡ false
  unsettled_stays j ne h = ap is_settled (doing_other f c j ne) ∙ h

  pub ready_other : (p : Plan) (j : ℕ) → ready p (doing f c) j ≡ true → j ≢ c
  ready_other p j h q = clash (doing_as is_settled refl f c j q) (ready_unsettled p (doing f c) j h)

  pub ready_before : (p : Plan) (j : ℕ) → ready p (doing f c) j ≡ true → ready p f j ≡ true
  ready_before p j h = ready_same p (doing f c) f j (doing_other f c j (ready_other p j h)) h

  pub ready_stays : (p : Plan) (j : ℕ) → j ≢ c → ready p f j ≡ true → ready p (doing f c) j ≡ true
  ready_stays p j ne h = ready_same p f (doing f c) j (sym (doing_other f c j ne)) h

-- an event that a conditional reckons with: one that is done, or one with the same fate
pub reckoned_done : (p : Plan) (f : Fates) (k j : ℕ) → is_done (f j) ≡ true → reckoned p f k j ≡ true
unfolding reckoned
reckoned_done p f k j h = rw h

pub reckoned_same : (p : Plan) (f g : Fates) (k j : ℕ) → f j ≡ g j → reckoned p f k j ≡ reckoned p g k j
unfolding reckoned unstoppable
reckoned_same p f g k j q =
    ap (λ (x : Fate). is_done x || ((is_open x && not (rejectable p j) && not (delayable p j)) && not (forcible p k))) q

-- it stays so, and what is more is the event done
module _ (p : Plan) (f : Fates) (c : ℕ) where
  pub reckoned_stays : (k j : ℕ) → reckoned p f k j ≡ true → reckoned p (doing f c) k j ≡ true
  reckoned_stays k j h = elim (ℕ_discrete j c) [
    | yes q ↦ reckoned_done p (doing f c) k j (doing_as is_done refl f c j q)
    | no ne ↦ reckoned_same p (doing f c) f k j (doing_other f c j ne) ∙ h
  ]

  pub reckoned_before : (k j : ℕ) → reckoned p (doing f c) k j ≡ true → (j ≡ c) ⊎ (reckoned p f k j ≡ true)
  reckoned_before k j h = elim (ℕ_discrete j c) [
    | yes q ↦ inl q
    | no ne ↦ inr (sym (reckoned_same p (doing f c) f k j (doing_other f c j ne)) ∙ h)
  ]

-- two events done, in either sequence: the first of them has the same fate
first_same : (f : Fates) (c d x : ℕ) → x ≡ c → c ≢ d → doing (doing f c) d x ≡ doing (doing f d) c x
first_same f c d x q apart =
    doing_other (doing f c) d x (λ r. apart (sym q ∙ r))
    ∙ doing_same f c x q
    ∙ sym (doing_same (doing f d) c x q ∙ ap (λ (y : Fate). done_as (is_open y)) (doing_other f d c apart))

pub doing_both : (f : Fates) (c d : ℕ) → doing (doing f c) d ≡ doing (doing f d) c
doing_both f c d = elim (ℕ_discrete c d) [
  | yes same ↦ subst (λ (y : ℕ). doing (doing f c) y ≡ doing (doing f y) c) same refl
  | no apart ↦ fun_ext (λ x. elim (ℕ_discrete x c) [
    | yes q ↦ first_same f c d x q apart
    | no m ↦ elim (ℕ_discrete x d) [
      | yes r ↦ sym (first_same f d c x r (λ z. apart (sym z)))
      | no n ↦ doing_other (doing f c) d x n ∙ doing_other f c x m ∙ sym (doing_other (doing f d) c x m ∙ doing_other f d x n)
    ]
  ])
]
