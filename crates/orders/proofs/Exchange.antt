-- An event of a run that follows no other of its events may come first.
use Prim.Native.Nat.{ℕ, suc}
use native.Mathlib.Decide.{ℕ_discrete}
use borrow.Author.Tests.{eq-eqb, ne_eqb}
use mathlib.Core.Bool.{Bool, true, false, cond}
use mathlib.Core.List.{List, [], ◌∷◌}
use mathlib.Core.Logic.{◌≢◌, inl, inr}
use mathlib.Core.Path.{◌≡◌, refl, sym, ◌∙◌, ap, subst}
use lib.Dec.{eqb}
use lib.ListN.{length}
use Rattle.orders.specs.Prelude.{Rule, Order, Plan}
use Rattle.plan.specs.Base.{among}
use Rattle.plan.specs.Fates.{Fates, is_done, is_settled}
use Rattle.plan.specs.Rules.{reckoned}
use Rattle.orders.specs.Closed.{Stands}
use Rattle.orders.specs.Runs.{doing, Bars, late, lost, second, other, Waits, waits, May, Run}
use Rattle.orders.proofs.Doing.{doing_as, doing_both, ready_unsettled, ready_stays, done_before, gone_before, gone_stays, unsettled_before, reckoned_done, reckoned_before}
use Rattle.orders.proofs.Running.{among_head, among_tail, among_cases, among_none, no_turn}

-- an order without x
unfoldable pub drop_one : ℕ → List ℕ → List ℕ
drop_one x [] = []
drop_one x (c ∷ o) = cond (eqb c x) o (c ∷ drop_one x o)

pub drop_same : (x c : ℕ) (o : List ℕ) → c ≡ x → drop_one x (c ∷ o) ≡ o
unfolding drop_one
drop_same x c o q = rw (eq-eqb c x q)

pub drop_other : (x c : ℕ) (o : List ℕ) → c ≢ x → drop_one x (c ∷ o) ≡ c ∷ drop_one x o
unfolding drop_one
drop_other x c o ne = rw (ne_eqb c x ne)

-- no order rule that stands puts another event of o before x
abbrev pub Leading : Plan → (ℕ → Bool) → ℕ → List ℕ → Type 0
Leading p l x o = (a : ℕ) → Stands p l (Order a x) → a ≢ x → among a o ≡ true → ⊥

module _ (p : Plan) (l : ℕ → Bool) (x : ℕ) where
  module _ (f : Fates) (c : ℕ) (ne : c ≢ x) (o : List ℕ) (run : Run p l f (c ∷ o)) (turn : among x o ≡ true) (lead : Leading p l x (c ∷ o)) where
    unsettled : is_settled (f c) ≡ false
    unsettled = ready_unsettled p f c run.0.at_hand

    -- x, once done, would have been barred after c
    too_late_lem : {r : Rule} → Stands p l r → Bars p (doing f c) x r → ⊥
    too_late_lem st b = no_turn p l (doing f c) x st b o run.1 turn

    done_c : {a : ℕ} → c ≡ a → is_done (doing f c a) ≡ true
    done_c {a} q = doing_as is_done refl f c a (sym q)

    done_reckoned : (k : ℕ) {a : ℕ} → c ≡ a → reckoned p (doing f c) k a ≡ true
    done_reckoned k {a} q = reckoned_done p (doing f c) k a (done_c q)

    moved_bars : (r : Rule) → Stands p l r → Bars p (doing f x) c r → ⊥
    moved_bars r st (late {a = a} {b = b} q d) = elim (done_before f x b d) [
      | inl z ↦ lead a (subst (λ (y : ℕ). Stands p l (Order a y)) z st) (λ w. ne (q ∙ w)) (among_head a c o (sym q))
      | inr z ↦ run.0.unbarred r st (late q z)
    ]
    moved_bars r st (lost {b = b} q g) = run.0.unbarred r st (lost q (gone_before f x b g))
    moved_bars r st (second {b = b} {c = t} q d g) = elim (reckoned_before p f x t b d) [
      | inl z ↦ too_late_lem st (other (sym z) (done_reckoned t q) (gone_stays f c unsettled t (gone_before f x t g)))
      | inr z ↦ run.0.unbarred r st (second q z (gone_before f x t g))
    ]
    moved_bars r st (other {a = a} {c = t} q d g) = elim (reckoned_before p f x t a d) [
      | inl z ↦ too_late_lem st (second (sym z) (done_reckoned t q) (gone_stays f c unsettled t (gone_before f x t g)))
      | inr z ↦ run.0.unbarred r st (other q z (gone_before f x t g))
    ]

    moved_waits : (r : Rule) → Waits p (doing f x) c r → Waits p f c r
    moved_waits r (waits {a = a} q d u) = waits q d (unsettled_before f x a u)

    moved_may : May p l (doing f x) c
    moved_may = record {
      declared = run.0.declared;
      at_hand = ready_stays f x p c ne run.0.at_hand;
      unbarred = moved_bars;
      unwaiting = λ r st w. run.0.unwaiting r st (moved_waits r w);
    }

  -- x is done first, and the others after it as they were
  pub exchange : (f : Fates) (o : List ℕ) → Run p l f o → among x o ≡ true → Leading p l x o → Run p l (doing f x) (drop_one x o)
  exchange f [] run turn lead = absurd (among_none x turn)
  exchange f (c ∷ o) run turn lead = elim (ℕ_discrete c x) [
    | yes q ↦ subst (Run p l (doing f x)) (sym (drop_same x c o q)) (subst (λ (z : ℕ). Run p l (doing f z) o) q run.1)
    | no ne ↦
        let later : among x o ≡ true = elim (among_cases x c o turn) [ inl q ↦ absurd (ne (sym q)) | inr t ↦ t ] in
        let rest = exchange (doing f c) o run.1 later (λ a st na t. lead a st na (among_tail a c o t)) in
        subst (Run p l (doing f x)) (sym (drop_other x c o ne)) (moved_may f c ne o run later lead, subst (λ (g : Fates). Run p l g (drop_one x o)) (doing_both f c x) rest)
  ]

-- what is left of the order
pub drop_length : (x : ℕ) (o : List ℕ) → among x o ≡ true → suc (length (drop_one x o)) ≡ length o
drop_length x [] h = absurd (among_none x h)
drop_length x (c ∷ o) h = elim (ℕ_discrete c x) [
  | yes q ↦ rw (drop_same x c o q)
  | no ne ↦ rw (drop_other x c o ne) (ap suc (drop_length x o (elim (among_cases x c o h) [ inl q ↦ absurd (ne (sym q)) | inr t ↦ t ])))
]

pub drop_before : (x : ℕ) (o : List ℕ) (j : ℕ) → among j (drop_one x o) ≡ true → among j o ≡ true
drop_before x [] j h = absurd (among_none j (unfold drop_one in h))
drop_before x (c ∷ o) j h = elim (ℕ_discrete c x) [
  | yes q ↦ among_tail j c o (rw (drop_same x c o q) at h)
  | no ne ↦ elim (among_cases j c (drop_one x o) (rw (drop_other x c o ne) at h)) [ inl q ↦ among_head j c o q | inr t ↦ among_tail j c o (drop_before x o j t) ]
]

pub drop_stays : (x : ℕ) (o : List ℕ) (j : ℕ) → j ≢ x → among j o ≡ true → among j (drop_one x o) ≡ true
drop_stays x [] j n h = absurd (among_none j h)
drop_stays x (c ∷ o) j n h = elim (ℕ_discrete c x) [
  | yes q ↦ rw (drop_same x c o q) (elim (among_cases j c o h) [ inl z ↦ absurd (n (z ∙ q)) | inr t ↦ t ])
  | no ne ↦ rw (drop_other x c o ne) (elim (among_cases j c o h) [ inl z ↦ among_head j c (drop_one x o) z | inr t ↦ among_tail j c (drop_one x o) (drop_stays x o j n t) ])
]
