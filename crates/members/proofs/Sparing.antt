-- Events at hand that a single rule shows to be hopeless: one rule, and one pass over the rules.
use Prim.Native.Nat.{ℕ}
use native.Mathlib.Omega.{arith}
use borrow.Author.Tests.{not-false, eqb-true, not-true}
use mathlib.Core.Bool.{Bool, true, false, not, ◌&&◌, ◌||◌, and-true}
use mathlib.Core.Logic.{inl, inr}
use mathlib.Core.Path.{◌≡◌, refl, sym, ◌∙◌, ap, subst}
use lib.Bits.{bit_or}
use lib.Dec.{eqb, ltb}
use Rattle.std.proofs.lemmas.Bool.Decides.{nat_tests}
use Rattle.plan.specs.Fates.{Fates, is_done, is_gone, is_settled}
use Rattle.plan.specs.Plans.{delayable}
use Rattle.plan.proofs.Tests.{and_left, and_right, and_not, clash, either}
use Rattle.orders.specs.Closed.{Events, Stands, first, one, Fit}
use Rattle.members.specs.Prelude.{Rule, Order, Need, Conditional, Plan, View}
use Rattle.members.specs.Sets.{in_set, Shows}
use Rattle.members.specs.Growing.{NoFit}
use Rattle.members.specs.Lacking.{lacking, Spared}
use Rattle.members.proofs.Bits.{in_zero, in_past}
use Rattle.members.proofs.Targets.{one_or_other, had_read}

-- a set without one event, where told to leave it out
module _ (able one after b : ℕ) (q : Bool)
    (is_one : (y : ℕ) → in_set one y ≡ ((eqb y b && (ltb b 16 && q)) || in_set 0 y))
    (is-after : (y : ℕ) → in_set after y ≡ (in_set able y && not (in_set one y))) where
  pub drop_one : (x : ℕ) → in_set after x ≡ (in_set able x && not (eqb x b && q))
  drop_one x = is-after x ∙ rw (is_one x, in_zero x) (grind (arith, nat_tests, in_past able b))

-- what one rule leaves of the events, over what code reads
module _ (p : Plan) (f : Fates) (v : View) (shows : Shows p f v) (able : ℕ) where
  module _ (r : Rule) (a b : ℕ) (one after : ℕ) where
    pub order_drops : r ≡ Order a b
        → (w h : Bool)
        → w ≡ in_set v.waits b
        → h ≡ in_set (bit_or (bit_or v.done v.gone) able) a
        → ((y : ℕ) → in_set one y ≡ ((eqb y b && (ltb b 16 && (w && not h))) || in_set 0 y))
        → ((y : ℕ) → in_set after y ≡ (in_set able y && not (in_set one y)))
        → (x : ℕ)
        → in_set after x ≡ (in_set able x && not (lacking p f (in_set able) r x))
    unfolding lacking
    order_drops is w h waits here is_one is-after x =
        drop_one able one after b (w && not h) is_one is-after x
        ∙ rw (is, waits, shows.waits b, here, had_read p f v shows able a)
        (ap (λ (t : Bool). in_set able x && not (eqb x b && t)) (one_or_other (delayable p b) (is_done (f a)) (is_gone (f a)) (in_set able a)))

    pub need_drops : r ≡ Need a b
        → (h : Bool)
        → h ≡ in_set (bit_or (bit_or v.done v.gone) able) b
        → ((y : ℕ) → in_set one y ≡ ((eqb y a && (ltb a 16 && not h)) || in_set 0 y))
        → ((y : ℕ) → in_set after y ≡ (in_set able y && not (in_set one y)))
        → (x : ℕ)
        → in_set after x ≡ (in_set able x && not (lacking p f (in_set able) r x))
    unfolding lacking
    need_drops is h here is_one is-after x =
        drop_one able one after a (not h) is_one is-after x
        ∙ rw (is, here, had_read p f v shows able b)
        (ap (λ (t : Bool). in_set able x && not (eqb x a && t)) (one_or_other true (is_done (f b)) (is_gone (f b)) (in_set able b)))

  pub conditional_drops : (r : Rule) (a b c : ℕ)
      → r ≡ Conditional a b c
      → (x : ℕ)
      → in_set able x ≡ (in_set able x && not (lacking p f (in_set able) r x))
  unfolding lacking
  conditional_drops r a b c is x = rw is (sym (and-true (in_set able x)))

-- an event that the rule asks for, of every closed set that has x
module _ (p : Plan) (l : ℕ → Bool) (f : Fates) (able left : Events) where
  record Missed (x : ℕ) (n : Events) : Type 0 where
    pub event : ℕ
    pub inside : n event ≡ true
    pub outside : left event ≡ false

  missed : (r : Rule) (x : ℕ) (n : Events) → Stands p l r → lacking p f left r x ≡ true → Fit p l f able x n → Missed x n
  unfolding lacking
  missed (Order a b) x n stands h fit =
      let is = eqb-true x b (and_left (eqb x b) _ h) in
      let both = and_right (eqb x b) _ h in
      let waits = and_left (delayable p b && not (is_settled (f a))) _ both in
      let has : n b ≡ true = subst (λ (y : ℕ). n y ≡ true) is fit.contains in
      record {
        event = a;
        inside = fit.closed (Order a b) stands (first has (and_left (delayable p b) _ waits) (not-true _ (and_right (delayable p b) _ waits)));
        outside = not-true _ (and_right (delayable p b && not (is_settled (f a))) _ both);
      }
  missed (Need a b) x n stands h fit =
      let is = eqb-true x a (and_left (eqb x a) _ h) in
      let both = and_right (eqb x a) _ h in
      let has : n a ≡ true = subst (λ (y : ℕ). n y ≡ true) is fit.contains in
      record {
        event = b;
        inside = fit.closed (Need a b) stands (one (inl has) (not-true _ (and_left (not (is_settled (f b))) _ both)));
        outside = not-true _ (and_right (not (is_settled (f b))) _ both);
      }
  missed (Conditional a b c) x n stands h fit = absurd (clash h refl)

  module _ (before : Spared p l f able left) where
    hopeless : (r : Rule) (x : ℕ) → Stands p l r → lacking p f left r x ≡ true → NoFit p l f able x
    hopeless r x stands h n fit =
        let m = missed r x n stands h fit in
        before.dropped m.event (fit.ables m.event m.inside) m.outside n (record {
          contains = m.inside;
          closed = fit.closed;
          ables = fit.ables;
          few = fit.few;
        })

    -- one rule more
    pub spared_next : (r : Rule) (after : Events)
        → Stands p l r
        → ((x : ℕ) → after x ≡ (left x && not (lacking p f left r x)))
        → Spared p l f able after
    spared_next r after stands is = record {
      within = λ x h. before.within x (and_left (left x) _ (sym (is x) ∙ h));
      dropped = λ x h out. elim (either (left x)) [
        | inl t ↦ hopeless r x stands (not-false _ (and_not (left x) _ (sym (is x) ∙ out) t))
        | inr t ↦ before.dropped x h t
      ];
    }

-- before the first
pub spared_all : (p : Plan) (l : ℕ → Bool) (f : Fates) (able : Events) → Spared p l f able able
spared_all p l f able = record { within = λ x h. h; dropped = λ x h out. absurd (clash h out) }
