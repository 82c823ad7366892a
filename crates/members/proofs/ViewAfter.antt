-- A view after one event is done.
use Prim.Native.Nat.{ℕ, ◌<◌}
use native.Mathlib.Decide.{ℕ_discrete}
use borrow.Author.Tests.{lt-ltb, eq-eqb, ne_eqb}
use mathlib.Core.Bool.{Bool, true, false, not, ◌&&◌, ◌||◌, and-false, and-true}
use mathlib.Core.Path.{◌≡◌, refl, sym, ◌∙◌, ap}
use lib.Dec.{eqb, ltb}
use Rattle.plan.specs.declared.fate.Fate.TheVariants.{Done, Forced}
use Rattle.plan.specs.Fates.{Fates, is_open, is_held, is_done, is_gone}
use Rattle.plan.specs.Plans.{event_count, forcible, rejectable, delayable}
use Rattle.plan.specs.Rules.{unstoppable, ready}
use Rattle.orders.specs.Runs.{doing}
use Rattle.orders.proofs.Doing.{doing_as, doing_other}
use Rattle.members.specs.Prelude.{Fate, Plan, View}
use Rattle.members.specs.Sets.{in_set, Shows}
use Rattle.members.proofs.Bits.{in_one}

module _ (p : Plan) (f : Fates) (c : ℕ) (lt : c < 16) (one : ℕ) (is_one : (x : ℕ) → in_set one x ≡ ((eqb x c && (ltb c 16 && true)) || in_set 0 x)) where
  -- a set of events with a fate that is not done loses the event
  leaves : (k : ℕ → Bool) (t : ℕ → Fate → Bool)
      → ((x : ℕ) → t x Forced ≡ t x Done)
      → ((x : ℕ) → t x Done ≡ false)
      → (m n : ℕ)
      → ((x : ℕ) → in_set m x ≡ (k x && t x (f x)))
      → ((x : ℕ) → in_set n x ≡ (in_set m x && not (in_set one x)))
      → (x : ℕ)
      → in_set n x ≡ (k x && t x (doing f c x))
  leaves k t alike unset m n before after x = elim (ℕ_discrete x c) [
    | yes q ↦
        after x
        ∙ ap (λ (b : Bool). in_set m x && not b) (in_one c one lt is_one x ∙ eq-eqb x c q) ∙ and-false (in_set m x)
        ∙ sym (ap (λ (b : Bool). k x && b) (doing_as (t x) (alike x) f c x q ∙ unset x) ∙ and-false (k x))
    | no ne ↦ after x ∙ ap (λ (b : Bool). in_set m x && not b) (in_one c one lt is_one x ∙ ne_eqb x c ne) ∙ and-true (in_set m x) ∙ before x ∙ sym (ap (λ (z : Fate). k x && t x z) (doing_other f c x ne))
  ]

  -- and one of events with a fate that is done gains it
  joins : (t : ℕ → Fate → Bool)
      → ((x : ℕ) → t x Forced ≡ t x Done)
      → ((x : ℕ) → t x Done ≡ true)
      → (m n : ℕ)
      → ((x : ℕ) → in_set m x ≡ t x (f x))
      → ((x : ℕ) → in_set n x ≡ ((eqb x c && (ltb c 16 && true)) || in_set m x))
      → (x : ℕ)
      → in_set n x ≡ t x (doing f c x)
  joins t alike set m n before after x = elim (ℕ_discrete x c) [
    | yes q ↦
        after x
        ∙ ap (λ (b : Bool). (b && (ltb c 16 && true)) || in_set m x) (eq-eqb x c q)
        ∙ ap (λ (b : Bool). (b && true) || in_set m x) (lt-ltb c 16 lt)
        ∙ sym (doing_as (t x) (alike x) f c x q ∙ set x)
    | no ne ↦ after x ∙ rw (ne_eqb x c ne) (before x) ∙ sym (ap (t x) (doing_other f c x ne))
  ]

  module _ (v w : View) (shows : Shows p f v) where
    pub shows_after : ((x : ℕ) → in_set w.held x ≡ (in_set v.held x && not (in_set one x)))
        → ((x : ℕ) → in_set w.able x ≡ (in_set v.able x && not (in_set one x)))
        → ((x : ℕ) → in_set w.done x ≡ ((eqb x c && (ltb c 16 && true)) || in_set v.done x))
        → ((x : ℕ) → in_set w.gone x ≡ (in_set v.gone x && not (in_set one x)))
        → w.waits ≡ v.waits
        → w.forcible ≡ v.forcible
        → ((x : ℕ) → in_set w.stoppable x ≡ ((eqb x c && (ltb c 16 && true)) || in_set v.stoppable x))
        → Shows p (doing f c) w
    unfolding ready unstoppable
    shows_after held able done gone waits forces stops = record {
      held = leaves (λ x. ltb x (event_count p)) (λ x. is_held) (λ x. refl) (λ x. refl) v.held w.held shows.held held;
      able = leaves (λ x. ltb x (event_count p)) (λ x z. is_held z || (is_open z && forcible p x)) (λ x. refl) (λ x. refl) v.able w.able shows.able able;
      done = joins (λ x. is_done) (λ x. refl) (λ x. refl) v.done w.done shows.done done;
      gone = leaves (λ x. true) (λ x. is_gone) (λ x. refl) (λ x. refl) v.gone w.gone shows.gone gone;
      waits = λ x. ap (λ (m : ℕ). in_set m x) waits ∙ shows.waits x;
      forces = λ x. ap (λ (m : ℕ). in_set m x) forces ∙ shows.forces x;
      stops = joins (λ x z. not (is_open z && not (rejectable p x) && not (delayable p x))) (λ x. refl) (λ x. refl) v.stoppable w.stoppable shows.stops stops;
    }
