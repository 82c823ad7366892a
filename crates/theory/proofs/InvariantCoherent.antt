-- A state under the invariant passes number 12: its rules hold of the history, its events and counts are in order.
use Prim.Native.Nat.{ℕ, ◌<◌}
use borrow.Author.Tests.{le-leb, eq-eqb}
use mathlib.Core.Bool.{Bool, true, false, not, ◌&&◌, ◌||◌}
use mathlib.Core.List.{List, [], ◌∷◌}
use mathlib.Core.Logic.{inl, inr}
use mathlib.Core.Path.{◌≡◌, refl, sym, subst}
use Rattle.theory.proofs.Types.{Fate, Rule, Order, Need, Conditional, Plan, State}
use Rattle.plan.specs.Plans.{event_count, rule_count, step_of, rule_at, delayable}
use Rattle.scheduler.specs.State.{fate_of, broken_at, closed_at, line_count, lines}
use Rattle.plan.specs.Fates.{fate_number, same_fate, is_open, is_held, is_done, is_gone, is_settled}
use Rattle.plan.specs.Rules.{sound_rule, sound_window, sound_windows, owes}
use Rattle.plan.specs.Histories.{fate_if, holds, same_fates, listed_as}
use Rattle.theory.specs.Waiting.{plain_owes}
use Rattle.scheduler.specs.Coherent.{coherent_event, coherent_rule, coherent}
use Rattle.plan.proofs.Tests.{clash, either, and_both, all_of}
use Rattle.theory.proofs.SoundPlans.{Sound}
use Rattle.theory.proofs.HistoryInvariant.{len_le}
use Rattle.theory.proofs.Waits.{owes_plain}
use Rattle.theory.proofs.RuleInvariant.{unpaid, done_listed, need_named, conditional_named}
use Rattle.plan.proofs.Fates.{held_is, open_is}
use Rattle.theory.proofs.Invariant.{Invariant}

pub same_fates_refl : (xs : List Fate) → same_fates xs xs ≡ true
unfolding same_fates
same_fates_refl [] = refl
same_fates_refl (x ∷ xs) =
    and_both (same_fate x x) (same_fates xs xs) (eq-eqb (fate_number x) (fate_number x) refl) (same_fates_refl xs)

-- what is settled and not gone is done
settled_paid : (d x y : Bool) → (d && not (x || y)) ≡ false → (d && y) ≡ false → not (d && not x) ≡ true
settled_paid true true y p q = refl
settled_paid true false true p q = absurd (clash refl q)
settled_paid true false false p q = absurd (clash refl p)
settled_paid false x y p q = refl

module _ {p : Plan} {s : State} (sd : Sound p) (k : Invariant p s) (i : ℕ) (l : i < rule_count p)
    (b : broken_at s i ≡ false) where
  holds_as : (r : Rule)
      → rule_at p i ≡ r
      → owes s.plan (fate_of s) r ≡ false
      → unpaid s r ≡ false
      → holds (lines s) r ≡ true
  unfolding holds plain_owes unpaid
  holds_as (Order a c) r o u = rw (k.obeyed.turn i a c l b r)
  holds_as (Need a c) r o u =
      let n = need_named sd i a c l r in
      rw (done_listed k.listing a n.0, done_listed k.listing c n.1)
      (settled_paid (is_done (fate_of s a)) (is_done (fate_of s c)) (is_gone (fate_of s c)) (owes_plain s.plan (fate_of s) (Need a c) o) u)
  holds_as (Conditional a c d) r o u =
      let n = conditional_named sd i a c d l r in
      rw (
        done_listed k.listing a n.first,
        done_listed k.listing c n.second,
        done_listed k.listing d n.third,
      )
      (settled_paid (is_done (fate_of s a) && is_done (fate_of s c)) (is_done (fate_of s d)) (is_gone (fate_of s d))
      (owes_plain s.plan (fate_of s) (Conditional a c d) o) u)

  -- a rule that is not recorded as broken holds
  pub rule_holds : holds (lines s) (rule_at p i) ≡ true
  rule_holds = holds_as (rule_at p i) refl (k.quiet i l b) (k.obeyed.paid i l b)

-- over the plan itself
module _ {s : State} (sd : Sound s.plan) (k : Invariant s.plan s) where
  event_coherent : (e : ℕ) → e < event_count s.plan → coherent_event s e ≡ true
  unfolding coherent_event listed_as
  event_coherent e lt =
      let x = fate_of s e in
      let listed : listed_as (lines s) e x ≡ true =
      rw (k.listing.listed e lt) (same_fates_refl (fate_if (is_settled x) x)) in
      let waits : not (is_held x && not (delayable s.plan e)) ≡ true = elim (either (is_held x)) [
        | inr z ↦ rw z
        | inl z ↦ rw (z, k.held e lt (held_is x z))
      ] in
      let unclosed : not (is_open x && closed_at s (step_of s.plan e)) ≡ true = elim (either (is_open x)) [
        | inr z ↦ rw z
        | inl z ↦ rw (z, k.still e lt (open_is x z))
      ] in
      rw (sd.event e lt, listed, waits, unclosed)

  rule_coherent : (i : ℕ) → i < rule_count s.plan → coherent_rule s i ≡ true
  unfolding coherent_rule
  rule_coherent i l =
      and_both (sound_rule s.plan i)
      (broken_at s i || (not (owes s.plan (fate_of s) (rule_at s.plan i)) && holds (lines s) (rule_at s.plan i)))
      (sd.rule i l)
      (elim (either (broken_at s i)) [ inl z ↦ rw z | inr z ↦ rw (z, k.quiet i l z, rule_holds sd k i l z) ])

  own_coherent : coherent s ≡ true
  unfolding coherent sound_windows
  own_coherent =
      rw (
        le-leb (event_count s.plan) 16 sd.few_events,
        le-leb (rule_count s.plan) 16 sd.few_rules,
        le-leb (line_count s) 16 (len_le k.listing),
        k.listing.only,
        all_of (event_count s.plan) (coherent_event s) event_coherent,
        all_of (rule_count s.plan) (coherent_rule s) rule_coherent,
      )
      (all_of 16 (sound_window s.plan) sd.window)

pub invariant_coherent : {p : Plan} {s : State} → Sound p → Invariant p s → coherent s ≡ true
invariant_coherent {p} {s} sd k =
    let q = sym k.listing.shape.same_plan in own_coherent (subst Sound q sd) (subst (λ g. Invariant g s) q k)
