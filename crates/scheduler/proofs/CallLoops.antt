-- The loops of the calls: the rules that doing an event alone strains, the events of a step that lapse, and whether an
-- event's step is not closed.
use Prim.Native.Nat.{ℕ, suc, ◌+◌, ◌-◌, ◌≤◌, ◌<◌}
use native.Mathlib.Nat.{le_antisymm, sub-zero}
use native.Mathlib.Numerals.{add-one}
use native.Mathlib.Omega.{arith}
use borrow.Author.Tests.{lt-ltb, le-ltb, ltb-true, eq-eqb, ne_eqb, eqb-true}
use mathlib.Core.Bool.{Bool, true, false, not, ◌&&◌, ◌||◌, and-false}
use mathlib.Core.Logic.{inl, inr}
use mathlib.Core.Path.{◌≡◌, refl, sym, ◌∙◌, ap, ap₂}
use lib.Dec.{eqb, ltb}
use Rattle.scheduler.specs.Prelude.{Done, Lapsed, Rule, State}
use Rattle.plan.specs.Base.{any_below}
use Rattle.plan.specs.Fates.{is_open}
use Rattle.plan.specs.Plans.{event_count, rule_count, step_of, rule_at, has_event}
use Rattle.plan.specs.Rules.{forbids, owes}
use Rattle.scheduler.specs.State.{fate_of, closed_at, settle_as, break_rule}
use Rattle.scheduler.specs.Rules.{stands, strains}
use Rattle.scheduler.specs.Calls.{break_if, record_broken, do_alone, lapse}
use Rattle.scheduler.specs.Answers.{unclosed_at}
use Rattle.plan.proofs.Tests.{and_left, and_right, and_both, clash, either, any_false, any_none, any_some, any_found}
use Rattle.scheduler.proofs.Branches.{lapse_yes, lapse_no}

pub break_yes : (is : Bool) (s : State) (i : ℕ) → is ≡ true → break_rule s i ≡ break_if is s i
break_yes is s i h = rw h

-- past the places no rule is recorded
break_past : (is : Bool) (s : State) (i : ℕ) → 16 ≤ i → break_if is s i ≡ s
unfolding break_rule
break_past true s i ge = rw (le-ltb i 16 ge)
break_past false s i ge = refl

-- doing an event alone: the loop over the rules has recorded those below i
module _ (s : State) (e : ℕ) (after : State) where
  -- none at first
  pub record_zero : record_broken 0 s e after ≡ after
  unfolding record_broken
  record_zero = refl

  module _ (i : ℕ) (next : State) (done : after ≡ settle_as Done s e) (before : record_broken i s e after ≡ next) where
    -- rule i, if it is strained
    record_next : (is : Bool)
        → is ≡ (stands s i && (forbids s.plan (fate_of s) (rule_at s.plan i) e || owes s.plan (fate_of after) (rule_at s.plan i)))
        → record_broken (i + 1) s e after ≡ break_if is next i
    unfolding record_broken strains
    record_next is test = rw (add-one i, before, test, done)

    -- rule i, r, that stands, by what the code asks of it: it is strained, or not
    module _ (r : Rule) (here : (stands s i ≡ true) × (rule_at s.plan i ≡ r)) where
      record_strained : (is : Bool) → is ≡ (forbids s.plan (fate_of s) r e || owes s.plan (fate_of after) r) → record_broken (i + 1) s e after ≡ break_if is next i
      record_strained is h = record_next is (rw (here.0, here.1, h))

      pub record_forbidden : true ≡ forbids s.plan (fate_of s) r e → record_broken (i + 1) s e after ≡ break_rule next i
      record_forbidden h = record_strained true (ap (λ (b : Bool). b || owes s.plan (fate_of after) r) h)

      pub record_owing : false ≡ forbids s.plan (fate_of s) r e
          → true ≡ owes s.plan (fate_of after) r
          → record_broken (i + 1) s e after ≡ break_rule next i
      record_owing f o = record_strained true (ap₂ ◌||◌ f o)

      pub record_kept : false ≡ forbids s.plan (fate_of s) r e
          → false ≡ owes s.plan (fate_of after) r
          → record_broken (i + 1) s e after ≡ next
      record_kept f o = record_strained false (ap₂ ◌||◌ f o)

    -- rule i, recorded before
    pub record_passed : stands s i ≡ false → record_broken (i + 1) s e after ≡ next
    record_passed marked =
        record_next false (sym (ap (λ (b : Bool). b && (forbids s.plan (fate_of s) (rule_at s.plan i) e || owes s.plan (fate_of after) (rule_at s.plan i))) marked))

    pub record_past : 16 ≤ i → record_broken (i + 1) s e after ≡ next
    record_past ge =
        let is = stands s i && (forbids s.plan (fate_of s) (rule_at s.plan i) e || owes s.plan (fate_of after) (rule_at s.plan i)) in
        record_next is refl ∙ break_past is next i ge

  -- all at last
  pub record_all : (i : ℕ) (next : State)
      → after ≡ settle_as Done s e
      → record_broken i s e after ≡ next
      → i ≤ rule_count s.plan
      → rule_count s.plan ≤ i
      → next ≡ do_alone s e
  unfolding do_alone
  record_all i next done before le ge =
      sym before
      ∙ ap (λ (n : ℕ). record_broken n s e after) (le_antisymm le ge)
      ∙ ap (record_broken (rule_count s.plan) s e) done

-- the loop over a step's events, what is left of it from e on: all at first
pub lapse_zero : (n : ℕ) (s : State) (k : ℕ) → lapse (n - 0) 0 s k ≡ lapse n 0 s k
lapse_zero n s k = rw (sub-zero n)

-- one event more, by what the code read: it lapses, it is not open, or it is of another step
module _ (n e : ℕ) (s : State) (k : ℕ) (lt : e < n) where
  more : n - e ≡ suc (n - (e + 1))
  more = omega arith

  pub lapse_taken : is_open (fate_of s e) ≡ true
      → step_of s.plan e ≡ k
      → (t : State)
      → t ≡ settle_as Lapsed s e
      → lapse (n - (e + 1)) (e + 1) t k ≡ lapse (n - e) e s k
  lapse_taken opened here t made =
      rw (more, made, add-one e) (sym (lapse_yes (n - suc e) e s k (and_both (is_open (fate_of s e)) (eqb (step_of s.plan e) k) opened (eq-eqb (step_of s.plan e) k here))))

  lapse_left : (is_open (fate_of s e) && eqb (step_of s.plan e) k) ≡ false → lapse (n - (e + 1)) (e + 1) s k ≡ lapse (n - e) e s k
  lapse_left passed = rw (more, add-one e) (sym (lapse_no (n - suc e) e s k passed))

  pub lapse_settled : is_open (fate_of s e) ≡ false → lapse (n - (e + 1)) (e + 1) s k ≡ lapse (n - e) e s k
  lapse_settled h = lapse_left (ap (λ (b : Bool). b && eqb (step_of s.plan e) k) h)

  pub lapse_other : (step_of s.plan e ≡ k → ⊥) → lapse (n - (e + 1)) (e + 1) s k ≡ lapse (n - e) e s k
  lapse_other h =
      lapse_left (ap (λ (b : Bool). is_open (fate_of s e) && b) (ne_eqb (step_of s.plan e) k h) ∙ and-false (is_open (fate_of s e)))

-- none at last
pub lapse_end : (n e : ℕ) (s : State) (k : ℕ) → n ≤ e → lapse (n - e) e s k ≡ s
unfolding lapse
lapse_end n e s k ge =
    let done : n - e ≡ 0 = omega arith in
    rw done

-- an event's step is not closed
abbrev pub open_step : State → ℕ → Bool
open_step s e = ltb (step_of s.plan e) 8 && not (closed_at s (step_of s.plan e))

-- what is read of it
module _ (s : State) (e k : ℕ) (read : k ≡ step_of s.plan e) where
  pub open_here : k < 8 → closed_at s k ≡ false → open_step s e ≡ true
  open_here lt h = rw (← read) (and_both (ltb k 8) (not (closed_at s k)) (lt-ltb k 8 lt) (ap not h))

  pub closed_here : closed_at s k ≡ true → open_step s e ≡ false
  closed_here h = rw (← read) (ap (λ (b : Bool). ltb k 8 && not b) h ∙ and-false (ltb k 8))

  pub beyond_here : 8 ≤ k → open_step s e ≡ false
  beyond_here ge = rw (← read) (rw (le-ltb k 8 ge) refl)

-- a step with an event is not closed exactly if an event's step is not
module _ (s : State) (e : ℕ) where
  abbrev opens : ℕ → Bool
  opens = open_step s

  pub unclosed_some : e < event_count s.plan → opens e ≡ true → true ≡ any_below 8 (unclosed_at s)
  unfolding has_event
  unclosed_some lt h =
      let k = step_of s.plan e in
      let below = and_left (ltb k 8) (not (closed_at s k)) h in
      let has = any_some (event_count s.plan) (λ d. eqb (step_of s.plan d) k) e lt (eq-eqb k k refl) in
      sym (any_some 8 (unclosed_at s) k (ltb-true k 8 below) (and_both (has_event s.plan k) (not (closed_at s k)) has (and_right (ltb k 8) (not (closed_at s k)) h)))

  pub unclosed_none : e ≤ event_count s.plan
      → event_count s.plan ≤ e
      → any_below e opens ≡ false
      → false ≡ any_below 8 (unclosed_at s)
  unfolding has_event
  unclosed_none le ge none_is =
      let all : any_below (event_count s.plan) opens ≡ false = ap (λ (n : ℕ). any_below n opens) (le_antisymm ge le) ∙ none_is in
      sym (any_none 8 (unclosed_at s) (λ k lt. elim (either (unclosed_at s k)) [ inr f ↦ f | inl t ↦ absurd (shown k lt all t) ]))
    where
      shown : (k : ℕ) → k < 8 → any_below (event_count s.plan) opens ≡ false → unclosed_at s k ≡ true → ⊥
      shown k lt all t =
          let found = any_found (event_count s.plan) (λ d. eqb (step_of s.plan d) k) (and_left (has_event s.plan k) (not (closed_at s k)) t) in
          let same : step_of s.plan found.0 ≡ k = eqb-true (step_of s.plan found.0) k found.2 in
          clash
          (and_both (ltb (step_of s.plan found.0) 8) (not (closed_at s (step_of s.plan found.0))) (ap (λ (n : ℕ). ltb n 8) same ∙ lt-ltb k 8 lt) (ap (λ (n : ℕ). not (closed_at s n)) same ∙ and_right (has_event s.plan k) (not (closed_at s k)) t))
          (any_false (event_count s.plan) opens all found.0 found.1)
