-- A state that passes number 12 is under the invariant, and still passes after any call. A call turned down gives the
-- state back.
use Prim.Native.Nat.{ℕ, suc, ◌≤◌, ◌<◌}
use native.Mathlib.Omega.{arith}
use native.Mathlib.Decide.{ℕ_discrete}
use borrow.Author.Tests.{eq-eqb, ne_eqb, ltb-true, leb-true, leb-false, not-true, not-false}
use mathlib.Core.Bool.{Bool, true, false, not, ◌&&◌, ◌||◌}
use mathlib.Core.List.{List, [], ◌∷◌}
use mathlib.Core.Logic.{◌≢◌, ◌↔◌, inl, inr}
use Rattle.std.specs.declared.option.Option.{Option}
use Rattle.std.specs.declared.option.Option.TheVariants.{None as none, Some as some}
use mathlib.Core.Path.{◌≡◌, refl, sym, ◌∙◌, ap, subst}
use lib.Dec.{eqb, ltb, leb}
use lib.ListN.{length}
use lib.Seq.{length-take-le}
use Rattle.theory.proofs.Types.{Fate, Open, Held, Done, Refused, Lapsed, Forced, Rule, Order, Need, Conditional, Plan, Entry, State, CallFault, Incoherent, TurnedDown, Reply, Call, Submit, Close, Finish, Advance}
use Rattle.plan.specs.Base.{all_below, one_if, count_below}
use Rattle.plan.specs.Plans.{event_count, rule_count, step_of, rule_at, delayable}
use Rattle.scheduler.specs.State.{fate_of, broken_at, closed_at, line_count, lines, Sized}
use Rattle.plan.specs.Fates.{is_open, is_held, is_done, is_gone, is_settled}
use Rattle.plan.specs.Rules.{sound_event, sound_rule, sound_windows, owes}
use Rattle.plan.specs.Histories.{fate_if, fates_in, done_in, done_in_turn, holds, declared_only, listed_as}
use Rattle.plan.specs.Faults.{is_turned_down}
use Rattle.scheduler.specs.Coherent.{coherent_event, coherent_rule, coherent}
use Rattle.scheduler.specs.Answers.{call_rows, call_fault, accept, call}
use Rattle.scheduler.specs.Lists.{scheduler, after}
use Rattle.plan.proofs.Tests.{count_zero, clash, either, and_left, and_right, and_not, all_at, count_more}
use Rattle.plan.proofs.Windows.{windows_sound}
use Rattle.plan.proofs.Tables.{none_applies, no_row}
use Rattle.plan.proofs.Lines.{fates_same}
use Rattle.scheduler.proofs.Branches.{submit_same, call_fault_lem, call_accept}
use Rattle.theory.proofs.Conjunctions.{and_three, and_four}
use Rattle.theory.proofs.SoundPlans.{Sound}
use Rattle.theory.proofs.HistoryInvariant.{HistoryListed, same_events}
use Rattle.theory.proofs.RuleInvariant.{Quiet, unpaid, done_listed, need_named, conditional_named}
use Rattle.theory.proofs.Invariant.{Invariant, close_keeps, finish_keeps, move_keeps}
use Rattle.theory.proofs.Submission.{submit_keeps}
use Rattle.theory.proofs.InvariantCoherent.{invariant_coherent}

-- a history that names each declared event that passes the test once, and no other, has as many lines as events pass
one_zero : (b : Bool) → one_if b ≡ 0 → b ≡ false
one_zero true h = absurd (omega arith)
one_zero false h = refl

one_more : (b : Bool) (n : ℕ) → suc n ≡ one_if b → (b ≡ true) × (n ≡ 0)
one_more true n h = (refl, omega arith)
one_more false n h = absurd (omega arith)

-- the test without the event a
abbrev but_for : ℕ → (ℕ → Bool) → ℕ → Bool
but_for a t e = not (eqb a e) && t e

but_same : (a : ℕ) (t : ℕ → Bool) → but_for a t a ≡ false
but_same a t = rw (eq-eqb a a refl)

but_other : (a : ℕ) (t : ℕ → Bool) (e : ℕ) → e ≢ a → but_for a t e ≡ t e
but_other a t e ne = rw (ne_eqb a e (λ q. ne (sym q)))

fates_first : (x : Entry) (h : List Entry) → length (fates_in (x ∷ h) x.event) ≡ suc (length (fates_in h x.event))
unfolding fates_in
fates_first x h = rw (eq-eqb x.event x.event refl)

fates_rest : (x : Entry) (h : List Entry) (e : ℕ) → e ≢ x.event → fates_in (x ∷ h) e ≡ fates_in h e
unfolding fates_in
fates_rest x h e ne = rw (ne_eqb x.event e (λ q. ne (sym q)))

counted : (h : List Entry) (n : ℕ) (t : ℕ → Bool)
    → declared_only h n ≡ true
    → ((e : ℕ) → e < n → length (fates_in h e) ≡ one_if (t e))
    → length h ≡ count_below n t
unfolding declared_only fates_in
counted [] n t d f = sym (count_zero n t (λ e l. one_zero (t e) (sym (f e l))))
counted (x ∷ h) n t d f =
    let a = x.event in
    let lt : a < n = ltb-true a n (and_left (ltb a n) (declared_only h n) d) in
    let z = one_more (t a) (length (fates_in h a)) (sym (fates_first x h) ∙ f a lt) in
    ap suc (counted h n (but_for a t) (and_right (ltb a n) (declared_only h n) d) (λ e l. elim (ℕ_discrete e a) [
      | yes q ↦ rw (q, but_same a t) z.1
      | no ne ↦ ap length (sym (fates_rest x h e ne)) ∙ f e l ∙ ap one_if (sym (but_other a t e ne))
    ])) ∙ sym (count_more n (but_for a t) t a lt (but_same a t) z.0 (but_other a t))

length_if : (b : Bool) (x : Fate) → length (fate_if b x) ≡ one_if b
length_if true x = refl
length_if false x = refl

-- what a refuted conjunction says
implied : (h d : Bool) → not (h && not d) ≡ true → h ≡ true → d ≡ true
implied h d p q = not-false d (and_not h (not d) (not-true (h && not d) p) q)

excluded : (h d : Bool) → not (h && d) ≡ true → h ≡ true → d ≡ false
excluded h d p q = and_not h d (not-true (h && d) p) q

-- what is done is not gone
paid_of : (d : Bool) (x : Fate) → not (d && not (is_done x)) ≡ true → (d && is_gone x) ≡ false
paid_of false x h = refl
paid_of true Open h = refl
paid_of true Held h = refl
paid_of true Done h = refl
paid_of true Refused h = sym h
paid_of true Lapsed h = sym h
paid_of true Forced h = refl

-- what number 12's test says of a state's counts, events and rules
module _ (s : State) (h : coherent s ≡ true) where
  abbrev p : Plan
  p = s.plan

  abbrev counts : Bool
  counts =
      leb (event_count p) 16 && leb (rule_count p) 16 && leb (line_count s) 16 && declared_only (lines s) (event_count p)

  abbrev events : Bool
  events = all_below (event_count p) (coherent_event s)

  abbrev rules : Bool
  rules = all_below (rule_count p) (coherent_rule s)

  parts : (counts ≡ true) × (events ≡ true) × (rules ≡ true)
  unfolding coherent
  parts = and_three counts events rules (and_left (counts && events && rules) (sound_windows p) h)

  pub coherent_windows : sound_windows p ≡ true
  unfolding coherent
  coherent_windows = and_right (counts && events && rules) (sound_windows p) h

  few : (event_count p ≤ 16) × (rule_count p ≤ 16) × (line_count s ≤ 16) × (declared_only (lines s) (event_count p) ≡ true)
  few =
      let declared = declared_only (lines s) (event_count p) in
      let q = and_four (leb (event_count p) 16) (leb (rule_count p) 16) (leb (line_count s) 16) declared parts.0 in
      (leb-true (event_count p) 16 q.0, leb-true (rule_count p) 16 q.1, leb-true (line_count s) 16 q.2, q.3)

  -- an event is sound and listed, can wait if it is held, and is not left open in a closed step
  abbrev listed : ℕ → Bool
  listed e = listed_as (lines s) e (fate_of s e)

  abbrev held_waits : ℕ → Bool
  held_waits e = not (is_held (fate_of s e) && not (delayable p e))

  abbrev open_unclosed : ℕ → Bool
  open_unclosed e = not (is_open (fate_of s e) && closed_at s (step_of p e))

  pub event_passes : (e : ℕ)
      → e < event_count p
      → (sound_event p e ≡ true) × (listed e ≡ true) × (held_waits e ≡ true) × (open_unclosed e ≡ true)
  unfolding coherent_event
  event_passes e l =
      and_four (sound_event p e) (listed e) (held_waits e) (open_unclosed e)
      (all_at (event_count p) (coherent_event s) parts.1 e l)

  -- a rule is sound; one that is not recorded as broken owes nothing and holds
  abbrev kept : ℕ → Bool
  kept i = not (owes p (fate_of s) (rule_at p i)) && holds (lines s) (rule_at p i)

  rule_passes : (i : ℕ) → i < rule_count p → (sound_rule p i ≡ true) × ((broken_at s i || kept i) ≡ true)
  unfolding coherent_rule
  rule_passes i l =
      let q = all_at (rule_count p) (coherent_rule s) parts.2 i l in
      (and_left (sound_rule p i) (broken_at s i || kept i) q, and_right (sound_rule p i) (broken_at s i || kept i) q)

  unbroken_passes : (i : ℕ) → i < rule_count p → broken_at s i ≡ false → kept i ≡ true
  unbroken_passes i l b = rw b at (rule_passes i l).1

  quiet_passes : Quiet p s
  quiet_passes i l b =
      let owing = owes p (fate_of s) (rule_at p i) in
      not-true owing (and_left (not owing) (holds (lines s) (rule_at p i)) (unbroken_passes i l b))

  rule_held : (i : ℕ) → i < rule_count p → broken_at s i ≡ false → holds (lines s) (rule_at p i) ≡ true
  rule_held i l b =
      and_right (not (owes p (fate_of s) (rule_at p i))) (holds (lines s) (rule_at p i)) (unbroken_passes i l b)

  pub coherent_sound : Sound s.plan
  coherent_sound = record {
    few_events = few.0;
    few_rules = few.1;
    event = λ e l. (event_passes e l).0;
    rule = λ i l. (rule_passes i l).0;
    window = λ e l. windows_sound p coherent_windows e;
  }

  -- with the arrays' lengths the state is under the invariant
  module _ (z : Sized s) where
    listed_once : (e : ℕ) → e < event_count p → fates_in (lines s) e ≡ fate_if (is_settled (fate_of s e)) (fate_of s e)
    unfolding listed_as
    listed_once e l =
        fates_same (fates_in (lines s) e) (fate_if (is_settled (fate_of s e)) (fate_of s e)) (event_passes e l).1

    listing_of : HistoryListed p s
    listing_of = record {
      shape = record { same_plan = refl; sized = z };
      few = few.0;
      tally = sym (length-take-le (line_count s) s.history (omega (arith, few.2, z.history_len)))
          ∙ counted (lines s) (event_count p) (λ e. is_settled (fate_of s e)) few.3
          (λ e l. ap length (listed_once e l) ∙ length_if (is_settled (fate_of s e)) (fate_of s e));
      listed = listed_once;
      only = few.3;
    }

    done : (e : ℕ) → e < event_count p → done_in (lines s) e ≡ is_done (fate_of s e)
    done = done_listed listing_of

    paid_as : (i : ℕ) (r : Rule) → i < rule_count p → rule_at p i ≡ r → holds (lines s) r ≡ true → unpaid s r ≡ false
    unfolding unpaid holds
    paid_as i (Order a b) l q t = refl
    paid_as i (Need a b) l q t =
        let n = need_named coherent_sound i a b l q in
        paid_of (is_done (fate_of s a)) (fate_of s b)
        (rw (done a n.0, done b n.1) at t)
    paid_as i (Conditional a b c) l q t =
        let n = conditional_named coherent_sound i a b c l q in
        paid_of (is_done (fate_of s a) && is_done (fate_of s b)) (fate_of s c)
        (rw (done a n.first, done b n.second, done c n.third) at t)

    turn_as : (i a b : ℕ)
        → i < rule_count p
        → broken_at s i ≡ false
        → rule_at p i ≡ Order a b
        → done_in_turn (lines s) b a ≡ false
    unfolding holds
    turn_as i a b l n r = not-true (done_in_turn (lines s) b a) (rw r at (rule_held i l n))

    invariant_of : Invariant p s
    invariant_of = record {
      listing = listing_of;
      obeyed = record { turn = turn_as; paid = λ i l n. paid_as i (rule_at p i) l refl (rule_held i l n) };
      quiet = quiet_passes;
      held = λ e l q. implied (is_held (fate_of s e)) (delayable p e) (event_passes e l).2 (ap is_held q);
      still = λ e l q. excluded (is_open (fate_of s e)) (closed_at s (step_of p e)) (event_passes e l).3 (ap is_open q);
    }

pub coherent_invariant : (s : State) → Sized s → coherent s ≡ true → Invariant s.plan s
coherent_invariant s z h = invariant_of s h z

-- a call to which no row of the table applies: the state passes number 12, and an event handed in is declared
pub accepted_coherent : (s : State) (c : Call) → call_fault s c ≡ none → coherent s ≡ true
unfolding call_fault
accepted_coherent s c h = not-false (coherent s) (none_applies (not (coherent s)) Incoherent (call_rows s c) h).0

pub accepted_declared : (s : State) (e : ℕ) → call_fault s (Submit e) ≡ none → e < event_count s.plan
unfolding call_fault
accepted_declared s e h = leb-false (event_count s.plan) e (no_row _ h).1.0

-- what holds of the state, and of what a call that is taken makes of it, holds after the call
by_fault : (s : State) (c : Call) (P : State → Type 0)
    → P s
    → (call_fault s c ≡ none → P (accept s c).state)
    → P (call s c).state
by_fault s c P same taken = go (call_fault s c) refl
  where
    go : (q : Option CallFault) → call_fault s c ≡ q → P (call s c).state
    go (some f) h = subst (λ (r : Reply). P r.state) (sym (call_fault_lem s c f h)) same
    go none h = subst (λ (r : Reply). P r.state) (sym (call_accept s c h)) (taken h)

-- every call keeps the invariant
accept_keeps : {p : Plan} {s : State}
    → Sound p
    → Invariant p s
    → (c : Call)
    → call_fault s c ≡ none
    → Invariant p (accept s c).state
unfolding accept
accept_keeps {p} {s} sd k (Submit e) h = elim (either (is_open (fate_of s e))) [
  | inl o ↦ (submit_keeps sd k e (omega (arith, accepted_declared s e h, same_events k.listing.shape)) o).invariant
  | inr n ↦ subst (Invariant p) (sym (submit_same s e n)) k
]
accept_keeps sd k (Close i) h = (close_keeps sd k i).invariant
accept_keeps sd k Finish h = (finish_keeps sd k).settled.invariant
accept_keeps sd k (Advance m) h = (move_keeps sd k m).invariant

pub call_keeps : {p : Plan} {s : State} → Sound p → Invariant p s → (c : Call) → Invariant p (call s c).state
call_keeps {p} {s} sd k c = by_fault s c (Invariant p) k (accept_keeps sd k c)

-- a state that passes number 12 still does after any call
pub call_coherent : (s : State) (c : Call) → Sized s → coherent s ≡ true → coherent (call s c).state ≡ true
call_coherent s c z h =
    let sd = coherent_sound s h in
    invariant_coherent sd (call_keeps sd (coherent_invariant s z h) c)

-- the arrays keep their lengths
pub sized_call : (s : State) (c : Call) → Sized s → Sized (call s c).state
sized_call s c z =
    by_fault s c Sized z (λ h.
    let k = accepted_coherent s c h in
    (accept_keeps (coherent_sound s k) (coherent_invariant s z k) c h).listing.shape.sized)

-- so do those of the state after a list, which still passes number 12
pub after_sized : (s : State) (cs : List Call) → Sized s → Sized (after scheduler s cs)
unfolding after
after_sized s [] z = z
after_sized s (c ∷ cs) z = after_sized (call s c).state cs (sized_call s c z)

pub after_coherent : (s : State) (cs : List Call) → Sized s → coherent s ≡ true → coherent (after scheduler s cs) ≡ true
unfolding after
after_coherent s [] z h = h
after_coherent s (c ∷ cs) z h = after_coherent (call s c).state cs (sized_call s c z) (call_coherent s c z h)

-- the answer is a refusal with fault f exactly where f is the first row of the table that applies
accept_taken : (s : State) (c : Call) → is_turned_down (accept s c).answer ≡ false
unfolding accept
accept_taken s (Submit e) = refl
accept_taken s (Close k) = refl
accept_taken s Finish = refl
accept_taken s (Advance m) = refl

pub call_taken : (s : State) (c : Call) → call_fault s c ≡ none → is_turned_down (call s c).answer ≡ false
call_taken s c h = ap (λ (r : Reply). is_turned_down r.answer) (call_accept s c h) ∙ accept_taken s c

pub fault_answer : (s : State) (c : Call) (f : CallFault) → call_fault s c ≡ some f → (call s c).answer ≡ TurnedDown f
fault_answer s c f h = ap (λ (r : Reply). r.answer) (call_fault_lem s c f h)

pub answer_fault : (s : State) (c : Call) (f : CallFault) → ((call s c).answer ≡ TurnedDown f) ↔ (call_fault s c ≡ some f)
answer_fault s c f = (λ a. go a (call_fault s c) refl, fault_answer s c f)
  where
    go : (call s c).answer ≡ TurnedDown f → (q : Option CallFault) → call_fault s c ≡ q → call_fault s c ≡ some f
    go a (some g) h = let w = fault_answer s c g h in cc
    go a none h = absurd (clash (ap is_turned_down a) (call_taken s c h))

-- a call turned down gives back the state
pub call_turned_down : (s : State) (c : Call) → is_turned_down (call s c).answer ≡ true → (call s c).state ≡ s
call_turned_down s c t = by_fault s c (λ u. u ≡ s) refl (λ h. absurd (clash t (call_taken s c h)))
