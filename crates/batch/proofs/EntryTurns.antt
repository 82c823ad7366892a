-- One entry: the call that it asks for, its turn, and the states on which turns are taken.
use Prim.Native.Nat.{ℕ}
use borrow.Author.Tests.{eq-eqb, ne_eqb}
use mathlib.Core.Bool.{true}
use mathlib.Core.List.{List, ◌∷◌}
use Rattle.std.specs.declared.option.Option.{Option}
use Rattle.std.specs.declared.option.Option.TheVariants.{None as none, Some as some}
use mathlib.Core.Path.{◌≡◌, refl, sym, ◌∙◌, ap}
use Rattle.batch.specs.Types.{Call, Submit, Close, Answer, State, Reply, BatchEntry}
use Rattle.plan.specs.Faults.{answer_number, answer_fate}
use Rattle.scheduler.specs.Answers.{take_call, call}
use Rattle.scheduler.specs.Coherent.{coherent}
use Rattle.scheduler.specs.Lists.{scheduler, after}
use Rattle.scheduler.specs.State.{Sized}
use Rattle.scheduler.proofs.CallSteps.{take_call_lem}
use Rattle.theory.proofs.Coherence.{call_coherent, sized_call}
use Rattle.batch.specs.Batch.{asked_by, calls_of, carrying, fate_carried, carries, answered, after_entry}
use Rattle.batch.specs.Internal.Turns.{turn, turned}

-- what an entry asks for, by its kind
module _ (e : BatchEntry) where
  pub asked_submit : e.kind ≡ 16 → asked_by e ≡ some (Submit e.number)
  unfolding asked_by
  asked_submit h = rw (eq-eqb e.kind 16 h, asked_by)

  pub asked_close : (e.kind ≡ 16 → ⊥) → e.kind ≡ 17 → asked_by e ≡ some (Close e.number)
  unfolding asked_by
  asked_close n h = rw (ne_eqb e.kind 16 n, eq-eqb e.kind 17 h, asked_by)

  pub asked_nothing : (e.kind ≡ 16 → ⊥) → (e.kind ≡ 17 → ⊥) → asked_by e ≡ none
  unfolding asked_by
  asked_nothing n m = rw (ne_eqb e.kind 16 n, ne_eqb e.kind 17 m, asked_by)

-- the branches of the definitions, by what it asks for
module _ (s : State) (e : BatchEntry) where
  pub turn_some : (c : Call) → asked_by e ≡ some c → turn s e ≡ (take_call s c).state
  unfolding turn
  turn_some c h = rw (h, turn)

  pub turn_none : asked_by e ≡ none → turn s e ≡ s
  unfolding turn
  turn_none h = rw (h, turn)

  pub turned_some : (c : Call) → asked_by e ≡ some c → turned s e ≡ carries e (take_call s c).answer
  unfolding turned
  turned_some c h = rw (h, turned)

  pub turned_none : asked_by e ≡ none → turned s e ≡ carrying e 2 0
  unfolding turned
  turned_none h = rw (h, turned)

  -- the code's reply to the call
  pub replied : (c : Call) (r : Reply) → asked_by e ≡ some c → r ≡ take_call s c
      → (r.state ≡ turn s e) × (carries e r.answer ≡ turned s e)
  replied c r h is = (
    ap (λ (x : Reply). x.state) is ∙ sym (turn_some c h),
    ap (λ (x : Reply). carries e x.answer) is ∙ sym (turned_some c h),
  )

  pub answered_some : (c : Call) → asked_by e ≡ some c → answered s e ≡ carries e (call s c).answer
  unfolding answered
  answered_some c h = rw (h, answered)

  pub answered_none : asked_by e ≡ none → answered s e ≡ carrying e 2 0
  unfolding answered
  answered_none h = rw (h, answered)

  pub after_some : (c : Call) → asked_by e ≡ some c → after_entry s e ≡ (call s c).state
  unfolding after_entry
  after_some c h = rw (h, after_entry)

  pub after_none : asked_by e ≡ none → after_entry s e ≡ s
  unfolding after_entry
  after_none h = rw (h, after_entry)

pub calls_some : (e : BatchEntry) (es : List BatchEntry) (c : Call) → asked_by e ≡ some c → calls_of (e ∷ es) ≡ c ∷ calls_of es
unfolding calls_of
calls_some e es c h = rw (h, calls_of)

pub calls_none : (e : BatchEntry) (es : List BatchEntry) → asked_by e ≡ none → calls_of (e ∷ es) ≡ calls_of es
unfolding calls_of
calls_none e es h = rw (h, calls_of)

-- an entry with its answer's two numbers carries the answer
pub carried : (e x : BatchEntry) (a : Answer) (n f : ℕ)
    → n ≡ answer_number a
    → f ≡ fate_carried (answer_fate a)
    → x ≡ carrying e n f
    → x ≡ carries e a
carried e x a n f h k same = same ∙ (λ i. carrying e (h i) (k i))

-- a turn on a state that passes number 12 is the single call
module _ (s : State) (e : BatchEntry) (h : coherent s ≡ true) where
  pub turn_is : turn s e ≡ after_entry s e
  turn_is = go (asked_by e) refl
    where
      go : (q : Option Call) → asked_by e ≡ q → turn s e ≡ after_entry s e
      go (some c) a = turn_some s e c a ∙ ap (λ (r : Reply). r.state) (take_call_lem s c h) ∙ sym (after_some s e c a)
      go none a = turn_none s e a ∙ sym (after_none s e a)

  pub turned_is : turned s e ≡ answered s e
  turned_is = go (asked_by e) refl
    where
      go : (q : Option Call) → asked_by e ≡ q → turned s e ≡ answered s e
      go (some c) a =
          turned_some s e c a
          ∙ ap (λ (r : Reply). carries e r.answer) (take_call_lem s c h)
          ∙ sym (answered_some s e c a)
      go none a = turned_none s e a ∙ sym (answered_none s e a)

-- the first of a list's calls, and of a batch's
after_call : (s : State) (c : Call) (cs : List Call) → after scheduler s (c ∷ cs) ≡ after scheduler (call s c).state cs
unfolding after
after_call s c cs = refl

pub after_first : (s : State) (e : BatchEntry) (es : List BatchEntry)
    → after scheduler s (calls_of (e ∷ es)) ≡ after scheduler (after_entry s e) (calls_of es)
after_first s e es = go (asked_by e) refl
  where
    go : (q : Option Call) → asked_by e ≡ q → after scheduler s (calls_of (e ∷ es)) ≡ after scheduler (after_entry s e) (calls_of es)
    go (some c) a =
        ap (after scheduler s) (calls_some e es c a)
        ∙ after_call s c (calls_of es)
        ∙ ap (λ (t : State). after scheduler t (calls_of es)) (sym (after_some s e c a))
    go none a =
        ap (after scheduler s) (calls_none e es a)
        ∙ ap (λ (t : State). after scheduler t (calls_of es)) (sym (after_none s e a))

-- what is true of the state, and kept by every call, is true after an entry's turn
by_entry : (s : State) (e : BatchEntry) (P : State → Type 0) → P s → ((c : Call) → P (call s c).state) → P (after_entry s e)
by_entry s e P same kept = go (asked_by e) refl
  where
    go : (q : Option Call) → asked_by e ≡ q → P (after_entry s e)
    go (some c) a = rw (after_some s e c a) (kept c)
    go none a = rw (after_none s e a) same

pub entry_coherent : (s : State) (e : BatchEntry) → Sized s → coherent s ≡ true → coherent (after_entry s e) ≡ true
entry_coherent s e z h = by_entry s e (λ t. coherent t ≡ true) h (λ c. call_coherent s c z h)

pub entry_sized : (s : State) (e : BatchEntry) → Sized s → Sized (after_entry s e)
entry_sized s e z = by_entry s e Sized z (λ c. sized_call s c z)
