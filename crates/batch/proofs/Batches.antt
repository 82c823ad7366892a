-- The theorems on batches: a batch is the list of its calls, its parts may be handed in one after another, and it changes no
-- entry's kind and number.
use Prim.Native.Nat.{ℕ, ◌≤◌}
use native.Mathlib.Omega.{arith}
use borrow.Author.Tests.{le-ltb}
use mathlib.Core.Bool.{true, false}
use mathlib.Core.List.{List, [], ◌∷◌, ◌++◌, map}
use Rattle.std.specs.declared.option.Option.{Option}
use Rattle.std.specs.declared.option.Option.TheVariants.{None as none, Some as some}
use mathlib.Core.Path.{◌≡◌, refl, sym, ◌∙◌, ap, subst}
use mathlib.Core.Logic.{inl, inr}
use lib.Dec.{ltb}
use lib.ListN.{length, length-append}
use Rattle.plan.proofs.Tests.{either}
use Rattle.batch.specs.Types.{Call, CallFault, TooLong, Made, State, Reply, BatchEntry}
use Rattle.scheduler.specs.Answers.{call}
use Rattle.scheduler.specs.Coherent.{coherent}
use Rattle.scheduler.specs.Demand.{seen, Demand3}
use Rattle.scheduler.specs.Lists.{scheduler, after}
use Rattle.scheduler.specs.Sheet.{read_sheet, admitted}
use Rattle.scheduler.specs.State.{Sized}
use Rattle.theory.proofs.Coherence.{call_coherent, sized_call, after_sized, after_coherent}
use Rattle.theory.proofs.Demands.{demand3, admitted_coherent}
use Rattle.image.proofs.ImageCalls.{admitted_whole}
use Rattle.batch.specs.Batch.{asked_by, calls_of, answered, after_entry, answers, batch_fault, batch_reply, batch_entries, Extends, Move, one, together, moved, calls_in}
use Rattle.batch.proofs.EntryTurns.{answered_some, answered_none, calls_some, calls_none, after_first}
use Rattle.batch.proofs.Verdicts.{fault_long, fault_none, reply_some, reply_none, entries_some, entries_none}

-- the calls of a batch in two parts, and their answers
pub calls_parts : (es fs : List BatchEntry) → calls_of (es ++ fs) ≡ calls_of es ++ calls_of fs
unfolding calls_of
calls_parts [] fs = refl
calls_parts (e ∷ es) fs = go (calls_parts es fs) (asked_by e) refl
  where
    go : calls_of (es ++ fs) ≡ calls_of es ++ calls_of fs
        → (q : Option Call)
        → asked_by e ≡ q
        → calls_of (e ∷ (es ++ fs)) ≡ calls_of (e ∷ es) ++ calls_of fs
    go rest (some c) a =
        calls_some e (es ++ fs) c a
        ∙ ap (λ (cs : List Call). c ∷ cs) rest
        ∙ ap (λ (cs : List Call). cs ++ calls_of fs) (sym (calls_some e es c a))
    go rest none a =
        calls_none e (es ++ fs) a
        ∙ rest
        ∙ ap (λ (cs : List Call). cs ++ calls_of fs) (sym (calls_none e es a))

pub after_parts : (s : State) (cs ds : List Call) → after scheduler s (cs ++ ds) ≡ after scheduler (after scheduler s cs) ds
unfolding after
after_parts s [] ds = refl
after_parts s (c ∷ cs) ds = after_parts (call s c).state cs ds

pub answers_parts : (s : State) (es fs : List BatchEntry)
    → answers s (es ++ fs) ≡ answers s es ++ answers (after scheduler s (calls_of es)) fs
unfolding answers calls_of after
answers_parts s [] fs = refl
answers_parts s (e ∷ es) fs =
    ap (λ (l : List BatchEntry). answered s e ∷ l) (answers_parts (after_entry s e) es fs)
    ∙ ap (λ (t : State). answered s e ∷ (answers (after_entry s e) es ++ answers t fs)) (sym (after_first s e es))

-- a batch leaves a state that passes number 12 one that does
pub batch_coherent : (s : State) (es : List BatchEntry) → Sized s → coherent s ≡ true → coherent (batch_reply s es).state ≡ true
batch_coherent s es z h = go (batch_fault s (length es)) refl
  where
    go : (q : Option CallFault) → batch_fault s (length es) ≡ q → coherent (batch_reply s es).state ≡ true
    go (some f) a = ap (λ (r : Reply). coherent r.state) (reply_some s es f a) ∙ h
    go none a = ap (λ (r : Reply). coherent r.state) (reply_none s es a) ∙ after_coherent s (calls_of es) z h

-- a batch of at most 64 on a state that passes number 12
module _ (s : State) (es : List BatchEntry) (h : coherent s ≡ true) (few : length es ≤ 64) where
  taken : batch_fault s (length es) ≡ none
  taken = fault_none s (length es) h (le-ltb 64 (length es) few)

  pub batch_taken : batch_reply s es ≡ record { answer = Made; state = after scheduler s (calls_of es) }
  batch_taken = reply_none s es taken

  pub batch_answers : batch_entries s es ≡ answers s es
  batch_answers = entries_none s es taken

-- in two parts, one after the other: the same state, and the same answers
pub batch_parts : (s : State) (es fs : List BatchEntry)
    → coherent s ≡ true
    → Sized s
    → length (es ++ fs) ≤ 64
    → let t = (batch_reply s es).state in
    ((batch_reply s (es ++ fs)).state ≡ (batch_reply t fs).state) × (batch_entries s (es ++ fs) ≡ batch_entries s es ++ batch_entries t fs)
batch_parts s es fs h z few =
    let n = length-append es fs in
    let left : length es ≤ 64 = omega (arith, few, n) in
    let right : length fs ≤ 64 = omega (arith, few, n) in
    let t : (batch_reply s es).state ≡ after scheduler s (calls_of es) = ap (λ (r : Reply). r.state) (batch_taken s es h left) in
    let k : coherent (after scheduler s (calls_of es)) ≡ true = after_coherent s (calls_of es) z h in (
      ap (λ (r : Reply). r.state) (batch_taken s (es ++ fs) h few)
          ∙ ap (after scheduler s) (calls_parts es fs)
          ∙ after_parts s (calls_of es) (calls_of fs)
          ∙ ap (λ (r : Reply). r.state) (sym (batch_taken (after scheduler s (calls_of es)) fs k right))
          ∙ ap (λ (u : State). (batch_reply u fs).state) (sym t),
      batch_answers s (es ++ fs) h few
          ∙ answers_parts s es fs
          ∙ (λ i. sym (batch_answers s es h left) i ++ sym (batch_answers (after scheduler s (calls_of es)) fs k right) i)
          ∙ ap (λ (u : State). batch_entries s es ++ batch_entries u fs) (sym t),
    )

-- what an entry asks for stays
abbrev pub asks : BatchEntry → ℕ × ℕ
asks e = (e.kind, e.number)

answered_asks : (s : State) (e : BatchEntry) → asks (answered s e) ≡ asks e
answered_asks s e = go (asked_by e) refl
  where
    go : (q : Option Call) → asked_by e ≡ q → asks (answered s e) ≡ asks e
    go (some c) a = ap asks (answered_some s e c a)
    go none a = ap asks (answered_none s e a)

answers_ask : (s : State) (es : List BatchEntry) → map asks (answers s es) ≡ map asks es
unfolding answers
answers_ask s [] = refl
answers_ask s (e ∷ es) = λ i. answered_asks s e i ∷ answers_ask (after_entry s e) es i

pub batch_asks : (s : State) (es : List BatchEntry) → map asks (batch_entries s es) ≡ map asks es
batch_asks s es = go (batch_fault s (length es)) refl
  where
    go : (q : Option CallFault) → batch_fault s (length es) ≡ q → map asks (batch_entries s es) ≡ map asks es
    go (some f) a = ap (map asks) (entries_some s es f a)
    go none a = ap (map asks) (entries_none s es a) ∙ answers_ask s es

-- on an admitted sheet, after any list: the list with the entries' calls added
pub extends : (sheet : List ℕ) (s : State) (cs : List Call) (es : List BatchEntry)
    → read_sheet sheet ≡ admitted s
    → length es ≤ 64
    → Extends s cs es
extends sheet s cs es h few =
    let z : Sized s = (admitted_whole sheet s h).sized in
    let k = after_coherent s cs z (admitted_coherent sheet s h) in
    let e = batch_taken (after scheduler s cs) es k few
    ∙ ap {B = Reply} (λ (t : State). record { answer = Made; state = t }) (sym (after_parts s cs (calls_of es))) in
    record {
      reply = e;
      entries = batch_answers (after scheduler s cs) es k few;
      demand = subst (Demand3 s.plan (seen scheduler s (cs ++ calls_of es))) (sym (ap (λ (r : Reply). r.state) e))
          (demand3 sheet s (cs ++ calls_of es) h);
    }

-- calls and batches in any sequence: the list of the calls that they come to
calls_long : (es : List BatchEntry) (ms : List Move) → ltb 64 (length es) ≡ true → calls_in (together es ∷ ms) ≡ calls_in ms
unfolding calls_in
calls_long es ms h = rw (h, calls_in)

calls_few : (es : List BatchEntry) (ms : List Move)
    → ltb 64 (length es) ≡ false
    → calls_in (together es ∷ ms) ≡ calls_of es ++ calls_in ms
unfolding calls_in
calls_few es ms h = rw (h, calls_in)

pub moves_list : (s : State) (ms : List Move) → Sized s → coherent s ≡ true → moved s ms ≡ after scheduler s (calls_in ms)
unfolding moved calls_in after
moves_list s [] z h = refl
moves_list s (one c ∷ ms) z h = moves_list (call s c).state ms (sized_call s c z) (call_coherent s c z h)
moves_list s (together es ∷ ms) z h = elim (either (ltb 64 (length es))) [
  | inl l ↦
      ap (λ (r : Reply). moved r.state ms) (reply_some s es TooLong (fault_long s (length es) h l))
      ∙ moves_list s ms z h
      ∙ ap (after scheduler s) (sym (calls_long es ms l))
  | inr l ↦
      ap (λ (r : Reply). moved r.state ms) (reply_none s es (fault_none s (length es) h l))
      ∙ moves_list (after scheduler s (calls_of es)) ms (after_sized s (calls_of es) z) (after_coherent s (calls_of es) z h)
      ∙ sym (after_parts s (calls_of es) (calls_in ms))
      ∙ ap (after scheduler s) (sym (calls_few es ms l))
]

-- so on an admitted sheet demand 3 is true of them
pub moves_demand : (sheet : List ℕ) (s : State) (ms : List Move)
    → read_sheet sheet ≡ admitted s
    → Demand3 s.plan (seen scheduler s (calls_in ms)) (moved s ms)
moves_demand sheet s ms h =
    let e = moves_list s ms (admitted_whole sheet s h).sized (admitted_coherent sheet s h) in
    subst (Demand3 s.plan (seen scheduler s (calls_in ms))) (sym e) (demand3 sheet s (calls_in ms) h)
