-- What writing a sheet answers and leaves in the buffer, by the rows of its table.
use Prim.Native.Nat.{ℕ, ◌≤◌, ◌<◌}
use native.Mathlib.Omega.{arith}
use borrow.Author.Tests.{lt-ltb, le-ltb, ltb-true}
use mathlib.Core.Bool.{Bool, true, false, not, cond}
use mathlib.Core.List.{List, [], ◌∷◌}
use mathlib.Core.Logic.{inl, inr}
use Rattle.std.specs.declared.option.Option.TheVariants.{None as none, Some as some}
use mathlib.Core.Path.{◌≡◌, sym, ◌∙◌, ap}
use lib.Dec.{ltb}
use lib.ListN.{length}
use Rattle.plan.specs.Faults.{first_fault}
use Rattle.plan.proofs.Tests.{either}
use Rattle.plan.proofs.Tables.{row_hit, row_miss, rows_none}
use Rattle.plan.specs.Plans.{event_count, rule_count}
use Rattle.scheduler.specs.Coherent.{coherent}
use Rattle.theory.proofs.Coherence.{coherent_sound}
use Rattle.pages.specs.Filled.{filled}
use Rattle.pages.proofs.Texts.{filled_short}
use Rattle.writer.specs.Types.{Result, Ok, Err, WriteFault, Incoherent, NoRoom, State}
use Rattle.writer.specs.Writing.{sheet_bytes, sheet_length, length_given, reply_number, reply_length, length_reply, write_fault, write_reply, buffer_after}
use Rattle.writer.specs.Internal.Tests.{coherent_or_fault}
use Rattle.writer.proofs.Joining.{sheet_short}

module _ (s : State) where
  -- the length alone
  pub length_refused : coherent s ≡ false → length_reply s ≡ Err Incoherent
  unfolding length_reply first_fault
  length_refused h = rw (h, first_fault)

  pub length_taken : coherent s ≡ true → length_reply s ≡ Ok (sheet_length s.plan)
  unfolding length_reply first_fault
  length_taken h = rw (h, first_fault)

  -- the test
  pub test_fails : coherent s ≡ false → coherent_or_fault s ≡ Err Incoherent
  unfolding coherent_or_fault
  test_fails h = rw h

  pub test_passes : coherent s ≡ true → coherent_or_fault s ≡ Ok tt
  unfolding coherent_or_fault
  test_passes h = rw h

  -- the rows
  module _ (room : ℕ) where
    abbrev short : Bool
    short = ltb room (sheet_length s.plan)

    abbrev full : WriteFault
    full = NoRoom (sheet_length s.plan)

    pub fault_incoherent : coherent s ≡ false → write_fault s room ≡ some Incoherent
    unfolding write_fault
    fault_incoherent h = row_hit (not (coherent s)) Incoherent ((short, full) ∷ []) (ap not h)

    pub fault_short : coherent s ≡ true → short ≡ true → write_fault s room ≡ some full
    unfolding write_fault
    fault_short h l = row_miss (not (coherent s)) Incoherent ((short, full) ∷ []) (ap not h) ∙ row_hit short full [] l

    pub fault_none : coherent s ≡ true → short ≡ false → write_fault s room ≡ none
    unfolding write_fault
    fault_none h l =
        row_miss (not (coherent s)) Incoherent ((short, full) ∷ []) (ap not h)
        ∙ row_miss short full [] l
        ∙ rows_none

    -- the reply
    pub reply_incoherent : coherent s ≡ false → write_reply s room ≡ Err Incoherent
    unfolding write_reply
    reply_incoherent h = rw (fault_incoherent h)

    pub reply_short : coherent s ≡ true → short ≡ true → write_reply s room ≡ Err full
    unfolding write_reply
    reply_short h l = rw (fault_short h l)

    pub reply_taken : coherent s ≡ true → short ≡ false → write_reply s room ≡ Ok (sheet_length s.plan)
    unfolding write_reply
    reply_taken h l = rw (fault_none h l)

  -- the buffer
  module _ (out : List ℕ) where
    pub buffer_fault : (f : WriteFault) → write_fault s (length out) ≡ some f → buffer_after s out ≡ out
    unfolding buffer_after
    buffer_fault f h = rw (h, buffer_after)

    pub buffer_taken : write_fault s (length out) ≡ none → buffer_after s out ≡ filled (sheet_bytes s.plan) out
    unfolding buffer_after
    buffer_taken h = rw (h, buffer_after)

-- what the code comes to, by what its test for number 12 gave
module _ (s : State) (r : Result Unit WriteFault) (found : r ≡ coherent_or_fault s) where
  -- it fails
  module _ (f : WriteFault) (was : r ≡ Err f) where
    refused : (coherent s ≡ false) × (f ≡ Incoherent)
    refused = elim (either (coherent s)) [
      | inl h ↦ absurd (let e : Err f ≡ Ok tt = sym was ∙ found ∙ test_passes s h in cc)
      | inr h ↦ let e : Err f ≡ Err Incoherent = sym was ∙ found ∙ test_fails s h in (h, cc)
    ]

    pub length_12 : Err f ≡ length_reply s
    length_12 = ap Err refused.1 ∙ sym (length_refused s refused.0)

    pub reply_12 : (room : ℕ) → Err f ≡ write_reply s room
    reply_12 room = ap Err refused.1 ∙ sym (reply_incoherent s room refused.0)

    pub buffer_12 : (out : List ℕ) → out ≡ buffer_after s out
    buffer_12 out = sym (buffer_fault s out Incoherent (fault_incoherent s (length out) refused.0))

  -- it passes: few events and few rules, and a page has room for the sheet
  module _ (u : Unit) (was : r ≡ Ok u) where
    made : coherent s ≡ true
    made = elim (either (coherent s)) [
      | inl h ↦ h
      | inr h ↦ absurd (let e : Ok u ≡ Err Incoherent = sym was ∙ found ∙ test_fails s h in cc)
    ]

    pub counts_few : (event_count s.plan ≤ 16) × (rule_count s.plan ≤ 16)
    counts_few = let sd = coherent_sound s made in (sd.few_events, sd.few_rules)

    pub sheet_room : sheet_length s.plan ≤ 320
    sheet_room = omega (arith, sheet_short s.plan counts_few.0 counts_few.1)

    -- the page has the sheet
    module _ (text : List ℕ) (same : text ≡ sheet_bytes s.plan) where
      pub length_said : Ok (length text) ≡ length_reply s
      length_said = ap (λ (l : List ℕ). Ok (length l)) same ∙ sym (length_taken s made)

      module _ (out : List ℕ) where
        -- number 14
        module _ (less : length out < length text) where
          row_14 : ltb (length out) (sheet_length s.plan) ≡ true
          row_14 = lt-ltb (length out) (sheet_length s.plan) (omega (arith, ap length same))

          pub reply_14 : Err (NoRoom (length text)) ≡ write_reply s (length out)
          reply_14 =
              ap (λ (l : List ℕ). Err (NoRoom (length l))) same ∙ sym (reply_short s (length out) made row_14)

          pub buffer_14 : out ≡ buffer_after s out
          buffer_14 = sym (buffer_fault s out (full s (length out)) (fault_short s (length out) made row_14))

        -- the sheet is written
        module _ (fits : length text ≤ length out) where
          no_row : ltb (length out) (sheet_length s.plan) ≡ false
          no_row = le-ltb (length out) (sheet_length s.plan) (omega (arith, ap length same))

          pub reply_0 : Ok (length text) ≡ write_reply s (length out)
          reply_0 =
              ap (λ (l : List ℕ). Ok (length l)) same ∙ sym (reply_taken s (length out) made no_row)

          pub buffer_0 : (after : List ℕ) → after ≡ filled text out → after ≡ buffer_after s out
          buffer_0 after h =
              h
              ∙ ap (λ (l : List ℕ). filled l out) same
              ∙ sym (buffer_taken s out (fault_none s (length out) made no_row))

-- what a reply says: the length, and the number where no row applies
pub length_gives : (s : State) → reply_length (length_reply s) ≡ length_given s
length_gives s = elim (either (coherent s)) [
  | inl h ↦ rw (length_taken s h, h)
  | inr h ↦ rw (length_refused s h, h)
]

pub reply_gives : (s : State) (room : ℕ) → reply_length (write_reply s room) ≡ length_given s
reply_gives s room = elim (either (coherent s)) [
  | inl h ↦ elim (either (short s room)) [
    | inl l ↦ rw (reply_short s room h l, h)
    | inr l ↦ rw (reply_taken s room h l, h)
  ]
  | inr h ↦ rw (reply_incoherent s room h, h)
]

pub number_none : (s : State) (room : ℕ) → write_fault s room ≡ none → reply_number (write_reply s room) ≡ 0
unfolding write_reply
number_none s room h = rw h

-- of a state that passes number 12
module _ (s : State) where
  pub sound_length : coherent s ≡ true → length_given s ≡ sheet_length s.plan
  sound_length h = rw h

  pub sound_number : (room : ℕ)
      → coherent s ≡ true
      → reply_number (write_reply s room) ≡ cond (ltb room (sheet_length s.plan)) 14 0
  sound_number room h = elim (either (short s room)) [
    | inl l ↦ rw l (ap reply_number (reply_short s room h l))
    | inr l ↦ rw l (ap reply_number (reply_taken s room h l))
  ]

  pub sound_buffer : (out : List ℕ) → coherent s ≡ true → buffer_after s out ≡ filled (sheet_bytes s.plan) out
  sound_buffer out h = elim (either (short s (length out))) [
    | inl l ↦
        buffer_fault s out (full s (length out)) (fault_short s (length out) h l)
        ∙ filled_short (sheet_bytes s.plan) out (ltb-true (length out) (sheet_length s.plan) l)
    | inr l ↦ buffer_taken s out (fault_none s (length out) h l)
  ]
