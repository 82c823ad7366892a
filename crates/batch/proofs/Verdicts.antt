-- A batch as a whole: its rows, the verdict on it, and what it gives in each case.
use Prim.Native.Nat.{ℕ, suc}
use borrow.Author.Tests.{not-false}
use mathlib.Core.Bool.{true, false, not}
use mathlib.Core.List.{List, [], ◌∷◌}
use Rattle.std.specs.declared.option.Option.{Option}
use Rattle.std.specs.declared.option.Option.TheVariants.{None as none, Some as some}
use mathlib.Core.Path.{◌≡◌, refl, ◌∙◌, ap}
use lib.Dec.{ltb}
use lib.ListN.{length}
use Rattle.batch.specs.Types.{CallFault, Incoherent, TooLong, Made, State, BatchEntry}
use Rattle.plan.proofs.Tables.{row_hit, row_miss, rows_none, none_applies}
use Rattle.scheduler.specs.Answers.{turned_down_by}
use Rattle.scheduler.specs.Coherent.{coherent}
use Rattle.scheduler.specs.Lists.{scheduler, after}
use Rattle.batch.specs.Batch.{calls_of, after_entry, answers, batch_fault, batch_reply, batch_entries}

-- which row applies
module _ (s : State) (n : ℕ) where
  pub fault_incoherent : coherent s ≡ false → batch_fault s n ≡ some Incoherent
  unfolding batch_fault
  fault_incoherent h = row_hit (not (coherent s)) Incoherent ((ltb 64 n, TooLong) ∷ []) (ap not h)

  pub fault_long : coherent s ≡ true → ltb 64 n ≡ true → batch_fault s n ≡ some TooLong
  unfolding batch_fault
  fault_long h l =
      row_miss (not (coherent s)) Incoherent ((ltb 64 n, TooLong) ∷ []) (ap not h)
      ∙ row_hit (ltb 64 n) TooLong [] l

  pub fault_none : coherent s ≡ true → ltb 64 n ≡ false → batch_fault s n ≡ none
  unfolding batch_fault
  fault_none h l =
      row_miss (not (coherent s)) Incoherent ((ltb 64 n, TooLong) ∷ []) (ap not h)
      ∙ row_miss (ltb 64 n) TooLong [] l
      ∙ rows_none

  pub taken_coherent : batch_fault s n ≡ none → coherent s ≡ true
  unfolding batch_fault
  taken_coherent h = not-false (coherent s) (none_applies (not (coherent s)) Incoherent ((ltb 64 n, TooLong) ∷ []) h).0

-- the branches of what a batch gives
module _ (s : State) (es : List BatchEntry) where
  pub reply_some : (g : CallFault) → batch_fault s (length es) ≡ some g → batch_reply s es ≡ turned_down_by g s
  unfolding batch_reply
  reply_some g h = rw (h, batch_reply)

  pub reply_none : batch_fault s (length es) ≡ none
      → batch_reply s es ≡ record { answer = Made; state = after scheduler s (calls_of es) }
  unfolding batch_reply
  reply_none h = rw (h, batch_reply)

  pub entries_some : (g : CallFault) → batch_fault s (length es) ≡ some g → batch_entries s es ≡ es
  unfolding batch_entries
  entries_some g h = rw (h, batch_entries)

  pub entries_none : batch_fault s (length es) ≡ none → batch_entries s es ≡ answers s es
  unfolding batch_entries
  entries_none h = rw (h, batch_entries)

-- a batch leaves as many entries as it was given
answers_long : (s : State) (es : List BatchEntry) → length (answers s es) ≡ length es
unfolding answers
answers_long s [] = refl
answers_long s (e ∷ es) = ap suc (answers_long (after_entry s e) es)

pub entries_long : (s : State) (es : List BatchEntry) → length (batch_entries s es) ≡ length es
entries_long s es = go (batch_fault s (length es)) refl
  where
    go : (q : Option CallFault) → batch_fault s (length es) ≡ q → length (batch_entries s es) ≡ length es
    go (some g) h = ap length (entries_some s es g h)
    go none h = ap length (entries_none s es h) ∙ answers_long s es
