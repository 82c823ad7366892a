-- `put_call` meets its contract: each row is written over the bytes before it.
use Rattle.std.proofs.Common.{false, rules}
use Rattle.plan.specs.Base.{one_if}
use Rattle.plan.specs.Fates.{fate_number, blank_standing}
use Rattle.plan.specs.Histories.{blank_entry}
use Rattle.image.specs.Types.{Standing, Entry}
use Rattle.image.proofs.CodeSteps.{put_call_rows}
use Rattle.image.proofs.RowLoops.{put_long}
use Rattle.image.proofs.write.put_call.Goals as goal

pub returns : goal.returns
returns c = put_call_rows _ _ _ _ _ _ _ _
    (put_long _ _ _ (c.put_row.ensures (λ (v : Standing). fate_number v.fate) blank_standing (λ x y k. search rules)) (search rules))
    (put_long _ _ _ (c.put_row-2.ensures one_if false (λ x y k. search rules)) (search rules))
    (put_long _ _ _ (c.put_row-3.ensures one_if false (λ x y k. search rules)) (search rules))
    (put_long _ _ _ (c.put_row-4.ensures (λ (v : Entry). v.event) blank_entry (λ x y k. search rules)) (search rules))
    (put_long _ _ _ (c.put_row-5.ensures (λ (v : Entry). fate_number v.fate) blank_entry (λ x y k. search rules)) (search rules))
    c.put_word.ensures
