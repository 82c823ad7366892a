-- `put_words` meets its contract.
use Rattle.std.proofs.Common.{arith, rules, ℕ, ◌+◌, ◌*◌, get_or, refl, ap, ◌∙◌}
use Rattle.std.proofs.lemmas.Fn.{says_at}
use Rattle.std.proofs.lemmas.List.{get_or_default}
use Rattle.image.specs.Layout.{word_byte}
use Rattle.image.specs.Internal.Writes.{put_to}
use Rattle.image.proofs.RowLoops.{put_none, put_row}
use Rattle.image.proofs.write.put_words.Goals as goal

pub loop-i-init : goal.loop-i-init
loop-i-init g c = record { long = c.told-image; put = λ h d calls. put_none _ _ _ }

pub loop-i-preserved : goal.loop-i-preserved
loop-i-preserved g c = record {
  long = c.put_word.array_long;
  put = λ h d calls.
      let read = get_or_default c.args.row c.loop-i.i c.index-row-i.result d (search (rules, arith)) in
      put_row c.args.at (λ i. h (get_or c.args.row i d)) _ _ _ _ (c.loop-i.invariant.put h d calls)
      (c.put_word.ensures ∙ ap (λ (x : ℕ). put_to (c.args.at + 4 * c.loop-i.i) (word_byte x) c.loop-i.image 4) (calls _ _ (says_at g.F.Fn c.word.ensures refl) ∙ ap h read));
}
