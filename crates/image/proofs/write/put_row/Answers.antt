-- `put_row` meets its contract.
use Rattle.std.proofs.Common.{arith, get_or, rules, refl, ap, ◌∙◌}
use Rattle.std.proofs.lemmas.Fn.{says_at}
use Rattle.std.proofs.lemmas.List.{get_or_default}
use Rattle.image.proofs.RowLoops.{put_none, put_next}
use Rattle.image.proofs.write.put_row.Goals as goal

pub loop-i-init : goal.loop-i-init
loop-i-init g c = record { long = c.told-image; put = λ h d calls. put_none _ _ _ }

pub loop-i-preserved : goal.loop-i-preserved
loop-i-preserved g c = record {
  long = search rules;
  put = λ h d calls.
      let read = get_or_default c.args.row c.loop-i.i c.index-row-i.result d (search (rules, arith)) in
      put_next c.args.at (λ i. h (get_or c.args.row i d)) _ _ _ _ (c.loop-i.invariant.put h d calls) (calls _ _ (says_at g.F.Fn c.byte.ensures refl) ∙ ap h read);
}
