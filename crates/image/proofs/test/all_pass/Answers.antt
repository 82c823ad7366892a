-- `all_pass` meets its contract.
use Rattle.image.proofs.RowLoops.{all_none, all_next}
use Rattle.image.proofs.test.all_pass.Goals as goal

pub loop-i-init : goal.loop-i-init
loop-i-init g c = λ t calls. all_none t

pub loop-i-preserved : goal.loop-i-preserved
loop-i-preserved g c = λ t calls. all_next t _ _ _ (c.loop-i.invariant t calls) (calls _ _ c.loop-i-test.true c.passes-all.ensures)
