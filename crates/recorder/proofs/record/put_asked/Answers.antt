-- `put_asked` meets its contract.
use mathlib.Core.Path.{sym, ◌∙◌}
use Rattle.recorder.proofs.RecordSteps.{record_put}
use Rattle.recorder.proofs.record.put_asked.Goals as goal

pub returns-clause-bytes : goal.returns-clause-bytes
returns-clause-bytes c =
    let put = c.copy_from_slice.ensures.after ∙ c.as_slice.ensures in
    let same = c.record_of-wanted.ensures in
    rw (put, same, c.in-Ok.is) (sym (record_put c.in-Ok.made c.args.out.now))
