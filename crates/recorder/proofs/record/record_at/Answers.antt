-- `record_at` meets its contract.
use Rattle.recorder.proofs.RecordSteps.{read_bad}
use Rattle.recorder.proofs.record.record_at.Goals as goal

pub returns-in-Bad : goal.returns-in-Bad
returns-in-Bad c = read_bad c.args.bytes.now c.args.at _ _ _ c.any_call_at.ensures c.in-Bad.is c.byte_at.ensures c.cut_or_other.ensures
