-- `put_behind` meets its contract.
use mathlib.Core.Path.{◌∙◌}
use Rattle.recorder.proofs.AppendSteps.{no_room, has_room}
use Rattle.recorder.proofs.append.put_behind.Goals as goal

pub returns-then-buffer-end : goal.returns-then-buffer-end
returns-then-buffer-end c =
    let said = no_room _ _ _ c.requires _ c.record_of-record.ensures c.if-buffer-end.true in
    record { answer = said.answer; bytes = said.bytes }

pub returns : goal.returns
returns c =
    let put = c.copy_from_slice.ensures.after ∙ c.as_slice.ensures in
    let said = has_room _ _ _ c.requires _ c.record_of-record.ensures _ c.if-buffer-end.false put in
    record { answer = said.answer; bytes = said.bytes }
