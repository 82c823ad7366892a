-- `append_behind` meets its contract.
use Rattle.recorder.proofs.AppendSteps.{is_taken, is_turned}
use Rattle.recorder.proofs.append.append_behind.Goals as goal

pub returns-in-TurnedDown : goal.returns-in-TurnedDown
returns-in-TurnedDown c =
    let said = is_turned _ _ _ _ _ c.call.ensures _ c.in-TurnedDown.is in
    record { answer = said.answer; bytes = said.bytes }

pub returns : goal.returns
returns c =
    let said =
    is_taken _ _ _ _ _ c.call.ensures _ _ c.in_default.not-TurnedDown
    (record { answer = c.put_behind.ensures.answer; bytes = c.put_behind.ensures.bytes }) in
    record { answer = said.answer; bytes = said.bytes }
