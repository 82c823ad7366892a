-- `preview_on` meets its contract.
use Rattle.std.proofs.Common.{◌∙◌}
use Rattle.preview.proofs.KeptPreviews.{no_image, on_image}
use Rattle.preview.proofs.kept.preview_on.Goals as goal

pub returns-then-not-is_image : goal.returns-then-not-is_image
returns-then-not-is_image c =
    let said = no_image c.args.image.now c.args.event c.args.added.now c.if-not-is_image.ensures in
    record { number = said.0; counts = said.1 }

pub returns-in-Ok : goal.returns-in-Ok
returns-in-Ok c =
    let said =
    on_image c.args.image.now c.args.event c.args.added.now c.if-not-is_image.ensures _
    c.state_in.ensures _ c.in-Ok.ensures in
    record { number = said.0; counts = said.1 }

pub returns-in-Err : goal.returns-in-Err
returns-in-Err c =
    let said =
    on_image c.args.image.now c.args.event c.args.added.now c.if-not-is_image.ensures _
    c.state_in.ensures _ c.in-Err.ensures in
    record { number = c.call_fault_number.ensures ∙ said.0; counts = said.1 }
