-- `write_sheet_on` meets its contract.
use Rattle.std.proofs.Common.{ap, sym, ◌∙◌}
use Rattle.plan.specs.Faults.{call_fault_number}
use Rattle.writer.specs.Types.{Ok, Err}
use Rattle.writer.proofs.KeptSheets.{number_other, need_other, buffer_other, number_said, need_said, buffer_said}
use Rattle.writer.proofs.kept.write_sheet_on.Goals as goal

pub returns-then-not-is_image : goal.returns-then-not-is_image
returns-then-not-is_image c =
    let other = sym c.is_image.ensures ∙ c.if-not-is_image.true in
    record {
      number = sym (number_other _ _ other);
      bytes = sym (buffer_other _ _ other);
      need = sym (need_other _ other);
    }

pub returns-in-Ok : goal.returns-in-Ok
returns-in-Ok c =
    let r = Ok c.in-Ok.length in
    let image = sym c.is_image.ensures ∙ c.if-not-is_image.false in
    record {
      number = number_said _ _ image _ c.state_in.ensures r c.in-Ok.ensures.reply;
      bytes = buffer_said _ _ image _ c.state_in.ensures _ c.in-Ok.ensures.bytes;
      need = need_said _ _ image _ c.state_in.ensures r c.in-Ok.ensures.reply;
    }

pub returns-in-Err : goal.returns-in-Err
returns-in-Err c =
    let r = Err c.in-Err.fault in
    let image = sym c.is_image.ensures ∙ c.if-not-is_image.false in
    record {
      number =
          c.call_fault_number.ensures
          ∙ ap call_fault_number c.into.ensures
          ∙ number_said _ _ image _ c.state_in.ensures r c.in-Err.ensures.reply;
      bytes = buffer_said _ _ image _ c.state_in.ensures _ c.in-Err.ensures.bytes;
      need = c.need.ensures ∙ need_said _ _ image _ c.state_in.ensures r c.in-Err.ensures.reply;
    }
