-- `sinewhopa_report` meets its contract.
use Rattle.sinewhopa.proofs.KeptReports.{not_reported, reported}
use mathlib.Core.Bool.{not}
use mathlib.Core.Path.{ap}
use Rattle.sinewhopa.proofs.state.sinewhopa_report.Goals as goal

pub returns-then-not-is_sound : goal.returns-then-not-is_sound
returns-then-not-is_sound c =
    let said =
    not_reported c.args.state.now c.args.out.now c.args.refused _
    c.is_sound.ensures (ap not c.if-not-is_sound.true) in
    record { length = said.0; bytes = said.1.0; short = said.1.1 }

pub returns : goal.returns
returns c =
    let said =
    reported c.args.state.now c.args.out.now c.args.refused _
    c.is_sound.ensures (ap not c.if-not-is_sound.false) _
    c.state_in.ensures _ _
    (c.write_report.ensures.length, (c.write_report.ensures.bytes, c.write_report.ensures.short)) in
    record { length = said.0; bytes = said.1.0; short = said.1.1 }
