-- `append` meets its contract.
use Rattle.std.proofs.lemmas.Result.{err_from_is_err_and}
use Rattle.recorder.proofs.AppendSteps.{too_long, opens_inside, is_opened, is_unopened}
use Rattle.recorder.proofs.append.append.Goals as goal

pub returns-then-buffer-len : goal.returns-then-buffer-len
returns-then-buffer-len c =
    let said = too_long _ _ _ c.if-buffer-len.true in
    record { answer = said.answer; bytes = said.bytes }

pub append_behind-requires : goal.append_behind-requires
append_behind-requires c = opens_inside _ _ c.args.made c.if-buffer-len.false _ c.open_journal-journal.ensures.result _ c.in_ok-opened.was

pub returns-in_err-opened : goal.returns-in_err-opened
returns-in_err-opened c =
    let said = is_unopened _ _ _ c.if-buffer-len.false _ c.open_journal-journal.ensures.result _ c.in_err-opened.was in
    let p = err_from_is_err_and c.from_residual.result c.from_residual.ensures.1 in
    record { answer = rw (p.1, p.2) said.answer; bytes = said.bytes }

pub returns : goal.returns
returns c =
    let said =
    is_opened _ _ _ c.if-buffer-len.false _ c.open_journal-journal.ensures.result _ c.in_ok-opened.was _ _
    (record { answer = c.append_behind.ensures.answer; bytes = c.append_behind.ensures.bytes }) in
    record { answer = said.answer; bytes = said.bytes }
