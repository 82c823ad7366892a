-- `submit_all` meets its contract. A batch that is turned down keeps every entry; else each turn answers one.
use Rattle.std.proofs.Common.{◌∙◌, sym}
use Rattle.batch.specs.Types.{Made}
use Rattle.batch.proofs.Verdicts.{taken_coherent, reply_some, reply_none, entries_some, entries_none}
use Rattle.batch.proofs.batch.submit_all.Goals as goal

pub take_turns-requires : goal.take_turns-requires
take_turns-requires c = taken_coherent c.args.state _ c.in-Ok.ensures

pub returns-in-Ok : goal.returns-in-Ok
returns-in-Ok c =
    let s = c.args.state in
    let es = c.args.entries.now in (
      (λ i. record { answer = Made; state = c.take_turns.ensures.state i }) ∙ sym (reply_none s es c.in-Ok.ensures),
      c.take_turns.ensures.entries ∙ sym (entries_none s es c.in-Ok.ensures),
    )

pub returns-in-Err : goal.returns-in-Err
returns-in-Err c =
    let s = c.args.state in
    let es = c.args.entries.now in
    (sym (reply_some s es c.in-Err.fault c.in-Err.ensures), sym (entries_some s es c.in-Err.fault c.in-Err.ensures))
