-- `run_list` meets its contract: what it comes to, and demand 3 by the theorem of `theory`.
use Rattle.lists.proofs.Promises.{ran, starts, not_ran, demanded}
use Rattle.lists.proofs.list.run_list.Goals as goal

pub take_calls-requires : goal.take_calls-requires
take_calls-requires g c = starts _ _ c.read_sheet-verdict.ensures c.in-Ok.is

pub returns-in-Ok : goal.returns-in-Ok
returns-in-Ok g c =
    let said = ran _ c.read_sheet-verdict.result c.read_sheet-verdict.ensures _ _ c.in-Ok.is c.take_calls.ensures in
    record { result = said; demand3 = λ s h. demanded _ _ s h _ said }

pub returns-in-Err-clause-result : goal.returns-in-Err-clause-result
returns-in-Err-clause-result g c = not_ran _ c.read_sheet-verdict.result c.read_sheet-verdict.ensures _ _ c.in-Err.is
