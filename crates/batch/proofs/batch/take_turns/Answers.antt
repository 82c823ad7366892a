-- `take_turns` meets its contract: each turn answers one entry.
use Rattle.std.proofs.Common.{arith}
use Rattle.batch.proofs.BatchLoop.{goes_on, stops}
use Rattle.batch.proofs.batch.take_turns.Goals as goal

pub loop-entry-preserved : goal.loop-entry-preserved
loop-entry-preserved c =
    rw (c.take_turn-next.ensures.state, c.take_turn-next.ensures.entry)
    (goes_on c.args.state c.args.entries.now c.loop-entry.entry-index c.loop-entry.next
    c.loop-entry.entries c.loop-entry.invariant c.loop-entry-test.true)

pub returns : goal.returns
returns c =
    let at = stops _ _ _ _ _ c.loop-entry.invariant (omega arith) in
    record { state = at.0; entries = at.1 }
