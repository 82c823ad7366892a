-- `sinewhopa_submit_all` meets its contract: the batch on the state that the bytes say, noted in the bytes.
use Rattle.std.proofs.Common.{◌≡◌, ◌∙◌, length, List, ℕ}
use Rattle.scheduler.specs.declared.state.State.{State}
use Rattle.scheduler.specs.declared.reply.Reply.{Reply}
use Rattle.batch.specs.declared.entry.BatchEntry.{BatchEntry}
use Rattle.batch.specs.Batch.{batch_reply, batch_entries}
use Rattle.batch.specs.Internal.Turns.{kept_state}
use Rattle.batch.proofs.KeptBatches.{OnBytes, on_bytes}
use Rattle.sinewhopa.proofs.batches.sinewhopa_submit_all.Goals as goal

-- the batch on the state that was read
whole : (b : List ℕ) (es : List BatchEntry)
    → length b ≡ 384
    → (s : State)
    → s ≡ kept_state b
    → (r : Reply)
    → r ≡ batch_reply s es
    → OnBytes b es r (batch_entries s es)
whole b es long s reads r is = rw (is, reads) (on_bytes b es long)

pub returns-clause-number : goal.returns-clause-number
returns-clause-number c =
    c.note_reply.ensures.0
    ∙ (whole c.args.state.now c.args.entries.now c.told-state _ c.kept_state-kept.ensures _ c.submit_all-reply.ensures.0).0

pub returns-clause-bytes : goal.returns-clause-bytes
returns-clause-bytes c =
    c.note_reply.ensures.1
    ∙ (whole c.args.state.now c.args.entries.now c.told-state _ c.kept_state-kept.ensures _ c.submit_all-reply.ensures.0).1

pub returns-clause-answers : goal.returns-clause-answers
returns-clause-answers c =
    c.submit_all-reply.ensures.1
    ∙ (whole c.args.state.now c.args.entries.now c.told-state _ c.kept_state-kept.ensures _ c.submit_all-reply.ensures.0).2
