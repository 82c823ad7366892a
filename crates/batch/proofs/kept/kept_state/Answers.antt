-- `kept_state` meets its contract.
use Rattle.batch.proofs.KeptBatches.{kept_spoilt, kept_read}
use Rattle.batch.proofs.kept.kept_state.Goals as goal

pub returns-then-not-is_image : goal.returns-then-not-is_image
returns-then-not-is_image c = kept_spoilt _ _ c.state_in-state.ensures c.if-not-is_image.ensures

pub returns-else-not-is_image : goal.returns-else-not-is_image
returns-else-not-is_image c = kept_read _ _ c.state_in-state.ensures c.if-not-is_image.ensures
