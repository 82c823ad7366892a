-- `put_state` meets its contract.
use Rattle.image.proofs.CodeSteps.{put_whole}
use Rattle.image.proofs.write.put_state.Goals as goal

pub returns : goal.returns
returns c = put_whole _ _ _ c.put_plan.ensures c.put_call.ensures
